use Rattle.std.proofs.Common.{[], ◌∷◌, ◌++◌}
use Rattle.yasir_ticks.specs.declared.tick.Tick.TheVariants.{Silent}
use Rattle.station_boxes.proofs.Stepping.{leave-taken}
use Rattle.station_boxes.proofs.sealer.StationSealer.leave.Goals as goal

pub returns-clause-step : goal.returns-clause-step
returns-clause-step g c = λ table setup s line between left.
    leave-taken g.R.LineRules g.M.Mac c.args.self.now table setup s line c.next_tick.new.self
    c.next_tick.result c.start.result c.args.why c.next_tick.ensures.unsent
    c.next_tick.ensures.tick between (c.start.ensures (line ++ Silent ∷ []) between.cuts) left
