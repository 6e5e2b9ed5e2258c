use Rattle.std.proofs.Common.{[], ◌∷◌, ◌++◌, refl}
use Rattle.yasir_ticks.specs.declared.tick.Tick.TheVariants.{Silent}
use Rattle.station_boxes.proofs.{Closing.left-form, Keeping.keeps-left, Taking.err-then}
use Rattle.station_boxes.proofs.Taking.{ok-then}
use Rattle.station_boxes.specs.Served.{table_of}
use Rattle.station_boxes.proofs.sealer.StationSealer.close.Goals as goal

pub returns-in-Some-clause-step : goal.returns-in-Some-clause-step
returns-in-Some-clause-step g c = λ setup s line between.
    c.leave.ensures.step (table_of c.args.stations.now) setup s line between
    (left-form g.R.LineRules g.M.Mac g.row.B setup s (line ++ Silent ∷ [])
    c.args.self.now.earliest_start between.free_is c.in-Some.why c.in-Some.ensures.form
    (c.in-Some.ensures.judged (line ++ Silent ∷ []) between.cuts))

pub returns-in-Some-clause-stations : goal.returns-in-Some-clause-stations
returns-in-Some-clause-stations g c = λ link serve.
    keeps-left g.D.SlotDisk link c.args.stations.now c.args.stations.now c.requires.fits serve refl
    c.leave.ensures.note.0 c.in-Some.why c.leave.result c.leave.ensures.note.1

pub returns-in-None-clause-step : goal.returns-in-None-clause-step
returns-in-None-clause-step g c =
    ok-then _ _
    (λ step f setup s line between. f setup s line between
    (c.in-None.ensures.judged (line ++ Silent ∷ []) between.cuts))
    c.close_frame.result c.close_frame.ensures.step

pub returns-in-None-clause-err_seals : goal.returns-in-None-clause-err_seals
returns-in-None-clause-err_seals g c =
    err-then _ _
    (λ f setup s line between. f setup s line between
    (c.in-None.ensures.judged (line ++ Silent ∷ []) between.cuts))
    c.close_frame.result c.close_frame.ensures.err_seals
