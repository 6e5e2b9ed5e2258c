use Rattle.frame_ending.specs.Stands.{ticks_taken as ticks_cut}
use Rattle.station_boxes.proofs.CheckTurns.{no-start, no-start-is, start-anew, start-busy}
use Rattle.station_boxes.specs.{CheckBetween.IsTurned, Served.table_of}
use Rattle.station_boxes.specs.declared.checker.StationChecker.{StationChecker}
use Rattle.std.proofs.Common.{◌≡◌, ◌∙◌, ◌≤◌, ℕ, ap, sym, subst, arith, rules}
use Rattle.yasir_ticks.specs.declared.TheConstants.{MAX_TICKS}
use Rattle.station_boxes.proofs.checker.StationChecker.hear.Goals as goal

pub turn_to-requires : goal.turn_to-requires
turn_to-requires g c =
    let same : ticks_cut c.take-step.new.self.cut ≡ ticks_cut c.args.self.now.cut =
    ap (λ (v : StationChecker g.row.R.Denot g.row.M.Denot g.row.B g.row.D). ticks_cut v.cut)
    c.take-step.ensures.others in
    let ahead = c.requires.ahead.ticks in
    let some : 1 ≤ ticks_cut c.take-step.new.self.cut = omega arith in
    search (rules, some)

pub take-requires : goal.take-requires
take-requires g c =
    let same : ticks_cut c.turn_to.new.self.cut ≡ ticks_cut c.args.self.now.cut =
    ap (λ (v : StationChecker g.row.R.Denot g.row.M.Denot g.row.B g.row.D). ticks_cut v.cut)
    c.turn_to.ensures.turned.others
    ∙ ap (λ (v : StationChecker g.row.R.Denot g.row.M.Denot g.row.B g.row.D). ticks_cut v.cut)
    c.take-step.ensures.others in
    let before = c.requires.room in
    let room : ticks_cut c.turn_to.new.self.cut ≤ MAX_TICKS = omega arith in
    search (rules, room)

pub returns-then-is_dropped_busy-clause-step : goal.returns-then-is_dropped_busy-clause-step
returns-then-is_dropped_busy-clause-step g c = λ setup line next.
    start-busy g.R.LineRules g.M.Mac c.args.self.now c.take-step.new.self
    (table_of c.args.stations.now) setup line c.args.t c.args.cut next c.take-step.result
    (record {
      others = c.take-step.ensures.others;
      takes = c.take-step.ensures.step;
      used = c.take-step.ensures.used;
    }) c.in-Start.byte c.in-Start.is
    (sym c.is_dropped_busy.ensures ∙ c.if-is_dropped_busy.true)

pub returns-else-is_dropped_busy-clause-step : goal.returns-else-is_dropped_busy-clause-step
returns-else-is_dropped_busy-clause-step g c = λ setup line next.
    let now = table_of c.args.stations.now in
    let T : ℕ → Type 0 = λ n. IsTurned g.R.LineRules g.M.Mac c.take-step.new.self
    c.turn_to.new.self now n in
    start-anew g.R.LineRules g.M.Mac c.args.self.now c.take-step.new.self now setup line c.args.t
    c.args.cut next c.take-step.result
    (record {
      others = c.take-step.ensures.others;
      takes = c.take-step.ensures.step;
      used = c.take-step.ensures.used;
    }) c.in-Start.byte c.in-Start.is
    (sym c.is_dropped_busy.ensures ∙ c.if-is_dropped_busy.false) c.turn_to.new.self c.take.new.self
    (subst T c.from.ensures c.turn_to.ensures.turned) c.take.result
    (record {
      others = c.take.ensures.others;
      takes = c.take.ensures.step;
      used = c.take.ensures.used;
    })

pub returns-in-Live-clause-step : goal.returns-in-Live-clause-step
returns-in-Live-clause-step g c = λ setup line next.
    no-start g.R.LineRules g.M.Mac c.args.self.now c.take-step.new.self
    (table_of c.args.stations.now) setup line c.args.t c.args.cut next c.take-step.result
    (record {
      others = c.take-step.ensures.others;
      takes = c.take-step.ensures.step;
      used = c.take-step.ensures.used;
    }) (no-start-is c.args.cut c.in-Live.is)
