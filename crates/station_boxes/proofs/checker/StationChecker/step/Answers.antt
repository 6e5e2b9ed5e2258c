use Rattle.frame_ending.specs.Stands.{ticks_taken as ticks_cut}
use Rattle.station_boxes.proofs.CheckTurns.{cut-next}
use Rattle.station_boxes.proofs.Taking.{err-then, ok-always, ok-then}
use Rattle.station_boxes.specs.{CheckBetween.FailsPassed, CheckBetween.IsHeard, Served.table_of}
use Rattle.station_boxes.specs.CheckStands.{IsAhead, StationsCheckFor, StationsHaveChecked}
use Rattle.station_boxes.specs.Walks.{StationSetup}
use Rattle.station_boxes.specs.declared.checker.StationChecker.{StationChecker}
use Rattle.std.proofs.Common.{◌∙◌, List, ap, subst, sym, IfOk}
use Rattle.yasir_ticks.specs.declared.tick.Tick.{Tick}
use Rattle.station_boxes.proofs.checker.StationChecker.step.Goals as goal

pub returns-clause-taken : goal.returns-clause-taken
returns-clause-taken g c =
    ok-always c.note.result
    (ap (λ (v : StationChecker g.row.R.Denot g.row.M.Denot g.row.B g.row.D). ticks_cut v.cut)
    c.note.ensures.same
    ∙ (ap (λ v. ticks_cut v) c.hear-step.ensures.cut ∙ c.step-cut.ensures.taken))

pub returns-clause-whole : goal.returns-clause-whole
returns-clause-whole g c =
    let W : StationChecker g.row.R.Denot g.row.M.Denot g.row.B g.row.D → Type 0 = λ v.
    IsAhead g.R.LineRules g.M.Mac v 0 in
    ok-always c.note.result (subst W (sym c.note.ensures.same) c.hear-step.ensures.whole)

pub returns-clause-step : goal.returns-clause-step
returns-clause-step g c =
    let old = table_of c.args.stations.now in
    let new = table_of c.note.new.stations in
    let value = c.hear-step.new.self in
    let V : StationChecker g.row.R.Denot g.row.M.Denot g.row.B g.row.D → Type 0 = λ v.
    IfOk c.note.result (λ told. (setup : StationSetup) (line : List Tick)
    → StationsCheckFor g.R.LineRules g.M.Mac c.args.self.now old setup line
    → StationsHaveChecked g.R.LineRules g.M.Mac v new setup line c.args.t told) in
    subst V (sym c.note.ensures.same) (ok-then
    (λ told. (setup : StationSetup) (line : List Tick) (t : Tick)
    → IsHeard g.R.LineRules g.M.Mac value old setup line t c.hear-step.result
    → StationsHaveChecked g.R.LineRules g.M.Mac value new setup line t told)
    (λ told. (setup : StationSetup) (line : List Tick)
    → StationsCheckFor g.R.LineRules g.M.Mac c.args.self.now old setup line
    → StationsHaveChecked g.R.LineRules g.M.Mac value new setup line c.args.t told)
    (λ told all setup line stands. all setup line c.args.t
    (c.hear-step.ensures.step setup line
    (cut-next g.R.LineRules g.M.Mac c.args.self.now c.step-cut.new.self old setup line c.args.t
    c.step-cut.result stands c.step-cut.ensures.stands c.step-cut.ensures.answer)))
    c.note.result c.note.ensures.step)

pub returns-clause-err_passes : goal.returns-clause-err_passes
returns-clause-err_passes g c =
    let old = table_of c.args.stations.now in
    let value = c.hear-step.new.self in
    err-then
    ((setup : StationSetup) (line : List Tick) (t : Tick)
    → IsHeard g.R.LineRules g.M.Mac value old setup line t c.hear-step.result
    → FailsPassed g.R.LineRules g.M.Mac g.row.B g.S.SlotDisk c.args.stations.now c.note.new.stations
    setup line t)
    ((setup : StationSetup) (line : List Tick)
    → StationsCheckFor g.R.LineRules g.M.Mac c.args.self.now old setup line
    → FailsPassed g.R.LineRules g.M.Mac g.row.B g.S.SlotDisk c.args.stations.now c.note.new.stations
    setup line c.args.t)
    (λ all setup line stands. all setup line c.args.t
    (c.hear-step.ensures.step setup line
    (cut-next g.R.LineRules g.M.Mac c.args.self.now c.step-cut.new.self old setup line c.args.t
    c.step-cut.result stands c.step-cut.ensures.stands c.step-cut.ensures.answer)))
    c.note.result c.note.ensures.err_passes

pub returns-clause-stations : goal.returns-clause-stations
returns-clause-stations g c = c.note.ensures.stations _ c.requires.of_link
