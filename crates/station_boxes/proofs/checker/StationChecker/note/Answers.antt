use Rattle.frame_ending.specs.declared.box_step.BoxStep.{BoxStep}
use Rattle.link_box.specs.declared.check_note.CheckNote.{CheckNote}
use Rattle.link_box.specs.declared.check_note.CheckNote.TheVariants as One
use Rattle.sequence_journal.specs.declared.journal.JournalFault.{JournalFault}
use Rattle.station_boxes.proofs.CheckNotes.{fails-passed, is-above, told-dropped, told-none}
use Rattle.station_boxes.proofs.CheckNotes.{told-passed, told-refused}
use Rattle.station_boxes.proofs.Keeping.{keeps-number, keeps-same}
use Rattle.station_boxes.specs.Checks.{CommitsPassed}
use Rattle.station_boxes.specs.Committing.{HasCommittedAt, HasCommittedOrNot, HasFailedAt}
use Rattle.station_boxes.specs.declared.check_note.StationCheckNote.{StationCheckNote}
use Rattle.station_boxes.specs.declared.check_note.StationCheckNote.TheVariants.{Refused}
use Rattle.std.proofs.Common.{◌≡◌, ◌∙◌, Bool, false, [], ◌∷◌, ◌++◌, refl, ap, subst, sym}
use Rattle.std.proofs.Common.{Option, Some, OnErr, Result}
use Rattle.station_boxes.proofs.checker.StationChecker.note.Goals as goal

pub returns-in-Ok-true-clause-step : goal.returns-in-Ok-true-clause-step
returns-in-Ok-true-clause-step g c = λ setup line t heard.
    let e = c.in-Some-Passed in
    let whole : c.args.step.note ≡ Some e.field-0 = e.is in
    let inner : e.field-0 ≡ One.Passed e.field-0-0 e.field-0-1 e.len =
    rw e.is at e.field-0-is in
    let is : c.args.step.note ≡ Some (One.Passed e.field-0-0 e.field-0-1 e.len) =
    whole ∙ ap (λ (x : CheckNote). Some x) inner in
    let has : HasCommittedAt g.S.SlotDisk c.args.stations.now c.commit_number.new.stations
    c.args.self.now.station c.floor-number.result =
    rw c.in-Ok-true.field-0-test at c.in-Ok-true.ensures.done in
    told-passed g.R.LineRules g.M.Mac g.S.SlotDisk c.args.self.now c.args.stations.now
    c.commit_number.new.stations setup line t c.args.step heard e.field-0-0 e.field-0-1
    e.len is c.noted.result
    (ap (λ (s : BoxStep StationCheckNote). s.tick) c.noted.ensures) c.start-start.result
    (c.start-start.ensures (line ++ t ∷ []) heard.cuts) c.floor-number.result
    c.floor-number.ensures.value (ap (λ (s : BoxStep StationCheckNote). s.note) c.noted.ensures) has

pub returns-in-Ok-true-clause-stations : goal.returns-in-Ok-true-clause-stations
returns-in-Ok-true-clause-stations g c = λ link serve.
    let has : HasCommittedAt g.S.SlotDisk c.args.stations.now c.commit_number.new.stations
    c.args.self.now.station c.floor-number.result =
    rw c.in-Ok-true.field-0-test at c.in-Ok-true.ensures.done in
    let P : Option StationCheckNote → Type 0 = λ o.
    CommitsPassed g.S.SlotDisk c.args.stations.now c.commit_number.new.stations o in
    keeps-number g.S.SlotDisk link c.args.stations.now c.commit_number.new.stations c.requires.fits
    serve (λ (s : BoxStep StationCheckNote). P s.note) _ c.args.self.now.station
    c.floor-number.result has c.noted.result
    (subst P (sym (ap (λ (s : BoxStep StationCheckNote). s.note) c.noted.ensures)) has)

pub returns-in-Ok-false-clause-step : goal.returns-in-Ok-false-clause-step
returns-in-Ok-false-clause-step g c = λ setup line t heard.
    let e = c.in-Some-Passed in
    let whole : c.args.step.note ≡ Some e.field-0 = e.is in
    let inner : e.field-0 ≡ One.Passed e.field-0-0 e.field-0-1 e.len =
    rw e.is at e.field-0-is in
    let is : c.args.step.note ≡ Some (One.Passed e.field-0-0 e.field-0-1 e.len) =
    whole ∙ ap (λ (x : CheckNote). Some x) inner in
    let not : HasCommittedOrNot g.S.SlotDisk c.args.stations.now c.commit_number.new.stations
    c.args.self.now.station c.floor-number.result false =
    rw c.in-Ok-false.field-0-test at c.in-Ok-false.ensures.done in
    absurd (is-above g.R.LineRules g.M.Mac g.S.SlotDisk c.args.self.now c.args.stations.now
    c.commit_number.new.stations setup line t c.args.step heard e.field-0-0 e.field-0-1
    e.len is c.floor-number.result c.floor-number.ensures.value not.0)

pub returns-in-Ok-false-clause-stations : goal.returns-in-Ok-false-clause-stations
returns-in-Ok-false-clause-stations g c = λ link serve.
    let not : HasCommittedOrNot g.S.SlotDisk c.args.stations.now c.commit_number.new.stations
    c.args.self.now.station c.floor-number.result false =
    rw c.in-Ok-false.field-0-test at c.in-Ok-false.ensures.done in
    keeps-same g.S.SlotDisk link c.args.stations.now c.commit_number.new.stations c.requires.fits
    serve (λ (s : BoxStep StationCheckNote).
    CommitsPassed g.S.SlotDisk c.args.stations.now c.commit_number.new.stations s.note) _ not.1 _
    not.1

pub returns-in-Err-clause-err_passes : goal.returns-in-Err-clause-err_passes
returns-in-Err-clause-err_passes g c = λ setup line t heard.
    let e = c.in-Some-Passed in
    let whole : c.args.step.note ≡ Some e.field-0 = e.is in
    let inner : e.field-0 ≡ One.Passed e.field-0-0 e.field-0-1 e.len =
    rw e.is at e.field-0-is in
    let is : c.args.step.note ≡ Some (One.Passed e.field-0-0 e.field-0-1 e.len) =
    whole ∙ ap (λ (x : CheckNote). Some x) inner in
    let P : Result Bool JournalFault → Type 0 = λ r. OnErr r (HasFailedAt g.S.SlotDisk
    c.args.stations.now c.commit_number.new.stations c.args.self.now.station
    c.floor-number.result) in
    fails-passed g.R.LineRules g.M.Mac g.S.SlotDisk c.args.self.now c.args.stations.now
    c.commit_number.new.stations setup line t c.args.step heard e.field-0-0 e.field-0-1
    e.len is c.floor-number.result c.floor-number.ensures.value
    (subst P c.in-Err.is c.commit_number.ensures.failed)

pub returns-in-Some-Refused-clause-step : goal.returns-in-Some-Refused-clause-step
returns-in-Some-Refused-clause-step g c = λ setup line t heard.
    let e = c.in-Some-Refused in
    let whole : c.args.step.note ≡ Some e.field-0 = e.is in
    let inner : e.field-0 ≡ One.Refused e.field-0-0 e.why =
    rw e.is at e.field-0-is in
    let is : c.args.step.note ≡ Some (One.Refused e.field-0-0 e.why) =
    whole ∙ ap (λ (x : CheckNote). Some x) inner in
    told-refused g.R.LineRules g.M.Mac g.S.SlotDisk c.args.self.now c.args.stations.now
    c.args.stations.now setup line t c.args.step heard c.noted-in-Some-Refused.result
    (ap (λ (s : BoxStep StationCheckNote). s.tick) c.noted-in-Some-Refused.ensures)
    c.start-start.result (c.start-start.ensures (line ++ t ∷ []) heard.cuts) e.field-0-0 e.why is
    c.has_name-listed.result c.has_name-listed.ensures
    (ap (λ (s : BoxStep StationCheckNote). s.note) c.noted-in-Some-Refused.ensures
    ∙ ap (λ w. Some (Refused c.start-start.result w)) c.station_why-why.ensures)

pub returns-in-Some-Dropped-clause-step : goal.returns-in-Some-Dropped-clause-step
returns-in-Some-Dropped-clause-step g c = λ setup line t heard.
    let e = c.in-Some-Dropped in
    let whole : c.args.step.note ≡ Some e.field-0 = e.is in
    let inner : e.field-0 ≡ One.Dropped e.field-0-0 e.why =
    rw e.is at e.field-0-is in
    let is : c.args.step.note ≡ Some (One.Dropped e.field-0-0 e.why) =
    whole ∙ ap (λ (x : CheckNote). Some x) inner in
    told-dropped g.R.LineRules g.M.Mac g.S.SlotDisk c.args.self.now c.args.stations.now
    c.args.stations.now setup line t c.args.step heard c.noted-in-Some-Dropped.result
    (ap (λ (s : BoxStep StationCheckNote). s.tick) c.noted-in-Some-Dropped.ensures)
    c.start-start.result (c.start-start.ensures (line ++ t ∷ []) heard.cuts) e.field-0-0 e.why is
    (ap (λ (s : BoxStep StationCheckNote). s.note) c.noted-in-Some-Dropped.ensures)

pub returns-in-None-clause-step : goal.returns-in-None-clause-step
returns-in-None-clause-step g c = λ setup line t heard.
    told-none g.R.LineRules g.M.Mac g.S.SlotDisk c.args.self.now c.args.stations.now
    c.args.stations.now setup line t c.args.step heard _ refl c.in-None.is refl
