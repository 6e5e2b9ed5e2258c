use Rattle.std.proofs.Common.{◌≡◌, ◌∙◌, ℕ, List, ap, sym, subst, OnErr, Result}
use Rattle.yasir_ticks.specs.declared.tick.Tick.TheVariants.{Silent}
use Rattle.sequence_journal.specs.declared.journal.JournalFault.{JournalFault}
use Rattle.station_boxes.proofs.Closing.{frame-between, frame-fails, frame-sealed, frame-spent}
use Rattle.station_boxes.proofs.Closing.{frame-unlisted}
use Rattle.station_boxes.proofs.Keeping.{keeps-committed, keeps-failed, keeps-left}
use Rattle.station_boxes.specs.Committing.{HasFailedNext, HasTakenNumber}
use Rattle.station_boxes.specs.{Names.name_in, Served.table_of, Stands.StationsHaveTaken}
use Rattle.station_boxes.specs.Walks.{HasHeard, HasText}
use Rattle.station_boxes.specs.declared.note.UnsealedStationWhy.TheVariants as Why
use Rattle.station_boxes.specs.declared.station.{Station.Station, Taken.Taken}
use Rattle.station_boxes.specs.declared.station.Taken.TheVariants.{Number, Spent, Unlisted}
use Rattle.station_boxes.proofs.sealer.StationSealer.close_frame.Goals as goal

pub returns-in-Ok-Number-clause-step : goal.returns-in-Ok-Number-clause-step
returns-in-Ok-Number-clause-step g c = λ setup s line between right.
    let d = g.D.SlotDisk in
    let old = c.args.stations.now in
    let new = c.take_number.new.stations in
    let self = c.complete.new.self in
    let name = c.name_in-name.result in
    let name_is : name ≡ name_in self.naming self.head.items =
    c.name_in-name.ensures ∙ ap (λ x. name_in self.naming x) c.as_slice.ensures.value in
    let t : HasTakenNumber d old new name (Number c.in-Ok-Number.number) =
    rw c.in-Ok-Number.field-0-is at c.in-Ok-Number.ensures.taken in
    let completes : (live : List ℕ)
    → HasHeard g.R.LineRules g.M.Mac c.args.self.now.mac c.args.self.now.head.items setup live
    → HasText g.R.LineRules g.M.Mac self.mac setup live =
    λ live heard. c.complete.ensures.text setup live between.naming_is between.direction_is
    between.agrees.keys heard in
    c.seal.ensures.step (table_of old) (table_of new) setup s line
    (frame-between g.R.LineRules g.M.Mac d c.args.self.now self old setup s line between right
    c.complete.ensures.others completes name name_is)
    (frame-sealed g.R.LineRules g.M.Mac d c.args.self.now self old setup s line between right
    c.complete.ensures.others completes name name_is new c.in-Ok-Number.number t.0 t.1 t.2)

pub returns-in-Ok-Number-clause-stations : goal.returns-in-Ok-Number-clause-stations
returns-in-Ok-Number-clause-stations g c = λ link serve.
    let d = g.D.SlotDisk in
    let old = c.args.stations.now in
    let new = c.take_number.new.stations in
    let name = c.name_in-name.result in
    let t : HasTakenNumber d old new name (Number c.in-Ok-Number.number) =
    rw c.in-Ok-Number.field-0-is at c.in-Ok-Number.ensures.taken in
    let noted = c.seal.ensures.note in
    keeps-committed d link old new c.requires.fits serve name c.in-Ok-Number.number noted.0 noted.1
    t.2 c.seal.result noted.2

pub returns-in-Ok-Spent-clause-step : goal.returns-in-Ok-Spent-clause-step
returns-in-Ok-Spent-clause-step g c = λ setup s line between right.
    let d = g.D.SlotDisk in
    let old = c.args.stations.now in
    let new = c.take_number.new.stations in
    let self = c.complete.new.self in
    let name = c.name_in-name.result in
    let name_is : name ≡ name_in self.naming self.head.items =
    c.name_in-name.ensures ∙ ap (λ x. name_in self.naming x) c.as_slice.ensures.value in
    let t : HasTakenNumber d old new name Spent =
    rw c.in-Ok-Spent.field-0-is at c.in-Ok-Spent.ensures.taken in
    let completes : (live : List ℕ)
    → HasHeard g.R.LineRules g.M.Mac c.args.self.now.mac c.args.self.now.head.items setup live
    → HasText g.R.LineRules g.M.Mac self.mac setup live =
    λ live heard. c.complete.ensures.text setup live between.naming_is between.direction_is
    between.agrees.keys heard in
    let S : List (Station g.row.D.Denot) → Type 0 = λ l. StationsHaveTaken g.R.LineRules g.M.Mac
    c.leave.new.self (table_of l) setup line Silent c.leave.result in
    subst S (sym t.2) (c.leave.ensures.step (table_of old) setup s line
    (frame-between g.R.LineRules g.M.Mac d c.args.self.now self old setup s line between right
    c.complete.ensures.others completes name name_is)
    (frame-spent g.R.LineRules g.M.Mac d c.args.self.now self old setup s line between right
    c.complete.ensures.others completes name name_is t.0 t.1))

pub returns-in-Ok-Spent-clause-stations : goal.returns-in-Ok-Spent-clause-stations
returns-in-Ok-Spent-clause-stations g c = λ link serve.
    let d = g.D.SlotDisk in
    let old = c.args.stations.now in
    let new = c.take_number.new.stations in
    let name = c.name_in-name.result in
    let t : HasTakenNumber d old new name Spent =
    rw c.in-Ok-Spent.field-0-is at c.in-Ok-Spent.ensures.taken in
    keeps-left d link old new c.requires.fits serve t.2 c.leave.ensures.note.0 Why.Spent
    c.leave.result c.leave.ensures.note.1

pub returns-in-Ok-Unlisted-clause-step : goal.returns-in-Ok-Unlisted-clause-step
returns-in-Ok-Unlisted-clause-step g c = λ setup s line between right.
    let d = g.D.SlotDisk in
    let old = c.args.stations.now in
    let new = c.take_number.new.stations in
    let self = c.complete.new.self in
    let name = c.name_in-name.result in
    let name_is : name ≡ name_in self.naming self.head.items =
    c.name_in-name.ensures ∙ ap (λ x. name_in self.naming x) c.as_slice.ensures.value in
    let t : HasTakenNumber d old new name Unlisted =
    rw c.in-Ok-Unlisted.field-0-is at c.in-Ok-Unlisted.ensures.taken in
    let completes : (live : List ℕ)
    → HasHeard g.R.LineRules g.M.Mac c.args.self.now.mac c.args.self.now.head.items setup live
    → HasText g.R.LineRules g.M.Mac self.mac setup live =
    λ live heard. c.complete.ensures.text setup live between.naming_is between.direction_is
    between.agrees.keys heard in
    let S : List (Station g.row.D.Denot) → Type 0 = λ l. StationsHaveTaken g.R.LineRules g.M.Mac
    c.leave-in-Ok-Unlisted.new.self (table_of l) setup line Silent c.leave-in-Ok-Unlisted.result in
    subst S (sym t.1) (c.leave-in-Ok-Unlisted.ensures.step (table_of old) setup s line
    (frame-between g.R.LineRules g.M.Mac d c.args.self.now self old setup s line between right
    c.complete.ensures.others completes name name_is)
    (frame-unlisted g.R.LineRules g.M.Mac d c.args.self.now self old setup s line between right
    c.complete.ensures.others completes name name_is t.0))

pub returns-in-Ok-Unlisted-clause-stations : goal.returns-in-Ok-Unlisted-clause-stations
returns-in-Ok-Unlisted-clause-stations g c = λ link serve.
    let d = g.D.SlotDisk in
    let old = c.args.stations.now in
    let new = c.take_number.new.stations in
    let name = c.name_in-name.result in
    let t : HasTakenNumber d old new name Unlisted =
    rw c.in-Ok-Unlisted.field-0-is at c.in-Ok-Unlisted.ensures.taken in
    keeps-left d link old new c.requires.fits serve t.1 c.leave-in-Ok-Unlisted.ensures.note.0 Why.Station
    c.leave-in-Ok-Unlisted.result c.leave-in-Ok-Unlisted.ensures.note.1

pub returns-in-Err-clause-err_seals : goal.returns-in-Err-clause-err_seals
returns-in-Err-clause-err_seals g c = λ setup s line between right.
    let d = g.D.SlotDisk in
    let old = c.args.stations.now in
    let new = c.take_number.new.stations in
    let self = c.complete.new.self in
    let name = c.name_in-name.result in
    let name_is : name ≡ name_in self.naming self.head.items =
    c.name_in-name.ensures ∙ ap (λ x. name_in self.naming x) c.as_slice.ensures.value in
    let P : Result Taken JournalFault → Type 0 = λ r. OnErr r (HasFailedNext d old new name) in
    let completes : (live : List ℕ)
    → HasHeard g.R.LineRules g.M.Mac c.args.self.now.mac c.args.self.now.head.items setup live
    → HasText g.R.LineRules g.M.Mac self.mac setup live =
    λ live heard. c.complete.ensures.text setup live between.naming_is between.direction_is
    between.agrees.keys heard in
    frame-fails g.R.LineRules g.M.Mac d c.args.self.now self old setup s line between right
    c.complete.ensures.others completes name name_is new
    (subst P c.in-Err.is c.take_number.ensures.failed)

pub returns-in-Err-clause-stations : goal.returns-in-Err-clause-stations
returns-in-Err-clause-stations g c = λ link serve.
    let d = g.D.SlotDisk in
    let old = c.args.stations.now in
    let new = c.take_number.new.stations in
    let name = c.name_in-name.result in
    let P : Result Taken JournalFault → Type 0 = λ r. OnErr r (HasFailedNext d old new name) in
    keeps-failed d link old new c.requires.fits serve name
    (subst P c.in-Err.is c.take_number.ensures.failed) _
