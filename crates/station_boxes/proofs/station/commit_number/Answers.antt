use Rattle.station_boxes.proofs.{Tables.no-floor, Tables.none-found, Tables.place-found}
use Rattle.station_boxes.proofs.Taking.{err-then, ok-then}
use Rattle.sequence_journal.specs.declared.numbers.TheConstants.{LIMIT}
use Rattle.station_boxes.specs.Committing.{HasCommittedOrNot, HasFailedAt}
use Rattle.station_boxes.specs.Served.{IsPlaceOf, table_of}
use Rattle.stations.specs.Table.{table_floor}
use Rattle.std.proofs.Common.{◌≡◌, ◌∙◌, ℕ, sym, refl, arith}
use Rattle.station_boxes.proofs.station.commit_number.Goals as goal

pub commit_above-requires-clause-first : goal.commit_above-requires-clause-first
commit_above-requires-clause-first g c = (
  c.args.name,
  place-found c.args.name c.args.stations.now c.in-Some.place
      (sym c.place_of.ensures.value ∙ c.in-Some.is),
)

pub returns-in-Some-clause-done : goal.returns-in-Some-clause-done
returns-in-Some-clause-done g c =
    let p = place-found c.args.name c.args.stations.now c.in-Some.place
    (sym c.place_of.ensures.value ∙ c.in-Some.is) in
    ok-then
    (λ done. (name : ℕ) → IsPlaceOf c.args.stations.now name c.in-Some.place
    → HasCommittedOrNot g.D.SlotDisk c.args.stations.now c.commit_above.new.stations name
    c.args.number done)
    (HasCommittedOrNot g.D.SlotDisk c.args.stations.now c.commit_above.new.stations c.args.name
    c.args.number)
    (λ done all. all c.args.name p) c.commit_above.result c.commit_above.ensures.done

pub returns-in-Some-clause-failed : goal.returns-in-Some-clause-failed
returns-in-Some-clause-failed g c =
    let p = place-found c.args.name c.args.stations.now c.in-Some.place
    (sym c.place_of.ensures.value ∙ c.in-Some.is) in
    err-then
    ((name : ℕ) → IsPlaceOf c.args.stations.now name c.in-Some.place
    → HasFailedAt g.D.SlotDisk c.args.stations.now c.commit_above.new.stations name c.args.number)
    (HasFailedAt g.D.SlotDisk c.args.stations.now c.commit_above.new.stations c.args.name
    c.args.number)
    (λ all. all c.args.name p) c.commit_above.result c.commit_above.ensures.failed

pub returns-in-None-clause-done : goal.returns-in-None-clause-done
returns-in-None-clause-done g c =
    let at : table_floor LIMIT (table_of c.args.stations.now) c.args.name ≡ LIMIT =
    no-floor c.args.name c.args.stations.now (none-found c.args.name c.args.stations.now
    (sym c.place_of.ensures.value ∙ c.in-None.is)) in
    let within = c.requires.within in
    (omega arith, refl)
