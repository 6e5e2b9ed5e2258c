use Rattle.station_boxes.proofs.{Tables.none-found, Tables.place-found, Taking.err-then}
use Rattle.station_boxes.proofs.Taking.{ok-then}
use Rattle.station_boxes.specs.Committing.{HasFailedNext, HasTakenNumber}
use Rattle.station_boxes.specs.Served.{IsPlaceOf}
use Rattle.std.proofs.Common.{◌∙◌, ℕ, sym, refl}
use Rattle.station_boxes.proofs.station.take_number.Goals as goal

pub take_next-requires-clause-first : goal.take_next-requires-clause-first
take_next-requires-clause-first g c = (
  c.args.name,
  place-found c.args.name c.args.stations.now c.in-Some.place
      (sym c.place_of.ensures.value ∙ c.in-Some.is),
)

pub returns-in-Some-clause-taken : goal.returns-in-Some-clause-taken
returns-in-Some-clause-taken g c =
    let p = place-found c.args.name c.args.stations.now c.in-Some.place
    (sym c.place_of.ensures.value ∙ c.in-Some.is) in
    ok-then
    (λ taken. (name : ℕ) → IsPlaceOf c.args.stations.now name c.in-Some.place
    → HasTakenNumber g.D.SlotDisk c.args.stations.now c.take_next.new.stations name taken)
    (HasTakenNumber g.D.SlotDisk c.args.stations.now c.take_next.new.stations c.args.name)
    (λ taken all. all c.args.name p) c.take_next.result c.take_next.ensures.taken

pub returns-in-Some-clause-failed : goal.returns-in-Some-clause-failed
returns-in-Some-clause-failed g c =
    let p = place-found c.args.name c.args.stations.now c.in-Some.place
    (sym c.place_of.ensures.value ∙ c.in-Some.is) in
    err-then
    ((name : ℕ) → IsPlaceOf c.args.stations.now name c.in-Some.place
    → HasFailedNext g.D.SlotDisk c.args.stations.now c.take_next.new.stations name)
    (HasFailedNext g.D.SlotDisk c.args.stations.now c.take_next.new.stations c.args.name)
    (λ all. all c.args.name p) c.take_next.result c.take_next.ensures.failed

pub returns-in-None-clause-taken : goal.returns-in-None-clause-taken
returns-in-None-clause-taken g c =
    (none-found c.args.name c.args.stations.now (sym c.place_of.ensures.value ∙ c.in-None.is), refl)
