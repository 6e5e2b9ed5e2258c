use Rattle.station_boxes.proofs.Taking.{may-take, takes-fault, takes-none, takes-number, within-limit}
use Rattle.sequence_journal.specs.declared.numbers.TheConstants.{LIMIT}
use Rattle.std.proofs.Common.{◌+◌, ◌≤◌, refl}
use Rattle.station_boxes.proofs.station.take_next.Goals as goal

pub returns-then-floor-eq-LIMIT-clause-taken : goal.returns-then-floor-eq-LIMIT-clause-taken
returns-then-floor-eq-LIMIT-clause-taken g c = λ name p.
    takes-none g.D.SlotDisk c.args.stations.now name c.args.place p c.index-stations-place.result
    c.floor-floor.result c.floor-floor.ensures.value c.if-floor-eq-LIMIT.true

pub commit_at-requires-clause-may : goal.commit_at-requires-clause-may
commit_at-requires-clause-may g c =
    let below : c.floor-floor.result ≤ LIMIT = c.floor-floor.ensures.within in
    let other = c.if-floor-eq-LIMIT.false in
    may-take g.D.SlotDisk c.args.stations.now c.requires.first.0 c.args.place c.requires.first.1
    c.index-stations-place.result c.floor-floor.result (c.floor-floor.result + 1)
    c.floor-floor.ensures.value refl (within-limit c.floor-floor.result below other)
    c.requires.fits

pub returns-in-Ok-clause-taken : goal.returns-in-Ok-clause-taken
returns-in-Ok-clause-taken g c = λ name p.
    let below : c.floor-floor.result ≤ LIMIT = c.floor-floor.ensures.within in
    takes-number g.D.SlotDisk c.args.stations.now name c.args.place p
    c.index-stations-place.result c.floor-floor.result (c.floor-floor.result + 1)
    c.floor-floor.ensures.value refl
    (within-limit c.floor-floor.result below c.if-floor-eq-LIMIT.false)
    c.commit_at.new.stations c.commit_at.result
    (c.commit_at.ensures p.front p.one p.back p.is p.at) _ c.in-Ok.is

pub returns-in-Err-clause-failed : goal.returns-in-Err-clause-failed
returns-in-Err-clause-failed g c = λ name p.
    let below : c.floor-floor.result ≤ LIMIT = c.floor-floor.ensures.within in
    takes-fault g.D.SlotDisk c.args.stations.now name c.args.place p
    c.index-stations-place.result c.floor-floor.result (c.floor-floor.result + 1)
    c.floor-floor.ensures.value refl
    (within-limit c.floor-floor.result below c.if-floor-eq-LIMIT.false)
    c.commit_at.new.stations c.commit_at.result
    (c.commit_at.ensures p.front p.one p.back p.is p.at) _ c.in-Err.is
