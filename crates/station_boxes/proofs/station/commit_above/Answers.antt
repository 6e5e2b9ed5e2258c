use Rattle.station_boxes.proofs.Taking.{commits-fault, commits-number, may-commit, not-above}
use Rattle.std.proofs.Common.{arith}
use Rattle.station_boxes.proofs.station.commit_above.Goals as goal

pub returns-then-number-floor-clause-done : goal.returns-then-number-floor-clause-done
returns-then-number-floor-clause-done g c = λ name p.
    not-above g.D.SlotDisk c.args.stations.now name c.args.place p c.index-stations-place.result
    c.floor.result c.args.number c.floor.ensures.value c.if-number-floor.true

pub commit_at-requires-clause-may : goal.commit_at-requires-clause-may
commit_at-requires-clause-may g c =
    may-commit g.D.SlotDisk c.args.stations.now c.requires.first.0 c.args.place c.requires.first.1
    c.index-stations-place.result c.floor.result c.args.number c.floor.ensures.value
    (λ few. let more = c.if-number-floor.false in absurd (omega arith)) c.requires.within
    c.requires.fits

pub returns-in-Ok-clause-done : goal.returns-in-Ok-clause-done
returns-in-Ok-clause-done g c = λ name p.
    commits-number g.D.SlotDisk c.args.stations.now name c.args.place p c.args.number
    c.commit_at.new.stations c.commit_at.result
    (c.commit_at.ensures p.front p.one p.back p.is p.at) _ c.in-Ok.is

pub returns-in-Err-clause-failed : goal.returns-in-Err-clause-failed
returns-in-Err-clause-failed g c = λ name p.
    commits-fault g.D.SlotDisk c.args.stations.now name c.args.place p c.args.number
    c.commit_at.new.stations c.commit_at.result
    (c.commit_at.ensures p.front p.one p.back p.is p.at) _ c.in-Err.is
