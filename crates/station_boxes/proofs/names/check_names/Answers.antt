use Rattle.station_boxes.proofs.Owning.{own-not}
use Rattle.std.proofs.Common.{◌∙◌, sym, arith}
use Rattle.station_boxes.proofs.names.check_names.Goals as goal

pub loop-place-init : goal.loop-place-init
loop-place-init g c = λ front one back is before. absurd (omega arith)

pub returns-then-has_name-clause-twice : goal.returns-then-has_name-clause-twice
returns-then-has_name-clause-twice g c =
    own-not c.args.stations.now c.loop-place.place c.index-stations-place.result
    c.loop-place-test.true (sym c.has_name.ensures ∙ c.if-has_name.true) c.loop-place.invariant
