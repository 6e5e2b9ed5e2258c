use Rattle.station_boxes.specs.OwnNames.{AreOwn}
use Rattle.station_boxes.proofs.names.check_names.Given as goal

abbrev pub invariant-loop-place : goal.invariant-loop-place
invariant-loop-place g l = AreOwn l.stations l.place
