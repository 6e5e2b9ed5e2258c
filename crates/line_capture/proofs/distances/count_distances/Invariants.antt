use Rattle.{line_capture.specs.Placed.AllInTime, std.proofs.Common.◌≡◌, std.proofs.Common.None}
use Rattle.line_capture.specs.Distances.{CountsSo}
use Rattle.std.proofs.Common.{take}
use Rattle.line_stamps.specs.Places.{line_of_places}
use Rattle.line_stamps.specs.Placing.{PlacingHasTaken, timing_of}
use Rattle.line_capture.proofs.distances.count_distances.Given as goal

-- the distances of the bytes so far were counted
abbrev pub invariant-loop-byte : goal.invariant-loop-byte
invariant-loop-byte l = record {
  timing : timing_of l.placer ≡ l.fn.timing;
  taken : PlacingHasTaken l.placer (take l.byte-index l.bytes);
  in_time : AllInTime l.fn.timing None (take l.byte-index l.bytes);
  counts : CountsSo (line_of_places l.fn.timing (take l.byte-index l.bytes)) l.found;
}
