use Rattle.std.proofs.Common.{ℕ, ◌≤◌, List, ◌++◌, length, ◌*◌, take}
use Rattle.live_line.proofs.LetteredBytes.{lettering_of}
use Rattle.live_line.specs.WayText.{HasLettered}
use Rattle.live_line.specs.declared.ways.Way.{Way}
use Rattle.live_line.proofs.lettered.Lettering.put.Given as goal

abbrev pub invariant-loop-byte : goal.invariant-loop-byte
invariant-loop-byte l = record {
  few : length l.lettered.items ≤ 2 * l.byte-index;
  so_far : (way : Way) (stream before bytes : List ℕ)
      → HasLettered l.self way stream before bytes
      → HasLettered (lettering_of way l.begins) way stream (before ++ take l.byte-index l.text)
      (bytes ++ l.lettered.items);
}
