use Rattle.{line_capture.proofs.PlacedBytes.SoFar, line_texts.specs.Texts.writing}
use Rattle.std.proofs.Common.{◌≡◌, take}
use Rattle.line_capture.proofs.placing.place_bytes.Given as goal

-- the bytes so far were placed, and their ticks added
abbrev pub invariant-loop-byte : goal.invariant-loop-byte
invariant-loop-byte g l = record {
  count : l.placed ≡ l.byte-index;
  so_far : SoFar g.O.Sink g.L.Sink l.fn.timing l.placer (take l.byte-index l.bytes)
      (writing l.fn.texts l.fn.out l.fn.log) (writing l.texts l.out l.log);
}
