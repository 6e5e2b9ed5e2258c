use Rattle.std.proofs.Common.{◌≡◌, ◌≤◌, ◌-◌, length}
use Rattle.{std.specs.Io.KnownBytes.prepend_known, tick_drive.specs.Input.max_bytes}
use Rattle.line_capture.proofs.input.read_input.Given as goal

-- the bytes that were read came first, and no read has failed
abbrev pub invariant-loop-n : goal.invariant-loop-n
invariant-loop-n g l = record {
  came : g.S.Source.left l.fn.source ≡ prepend_known l.bytes.items (g.S.Source.left l.source);
  few : length l.bytes.items ≤ max_bytes;
  same : g.S.Source.faults l.source ≡ g.S.Source.faults l.fn.source;
}

abbrev pub decreases-loop-n : goal.decreases-loop-n
decreases-loop-n g l = max_bytes - length l.bytes.items
