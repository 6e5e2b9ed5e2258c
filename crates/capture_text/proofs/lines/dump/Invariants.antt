use Rattle.capture_text.specs.{Changes.padded_rows, Dump.wires_for}
use Rattle.capture_text.specs.Writer.{HasWritten, rate_of, wires_of, ticks_of}
use Rattle.std.proofs.Common.{◌≡◌, take}
use Rattle.capture_text.proofs.lines.dump.Given as goal

-- The ticks so far were written.
abbrev pub invariant-loop-n : goal.invariant-loop-n
invariant-loop-n l = record {
  written : HasWritten l.writer (take l.n (padded_rows l.a l.b)) (take l.n (padded_rows l.b l.a)) l.text.items;
  count : ticks_of l.writer ≡ l.n;
  rate : rate_of l.writer ≡ l.fn.rate;
  wires : wires_of l.writer ≡ wires_for l.b;
}
