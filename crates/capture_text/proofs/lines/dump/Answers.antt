use Rattle.capture_text.proofs.DumpLines.{tick_more, lines_end}
use Rattle.capture_text.specs.{Changes.padded_rows, Dump.wires_for, Writer.rate_of, Writer.wires_of}
use Rattle.std.proofs.Common.{◌≡◌, ◌∙◌, ◌<◌, ◌++◌, length, max, take, ap, arith}
use Rattle.capture_text.proofs.lines.dump.Goals as goal

pub loop-n-preserved : goal.loop-n-preserved
loop-n-preserved c = record {
  written = tick_more c.tick-piece.new.self c.args.a.now c.args.b.now c.loop-n.n c.tick_at.result
      c.tick_at-in-loop-n.result (c.loop-n.text.items ++ c.tick-piece.result.items)
      c.extend_from_slice-in-loop-n.new.self.items
      (omega (arith, c.loop-n-test.true, c.longest-ticks.ensures)) c.tick_at.ensures
      c.tick_at-in-loop-n.ensures
      (c.tick-piece.ensures.writes (take c.loop-n.n (padded_rows c.args.a.now c.args.b.now))
      (take c.loop-n.n (padded_rows c.args.b.now c.args.a.now)) c.loop-n.text.items
      c.loop-n.invariant.written)
      (c.in_ok-extend_from_slice-2.ensures.items
      ∙ ap (λ x. c.loop-n.text.items ++ x) c.as_slice.ensures.value);
  count = omega (arith, c.tick-piece.ensures.ticks, c.loop-n.invariant.count);
  rate = c.tick-piece.ensures.rate ∙ c.loop-n.invariant.rate;
  wires = c.tick-piece.ensures.wires ∙ c.loop-n.invariant.wires;
}

pub returns : goal.returns
returns c =
    c.in_ok-extend_from_slice-3.ensures.items
    ∙ ap (λ x. c.loop-n.text.items ++ x) c.as_slice-2.ensures.value
    ∙ lines_end c.args.rate (rate_of c.loop-n.writer) (wires_for c.args.b.now)
    (wires_of c.loop-n.writer) c.args.a.now c.args.b.now c.loop-n.n c.loop-n.text.items
    c.end.result.items
    (omega (arith, c.loop-n-test.false, c.loop-n.auto.n-end, c.longest-ticks.ensures))
    c.loop-n.invariant.rate c.loop-n.invariant.wires
    (c.end.ensures.whole (take c.loop-n.n (padded_rows c.args.a.now c.args.b.now))
    (take c.loop-n.n (padded_rows c.args.b.now c.args.a.now)) c.loop-n.text.items
    c.loop-n.invariant.written)
