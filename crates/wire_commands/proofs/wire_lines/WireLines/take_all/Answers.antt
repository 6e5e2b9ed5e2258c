use Rattle.std.proofs.Common.{◌+◌, ◌-◌, ◌≡◌, ℕ, subst, arith}
use Rattle.wire_commands.proofs.Taking.{goes-on}
use Rattle.wire_commands.specs.Making.{IsAble}
use Rattle.wire_commands.proofs.wire_lines.WireLines.take_all.Goals as goal

pub loop-count-preserved : goal.loop-count-preserved
loop-count-preserved g c =
    let count : ℕ = c.loop-count.count in
    let steps : ℕ = c.args.steps in
    let n : ℕ = c.in-Ok.some in
    let some = rw (c.behind.ensures, c.behind-in-loop-count.ensures) at c.in-Ok.ensures in
    let left : (steps - count) - n ≡ steps - (count + n) = omega arith in
    record {
      within = omega (arith, some.within, c.loop-count.invariant.within);
      counted = omega (arith, some.counted, c.loop-count.invariant.counted);
      able = subst (IsAble g.S.LinkBox g.C.LinkBox c.take_some.new.self) left some.able;
      made = λ side waits sent_setup got_setup made.
          goes-on g.S.LinkBox g.S.LineBox.line_of g.C.LinkBox g.C.LineBox.line_of side waits sent_setup
          got_setup c.loop-count.self c.take_some.new.self count n steps c.args.device.now
          c.args.link.now some (c.loop-count.invariant.made side waits sent_setup got_setup made);
    }
