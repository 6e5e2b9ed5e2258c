use Rattle.std.proofs.Common.{◌+◌, length, ap, arith}
use Rattle.yasir_ticks.proofs.WholeLines.{none_decoded, pair_more, few_ended}
use Rattle.yasir_ticks.proofs.whole_lines.few_pairs.Goals as goal

pub loop-at-init : goal.loop-at-init
loop-at-init c = record {
  at_is = omega (arith, ap length c.new-line.ensures);
  few = omega arith;
  decoded = none_decoded _ c.new-line.ensures;
}

pub returns-then-bytes-at-eq10 : goal.returns-then-bytes-at-eq10
returns-then-bytes-at-eq10 c =
    let now = c.loop-at.invariant in
    let more = pair_more c.args.bytes.now _ _ c.loop-at.at _ _ now.at_is (omega arith) now.decoded
    c.in_ok-high.ensures.value c.in_ok-low.ensures.value c.push.ensures.items in
    few_ended c.args.bytes.now _ (c.loop-at.at + 2) more.1 (omega arith) c.if-bytes-at-eq10.true
    more.0 (omega arith) (omega arith)

pub loop-at-preserved : goal.loop-at-preserved
loop-at-preserved c =
    let now = c.loop-at.invariant in
    let more = pair_more c.args.bytes.now _ _ c.loop-at.at _ _ now.at_is (omega arith) now.decoded
    c.in_ok-high.ensures.value c.in_ok-low.ensures.value c.push.ensures.items in
    record { at_is = more.1; few = omega arith; decoded = more.0 }
