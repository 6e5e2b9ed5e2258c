use Rattle.std.proofs.Common.{get_or, refl, arith}
use Rattle.yasir_ticks.proofs.WholeLines.{digit_more}
use Rattle.yasir_ticks.proofs.whole_lines.spelled_number.Goals as goal

pub loop-digits-preserved : goal.loop-digits-preserved
loop-digits-preserved c =
    let now = c.loop-digits.invariant in
    let more = digit_more c.args.bytes.now c.loop-digits.digits c.loop-digits.number
    (get_or c.args.bytes.now c.loop-digits.digits 0) _ (omega arith) refl (omega arith)
    (omega arith) now.plain now.number_is refl in
    record {
      within = omega arith;
      plain = more.0;
      number_is = omega (arith, more.1);
      some = omega (arith, now.some);
      fits = omega arith;
    }
