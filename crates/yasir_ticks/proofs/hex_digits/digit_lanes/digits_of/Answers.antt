use Rattle.{std.proofs.Common.arith, yasir_ticks.proofs.hex_digits.DigitEncoding.all_digits}
use Rattle.yasir_ticks.proofs.hex_digits.digit_lanes.digits_of.Goals as goal

pub returns : goal.returns
returns c =
    all_digits c.args.bytes.now c.firsts.result c.seconds.result (omega arith) c.firsts.ensures
    c.seconds.ensures
