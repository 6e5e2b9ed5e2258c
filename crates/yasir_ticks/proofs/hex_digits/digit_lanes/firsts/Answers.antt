use Rattle.hex.specs.Hex.{lower_digits}
use Rattle.std.proofs.{Common.◌/◌, Common.arith, lemmas.Simd.zip2_splat}
use Rattle.yasir_ticks.proofs.hex_digits.DigitLookups.{down, high_ok, looked_up, copied}
use Rattle.yasir_ticks.specs.declared.hex_digits.digit_lanes.TheConstants.{DIGITS}
use Rattle.yasir_ticks.proofs.hex_digits.digit_lanes.firsts.Goals as goal

pub swizzle : goal.swizzle
swizzle c = high_ok c.args.bytes c.fits-bytes

pub returns : goal.returns
returns c =
    looked_up DIGITS lower_digits (λ x. x / 16) c.args.bytes _ c.fits-bytes
    (zip2_splat down c.args.bytes 32 4 c.fits-bytes.0) (λ x h. omega arith) copied
