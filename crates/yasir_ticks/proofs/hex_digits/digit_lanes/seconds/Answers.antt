use Rattle.hex.specs.Hex.{lower_digits}
use Rattle.std.proofs.{Common.◌%◌, Common.◌∙◌, Common.bit_and, Common.arith, lemmas.Simd.zip2_splat}
use Rattle.yasir_ticks.proofs.hex_digits.DigitLookups.{low_ok, looked_up, copied, low_bits}
use Rattle.yasir_ticks.specs.declared.hex_digits.digit_lanes.TheConstants.{DIGITS}
use Rattle.yasir_ticks.proofs.hex_digits.digit_lanes.seconds.Goals as goal

pub swizzle : goal.swizzle
swizzle c = low_ok c.args.bytes c.fits-bytes

pub returns : goal.returns
returns c =
    looked_up DIGITS lower_digits (λ x. x % 16) c.args.bytes _ c.fits-bytes
    (zip2_splat bit_and c.args.bytes 32 15 c.fits-bytes.0 ∙ low_bits c.args.bytes)
    (λ x h. omega arith) copied
