use Rattle.yasir_ticks.proofs.hex_digits.HexValues.{hex_value_at, digit_found, no_digit}
use Rattle.yasir_ticks.proofs.hex_digits.digit.hex_value.Goals as goal

pub returns-then-value-lt16 : goal.returns-then-value-lt16
returns-then-value-lt16 c =
    record {
      value = digit_found c.args.b
          _ (hex_value_at c.args.b _ _ c.from.ensures c.ranges.b.fits) c.if-value-lt16.true;
    }

pub returns-else-value-lt16 : goal.returns-else-value-lt16
returns-else-value-lt16 c =
    record {
      value = no_digit c.args.b _ (hex_value_at c.args.b _ _ c.from.ensures c.ranges.b.fits)
          c.if-value-lt16.false;
    }
