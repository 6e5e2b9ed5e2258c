-- The table of hex digits' values.
use Rattle.hex.specs.Hex.{hex_digit_value}
use Rattle.std.proofs.Common.{◌≡◌, ◌∙◌, ◌==◌, ℕ, ◌≤◌, ◌<◌, true, get_or, Option, Some, None}
use Rattle.std.proofs.Common.{unwrap_or, refl, ap, arith}
use Rattle.std.proofs.lemmas.{Bool.agree_below_at, Bool.eqb-true, List.get_or_default}
use Rattle.yasir_ticks.specs.declared.hex_digits.digit.TheConstants.{HEX_VALUES}

-- the value of a digit, and 16 for a byte that is no digit
abbrev value_or_16 : ℕ → ℕ
value_or_16 b = unwrap_or (hex_digit_value b) 16

pub hex_value_at : (b i d : ℕ) → i ≡ b → b < 256 → get_or HEX_VALUES i d ≡ value_or_16 b
hex_value_at b i d e h =
    ap (λ k. get_or HEX_VALUES k d) e ∙ get_or_default HEX_VALUES b d 0 h
    ∙ eqb-true (get_or HEX_VALUES b 0) (value_or_16 b)
    (agree_below_at (λ k. get_or HEX_VALUES k 0 == value_or_16 k) (λ k. true) 256 b refl h)

pub digit_small : (b v : ℕ) → hex_digit_value b ≡ Some v → v < 16
digit_small b v h = grind arith

pub digit_found : (b v : ℕ) → v ≡ value_or_16 b → v < 16 → Some v ≡ hex_digit_value b
digit_found b v e h = found (hex_digit_value b) e
  where
    found : (o : Option ℕ) → v ≡ unwrap_or o 16 → Some v ≡ o
    found None e = absurd (omega arith)
    found (Some x) e = ap Some e

pub no_digit : (b v : ℕ) → v ≡ value_or_16 b → 16 ≤ v → None ≡ hex_digit_value b
no_digit b v e h = none (hex_digit_value b) e (digit_small b)
  where
    none : (o : Option ℕ) → v ≡ unwrap_or o 16 → ((x : ℕ) → o ≡ Some x → x < 16) → None ≡ o
    none None e small = refl
    none (Some x) e small = absurd (omega (arith, small x refl))
