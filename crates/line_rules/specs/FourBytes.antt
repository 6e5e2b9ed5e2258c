-- The smallest rules that keep every law: a frame is four bytes, the last of which is 0.
use Rattle.std.specs.Prelude.{◌≡◌, ℕ, ◌-◌, ◌≤◌, ◌==◌, ◌&&◌, nat_le, Bool, List, [], ◌∷◌, ◌++◌}
use Rattle.std.specs.Prelude.{length, get_or, bit_xor, refl}
use Rattle.std.proofs.Common.{arith, ◌∙◌, sym, ap, ⊎_elim, length-append}
use Rattle.std.proofs.lemmas.List.{get_or_push}
use Rattle.std.proofs.lemmas.Bool.{and_parts, and_right, eqb-true, eq-eqb, ne_eqb, cases_lt, le-leb}
use Rattle.std.proofs.lemmas.Bool.{lt-leb}
use Rattle.line_rules.specs.Bytes.{AreBytes}
use Rattle.line_rules.specs.Rules.{Rules}
use Rattle.line_rules.specs.RulesLaws.{IsLawful, IsHeaded, IsFramed, IsFilling, HasNumbers}
use Rattle.line_rules.specs.Headerless.{headerless, headerless-lawful, headerless-headed}
use Rattle.line_rules.specs.Headerless.{headerless-framed, headerless-filling}
use Rattle.line_rules.specs.Spoiling.{IsSpoiling, spoiling_by_ending}
use Rattle.line_rules.specs.declared.four_bytes.FourBytes.{FourBytes}

-- the last byte, or 1 if there is none
abbrev pub last_byte : List ℕ → ℕ
last_byte x = get_or x (length x - 1) 1

abbrev pub ends_in_zero : List ℕ → Bool
ends_in_zero x = last_byte x == 0

-- whether there are four bytes, of which the last is 0
abbrev pub are_four_bytes : List ℕ → Bool
are_four_bytes x = length x == 4 && ends_in_zero x

-- rules without a header, by which a frame is four bytes that end in 0
abbrev pub four_bytes : Rules
four_bytes = headerless 1 256 are_four_bytes ends_in_zero

pub last_byte-push : (x : List ℕ) (b : ℕ) → last_byte (x ++ b ∷ []) ≡ b
last_byte-push x b = get_or_push x b 1 (length (x ++ b ∷ []) - 1)
    (omega (arith, length-append x (b ∷ [])))

pub four_bytes-lawful : IsLawful four_bytes
four_bytes-lawful = headerless-lawful 1 256 are_four_bytes ends_in_zero (omega arith)

pub four_bytes-headed : IsHeaded four_bytes
four_bytes-headed = headerless-headed 1 256 are_four_bytes ends_in_zero

pub four_bytes-framed : IsFramed four_bytes
four_bytes-framed = headerless-framed 1 256 are_four_bytes ends_in_zero
    (λ frame framed.
    let four = eqb-true (length frame) 4 (and_parts _ _ framed).0 in
    (omega arith, omega arith))

pub four_bytes-filling : IsFilling four_bytes
four_bytes-filling = headerless-filling 1 256 are_four_bytes ends_in_zero

pub four_bytes-spoiling : IsSpoiling four_bytes
four_bytes-spoiling = spoiling_by_ending four_bytes (λ h c. refl)
    (λ x wrong. and_right (length x == 4) (ends_in_zero x) wrong)
    (λ h c right.
    let zero : c ≡ 0 = sym (last_byte-push h c) ∙ eqb-true (last_byte (h ++ c ∷ [])) 0 right in
    let one : last_byte (h ++ bit_xor c 1 ∷ []) ≡ 1 =
    last_byte-push h (bit_xor c 1) ∙ ap (λ b. bit_xor b 1) zero in
    ne_eqb (last_byte (h ++ bit_xor c 1 ∷ [])) 0 (λ none. omega arith))

pub four_bytes-numbers : HasNumbers four_bytes 256 1
four_bytes-numbers = record { longest_is = refl; label_is = refl }

-- Holds if the value represents these bytes: it keeps how many there are, and the last one.
pub record FourBytesStandFor (value : FourBytes) (x : List ℕ) : Type 0 where
  pub count : value.len ≡ length x
  pub last : value.last ≡ last_byte x
  pub short : length x ≤ 256
  pub bytes : AreBytes x

-- whether there is no room for another byte
abbrev pub is_full_four_bytes : FourBytes → Bool
is_full_four_bytes value = nat_le 256 value.len

pub four_bytes-fullness : (value : FourBytes) (x : List ℕ) → FourBytesStandFor value x
    → is_full_four_bytes value ≡ (length x == 256)
four_bytes-fullness value x stands =
    let count = stands.count in
    let short = stands.short in
    ⊎_elim
    (λ below. lt-leb 256 value.len below ∙ sym (ne_eqb (length x) 256 (λ all. omega arith)))
    (λ full. le-leb 256 value.len full ∙ sym (eq-eqb (length x) 256 (omega arith)))
    (cases_lt value.len 256)

pub four_bytes-bytes : (value : FourBytes) (x : List ℕ) → FourBytesStandFor value x → AreBytes x
four_bytes-bytes value x stands = stands.bytes

pub four_bytes-within : (value : FourBytes) (x : List ℕ) → FourBytesStandFor value x
    → length x ≤ 256
four_bytes-within value x stands = stands.short
