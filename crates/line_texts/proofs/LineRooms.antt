-- Pieces of lines after those that wait.
use Rattle.hex.{proofs.HexLemmas.length-encode_with, specs.Hex.encode_lower}
use Rattle.hex.specs.Hex.{encode_with, lower_digits}
use Rattle.std.proofs.Common.{◌≡◌, ◌∙◌, ℕ, zero, suc, ◌+◌, ◌*◌, ◌<◌, ◌≤◌, ◌/◌, ◌%◌, List, [], ◌∷◌}
use Rattle.std.proofs.Common.{◌++◌, take, get_or, length, refl, ap, arith, append_assoc}
use Rattle.std.proofs.Common.{length-append}
use Rattle.std.proofs.lemmas.Fmt.{decimal_digit, decimal_step, length-decimal-le}
use Rattle.{std.proofs.lemmas.List.length-take, std.specs.Fmt.decimal}
use Rattle.yasir_ticks.specs.CanonicalText.{byte_line, silence_line}
use Rattle.yasir_ticks.specs.Characters.{plus_sign, line_feed}

-- the digits of the first `n` bytes
encode-take : (t x : List ℕ) (n : ℕ) → take (2 * n) (encode_with t x) ≡ encode_with t (take n x)
unfolding encode_with
encode-take t x zero = refl
encode-take t [] (suc n) = let e : 2 * suc n ≡ suc (suc (2 * n)) = omega arith in rw e refl
encode-take t (b ∷ x) (suc n) =
    let e : 2 * suc n ≡ suc (suc (2 * n)) = omega arith in
    ap (λ k. take k (encode_with t (b ∷ x))) e
    ∙ ap (λ l. get_or t (b / 16) 0 ∷ get_or t (b % 16) 0 ∷ l) (encode-take t x n)

-- If a sign, the digits of the first `n` bytes and a line feed are added to a text, the line of
-- these bytes is added.
pub byte_line_held : (n : ℕ) (before bytes digits a b c : List ℕ) → digits ≡ encode_lower bytes
    → a ≡ before ++ plus_sign ∷ [] → b ≡ a ++ take (2 * n) digits → c ≡ b ++ line_feed ∷ []
    → c ≡ before ++ byte_line (take n bytes)
byte_line_held n before bytes digits a b c is first second third =
    third ∙ ap (λ l. l ++ line_feed ∷ []) (second ∙ ap (λ l. l ++ take (2 * n) digits) first
    ∙ append_assoc before (plus_sign ∷ []) (take (2 * n) digits))
    ∙ append_assoc before (plus_sign ∷ take (2 * n) digits) (line_feed ∷ [])
    ∙ ap (λ l. before ++ plus_sign ∷ (l ++ line_feed ∷ []))
    (ap (take (2 * n)) is ∙ encode-take lower_digits bytes n)

pub two_digits : (n : ℕ) → 10 ≤ n → n < 100 → decimal n ≡ (48 + n / 10) ∷ (48 + n % 10) ∷ []
two_digits n some few = decimal_step n some (omega arith)
    ∙ ap (λ l. l ++ (48 + n % 10) ∷ []) (decimal_digit (n / 10) (omega arith))

-- ---- how long a line is

pub byte_line_short : (n : ℕ) (bytes : List ℕ) → n ≤ 32 → length (byte_line (take n bytes)) ≤ 66
byte_line_short n bytes few =
    let digits = length-encode_with lower_digits (take n bytes) in
    let size = length-append (encode_lower (take n bytes)) (line_feed ∷ []) in
    omega (arith, few, digits, size, length-take n bytes)

pub silence_line_short : (n : ℕ) → n ≤ 1000000 → length (silence_line n) ≤ 66
silence_line_short n few =
    let digits = length-decimal-le 7 n (omega arith) (omega (arith, few)) (omega (arith, few)) in
    let size = length-append (decimal n) (line_feed ∷ []) in
    omega (arith, digits, size)
