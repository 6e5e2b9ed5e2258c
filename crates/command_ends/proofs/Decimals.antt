-- Decimal digits, two at a time.
use Rattle.std.proofs.Common.{◌≡◌, ◌∙◌, ℕ, ◌+◌, ◌<◌, ◌≤◌, ◌/◌, ◌%◌, ◌^◌, List, [], ◌∷◌, ◌++◌, ap, sym}
use Rattle.std.proofs.Common.{arith, append_assoc}
use Rattle.std.{proofs.lemmas.Fmt.decimal_digit, proofs.lemmas.Fmt.decimal_step, specs.Fmt.decimal}

-- the two digits of a number below 100
abbrev pub pair : ℕ → List ℕ
pair n = (48 + n / 10) ∷ (48 + n % 10) ∷ []

-- The digits of a number of 100 or more are those of its hundreds, followed by the last two.
pair-behind : (n : ℕ) → 100 ≤ n → n < 2 ^ 64 → decimal n ≡ decimal (n / 100) ++ pair (n % 100)
pair-behind n some small =
    let front : n / 10 / 10 ≡ n / 100 = omega arith in
    let tens : n / 10 % 10 ≡ n % 100 / 10 = omega arith in
    let ones : n % 10 ≡ n % 100 % 10 = omega arith in
    rw (
      decimal_step n (omega arith) small,
      decimal_step (n / 10) (omega arith) (omega arith),
      append_assoc,
      front,
      tens,
      ones,
    )

-- A text to which the digits of n were appended in parts has all of them after what it had before.
module _ (n : ℕ) (before after : List ℕ) where
  pub pair-held : (a b : ℕ) (mid : List ℕ) → a ≡ 48 + n / 10 → b ≡ 48 + n % 10
      → mid ≡ before ++ a ∷ [] → after ≡ mid ++ b ∷ [] → after ≡ before ++ pair n
  pair-held a b mid a_is b_is first second =
      second ∙ ap (λ l. l ++ b ∷ []) first ∙ append_assoc before (a ∷ []) (b ∷ [])
      ∙ ap (λ d. before ++ d ∷ b ∷ []) a_is ∙ ap (λ d. before ++ (48 + n / 10) ∷ d ∷ []) b_is

  pub one-held : (a : ℕ) → n < 10 → a ≡ 48 + n % 10 → after ≡ before ++ a ∷ []
      → after ≡ before ++ decimal n
  one-held a few a_is whole =
      let same : 48 + n % 10 ≡ 48 + n = omega arith in
      whole ∙ ap (λ d. before ++ d ∷ []) (a_is ∙ same)
      ∙ ap (λ l. before ++ l) (sym (decimal_digit n few))

  pub two-held : 10 ≤ n → n < 100 → after ≡ before ++ pair n → after ≡ before ++ decimal n
  two-held some few whole =
      let digits : decimal n ≡ pair n = decimal_step n some (omega arith)
      ∙ ap (λ l. l ++ (48 + n % 10) ∷ []) (decimal_digit (n / 10) (omega arith)) in
      whole ∙ ap (λ l. before ++ l) (sym digits)

  pub four-held : (mid : List ℕ) → 100 ≤ n → n < 2 ^ 64 → mid ≡ before ++ decimal (n / 100)
      → after ≡ mid ++ pair (n % 100) → after ≡ before ++ decimal n
  four-held mid some small first second =
      second ∙ ap (λ l. l ++ pair (n % 100)) first
      ∙ append_assoc before (decimal (n / 100)) (pair (n % 100))
      ∙ ap (λ l. before ++ l) (sym (pair-behind n some small))

pub eight-held : (n : ℕ) (before first second after : List ℕ) → 10000 ≤ n → n < 2 ^ 64
    → first ≡ before ++ decimal (n / 10000) → second ≡ first ++ pair (n % 10000 / 100)
    → after ≡ second ++ pair (n % 10000 % 100) → after ≡ before ++ decimal n
eight-held n before first second after some small first_is second_is after_is =
    let front : n / 10000 ≡ n / 100 / 100 = omega arith in
    let high : n % 10000 / 100 ≡ n / 100 % 100 = omega arith in
    let low : n % 10000 % 100 ≡ n % 100 = omega arith in
    let begun : second ≡ before ++ decimal (n / 100) =
    four-held (n / 100) before second first (omega arith) (omega arith)
    (first_is ∙ ap (λ k. before ++ decimal k) front)
    (second_is ∙ ap (λ k. first ++ pair k) high) in
    four-held n before after second (omega arith) small begun
    (after_is ∙ ap (λ k. second ++ pair k) low)
