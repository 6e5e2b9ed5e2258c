-- What comes before the ending of a word that ends in `x` and two digits, and whether the word is
-- that of a rate.
use Rattle.line_stamps.specs.{RateWords.rate_word, declared.rate.Rate.Rate}
use Rattle.std.proofs.Common.{◌≡◌, ◌≢◌, ◌∙◌, ℕ, ◌+◌, ◌<◌, ◌≤◌, ◌/◌, ◌%◌, List, [], ◌∷◌, ◌++◌}
use Rattle.std.proofs.Common.{Option, Some, None, IfSome, IfNone, sym, ap, arith, decimal}
use Rattle.std.proofs.Common.{append_assoc, ◌⊎◌, ⊎_elim, lit<, ◌^◌, Bor}
use Rattle.std.proofs.lemmas.{Bool.cases_lt, Fmt.decimal_step, Fmt.decimal_digit}
use Rattle.std.proofs.lemmas.{Fmt.decimal_injective, List.append_cancel_right, List.same_from_push}

-- an `x`, a `1` and a digit
abbrev pub ending : ℕ → List ℕ
ending digit = 120 ∷ 49 ∷ digit ∷ []

by-one : (front : List ℕ) (digit : ℕ)
    → front ++ ending digit ≡ (front ++ (120 ∷ 49 ∷ [])) ++ (digit ∷ [])
by-one front digit = sym (append_assoc front (120 ∷ 49 ∷ []) (digit ∷ []))

by-two : (front : List ℕ) → front ++ (120 ∷ 49 ∷ []) ≡ (front ++ (120 ∷ [])) ++ (49 ∷ [])
by-two front = sym (append_assoc front (120 ∷ []) (49 ∷ []))

module _ (word : List ℕ) (digit : ℕ) where
  pub not-digit : ((front : List ℕ) → word ≢ front ++ (digit ∷ []))
      → (front : List ℕ) → word ≢ front ++ ending digit
  not-digit none front e = none (front ++ (120 ∷ 49 ∷ [])) (e ∙ by-one front digit)

  module _ (longer : List ℕ) (is : word ≡ longer ++ (digit ∷ [])) where
    longer-is : (front : List ℕ) → word ≡ front ++ ending digit
        → longer ≡ (front ++ (120 ∷ [])) ++ (49 ∷ [])
    longer-is front e =
        append_cancel_right longer (front ++ (120 ∷ 49 ∷ [])) (digit ∷ [])
        (sym is ∙ (e ∙ by-one front digit))
        ∙ by-two front

    pub not-one : ((front : List ℕ) → longer ≢ front ++ (49 ∷ []))
        → (front : List ℕ) → word ≢ front ++ ending digit
    not-one none front e = none (front ++ (120 ∷ [])) (longer-is front e)

    pub not-x : (shorter : List ℕ) → longer ≡ shorter ++ (49 ∷ [])
        → ((front : List ℕ) → shorter ≢ front ++ (120 ∷ []))
        → (front : List ℕ) → word ≢ front ++ ending digit
    not-x shorter there none front e =
        none front
        (append_cancel_right shorter (front ++ (120 ∷ [])) (49 ∷ [])
        (sym there ∙ longer-is front e))

    pub if-not-x : (shorter : List ℕ) → longer ≡ shorter ++ (49 ∷ []) → (r : Option (Bor (List ℕ)))
        → IfNone r ((front : List ℕ) → shorter ≢ front ++ (120 ∷ []))
        → IfNone r ((front : List ℕ) → word ≢ front ++ ending digit)
    if-not-x shorter there None none = not-x shorter there none
    if-not-x shorter there (Some x) none = tt

bits-digits : (bits : ℕ) → 10 ≤ bits → bits ≤ 11 → decimal bits ≡ 49 ∷ (38 + bits) ∷ []
bits-digits bits fewest most =
    let one : bits / 10 ≡ 1 = omega arith in
    let rest : 48 + bits % 10 ≡ 38 + bits = omega arith in
    let front : decimal (bits / 10) ≡ 49 ∷ [] = ap decimal one ∙ decimal_digit 1 (lit< tt) in
    let few : bits < 2 ^ 64 = omega arith in
    decimal_step bits fewest few
    ∙ (ap (λ x. x ++ ((48 + bits % 10) ∷ [])) front ∙ ap (λ d. 49 ∷ d ∷ []) rest)

word-of : (rate : Rate) → rate_word rate ≡ decimal rate.baud ++ ending (38 + rate.bits)
word-of rate =
    ap (λ x. (decimal rate.baud ++ (120 ∷ [])) ++ x)
    (bits-digits rate.bits rate.fewest_bits rate.most_bits)
    ∙ append_assoc (decimal rate.baud) (120 ∷ []) (49 ∷ (38 + rate.bits) ∷ [])

module _ (word baud : List ℕ) (bits : ℕ) (is : word ≡ baud ++ ending (38 + bits)) where
  pub read-some : (r : Option Rate) → IfSome r (λ rate. baud ≡ decimal rate.baud)
      → IfSome r (λ rate. rate.bits ≡ bits) → IfSome r (λ rate. word ≡ rate_word rate)
  read-some None same there = tt
  read-some (Some rate) same there =
      is ∙ (ap (λ x. x ++ ending (38 + bits)) same
      ∙ (ap (λ k. decimal rate.baud ++ ending (38 + k)) (sym there) ∙ sym (word-of rate)))

  pub read-none : (r : Option Rate)
      → IfNone r ((n : ℕ) → 300 ≤ n → n ≤ 115200 → baud ≡ decimal n → ⊥)
      → IfNone r ((rate : Rate) → word ≢ rate_word rate)
  read-none None none = λ (rate : Rate) (e : word ≡ rate_word rate).
      none rate.baud rate.slowest rate.fastest
      (append_cancel_right baud (decimal rate.baud) (120 ∷ 49 ∷ [])
      (same_from_push (baud ++ (120 ∷ 49 ∷ [])) (decimal rate.baud ++ (120 ∷ 49 ∷ []))
      (38 + bits) (38 + rate.bits)
      (sym (by-one baud (38 + bits)) ∙ (sym is ∙ (e ∙ (word-of rate
      ∙ by-one (decimal rate.baud) (38 + rate.bits)))))).0)
  read-none (Some rate) none = tt

pub no-rate : (word : List ℕ) → ((front : List ℕ) → word ≢ front ++ ending 48)
    → ((front : List ℕ) → word ≢ front ++ ending 49) → (rate : Rate) → word ≢ rate_word rate
no-rate word not-ten not-eleven rate e =
    let whole : word ≡ decimal rate.baud ++ ending (38 + rate.bits) = e ∙ word-of rate in
    let few : 10 ≤ rate.bits = rate.fewest_bits in
    let most : rate.bits ≤ 11 = rate.most_bits in
    ⊎_elim
    (λ ten. let is : 38 + rate.bits ≡ 48 = omega arith in
    not-ten (decimal rate.baud) (whole ∙ ap (λ d. decimal rate.baud ++ ending d) is))
    (λ eleven. let is : 38 + rate.bits ≡ 49 = omega arith in
    not-eleven (decimal rate.baud) (whole ∙ ap (λ d. decimal rate.baud ++ ending d) is))
    (cases_lt rate.bits 11)

-- A word that spells a number that isn't a baud doesn't spell another one that is.
pub no-baud : (word : List ℕ) (m : ℕ) → word ≡ decimal m → m < 2 ^ 32
    → (m < 300) ⊎ (115200 < m) → (n : ℕ) → 300 ≤ n → n ≤ 115200 → word ≡ decimal n → ⊥
no-baud word m spelled small out n least most also =
    let few : m < 2 ^ 64 = omega arith in
    let few' : n < 2 ^ 64 = omega arith in
    let same : m ≡ n = decimal_injective m n few few' (sym spelled ∙ also) in
    ⊎_elim (λ slow. omega arith) (λ fast. omega arith) out
