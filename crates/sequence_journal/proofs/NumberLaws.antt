-- The least number above a floor that has a word, of words that are numbers modulo any m.
use Rattle.sequence_journal.specs.Numbers.{IsLeastWith, least_with}
use Rattle.std.proofs.Common.{◌≡◌, ◌∙◌, ℕ, ◌+◌, ◌-◌, ◌*◌, ◌/◌, ◌%◌, ◌<◌, ◌≤◌, suc, ap, arith, inl}
use Rattle.std.proofs.Common.{inr, ◌⊎◌, add-one}
use Rattle.std.proofs.Math.Nat.{mod-add-div', mul-le-mul_right, suc-mul}
use Rattle.std.proofs.lemmas.{Bool.cases_lt, Nat.mod-mul-add}

-- how far the next number with this word is from a number that is r modulo m
pub rest-is : (m word r : ℕ) → word < m → r < m
    → ((r ≤ word) × ((word + m - r) % m ≡ word - r))
    ⊎ ((word < r) × ((word + m - r) % m ≡ word + m - r))
rest-is m word r fits small = elim (cases_lt word r) [
  | inl lt ↦ inr (lt, ap (λ x. x % m) (omega arith) ∙ mod-mul-add 0 m (word + m - r) (omega arith))
  | inr ge ↦ inl (ge, ap (λ x. x % m) (omega arith) ∙ mod-mul-add 1 m (word - r) (omega arith))
]

-- multiples of m are at least m apart
pub whole-more : (m p q : ℕ) → p < q → p * m + m ≤ q * m
whole-more m p q lt =
    let more : suc p * m ≤ q * m = mul-le-mul_right m (omega (arith, add-one p)) in
    omega (arith, more, suc-mul p m)

-- A number with the word is the least one above the floor if no smaller one with the word is above
-- it.
least-at : (m floor word q n : ℕ) → word < m → n ≡ q * m + word → floor < n
    → ((p : ℕ) → p < q → p * m + word ≤ floor) → IsLeastWith m floor word n
least-at m floor word q n fits is above below = record {
  above = above;
  has_word = ap (λ x. x % m) is ∙ mod-mul-add q m word fits;
  least = λ other over has.
      let p = other / m in
      let whole : other ≡ p * m + word = omega (arith, mod-add-div' other m, has) in
      elim (cases_lt p q) as (λ _. n ≤ other) [
        | inl lt ↦ absurd (omega (arith, below p lt, whole, over))
        | inr ge ↦ (let same : q * m ≤ p * m = mul-le-mul_right m ge in
            omega (arith, same, whole, is))
      ];
}

pub least-is : (m floor word : ℕ) → word < m → IsLeastWith m floor word (least_with m floor word)
least-is m floor word fits =
    let next = floor + 1 in
    let q = next / m in
    let r = next % m in
    let parts : r + q * m ≡ next = mod-add-div' next m in
    let small : r < m = omega arith in
    elim (rest-is m word r fits small)
    as (λ _. IsLeastWith m floor word (least_with m floor word)) [
      | inl at ↦ least-at m floor word q _ fits (omega (arith, parts, at.0, at.1))
          (omega (arith, at.0, at.1))
          (λ p lt. omega (arith, whole-more m p q lt, parts))
      | inr at ↦ least-at m floor word (suc q) _ fits
          (omega (arith, parts, at.0, at.1, suc-mul q m)) (omega (arith, at.0, at.1))
          (λ p lt. let within : p * m ≤ q * m = mul-le-mul_right m (omega arith) in
          omega (arith, within, parts, at.0))
    ]
