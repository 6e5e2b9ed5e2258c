-- What is known of a header by what `head_of` says.
use Rattle.std.proofs.Common.{◌≡◌, ◌<◌, ◌≤◌, ℕ, true, false, List, length, take, ⊎_elim}
use Rattle.std.proofs.lemmas.Bool.{cases_Bool, cases_lt}
use Rattle.line_rules.specs.Rules.{Rules, head_of}
use Rattle.line_rules.specs.declared.head.Head.TheVariants.{Short, Good, Bad}
use Rattle.link_box.proofs.Judging.{head-short, head-good, head-bad}

module _ (rules : Rules) (x : List ℕ) where
  -- If it says `Short`, the header isn't whole; if it says anything else, the header is whole.
  pub head-is-short : head_of rules x ≡ Short → length x < rules.header_len
  head-is-short is =
      ⊎_elim
      (λ short. short)
      (λ long. ⊎_elim
      (λ good. let other = head-good rules x long good in absurd cc)
      (λ bad. let other = head-bad rules x long bad in absurd cc)
      (cases_Bool (rules.is_good_header (take rules.header_len x))))
      (cases_lt (length x) rules.header_len)

  pub head-isn't-short : (head_of rules x ≡ Short → ⊥) → rules.header_len ≤ length x
  head-isn't-short other =
      ⊎_elim (λ short. absurd (other (head-short rules x short))) (λ long. long)
      (cases_lt (length x) rules.header_len)

  -- If it says `Bad`, the header isn't a good one.
  pub head-is-bad : head_of rules x ≡ Bad
      → rules.is_good_header (take rules.header_len x) ≡ false
  head-is-bad is =
      ⊎_elim
      (λ short. let other = head-short rules x short in absurd cc)
      (λ long. ⊎_elim
      (λ good. let other = head-good rules x long good in absurd cc)
      (λ bad. bad)
      (cases_Bool (rules.is_good_header (take rules.header_len x))))
      (cases_lt (length x) rules.header_len)

  -- If it says `Good`, the header is whole and good.
  pub head-is-good : head_of rules x ≡ Good
      → (rules.header_len ≤ length x)
      × (rules.is_good_header (take rules.header_len x) ≡ true)
  head-is-good is =
      ⊎_elim
      (λ short. let other = head-short rules x short in absurd cc)
      (λ long. ⊎_elim
      (λ good. (long, good))
      (λ bad. let other = head-bad rules x long bad in absurd cc)
      (cases_Bool (rules.is_good_header (take rules.header_len x))))
      (cases_lt (length x) rules.header_len)
