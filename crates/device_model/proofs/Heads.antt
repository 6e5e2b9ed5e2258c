-- What the first bytes of a list say as a header, case by case, and as the list goes on.
use Rattle.std.proofs.Common.{◌≡◌, ◌∙◌, ℕ, ◌<◌, ◌≤◌, Bool, true, false, cond, List}
use Rattle.std.proofs.Common.{◌++◌, length, take, sym, ap, arith, ⊎_elim, length-append}
use Rattle.std.proofs.lemmas.Bool.{cond-true, cond-false, lt-ltb, le-ltb, cases_lt, cases_Bool}
use Rattle.std.proofs.lemmas.List.{take-append-le}
use Rattle.line_rules.specs.Rules.{Rules, head_of}
use Rattle.line_rules.specs.declared.head.Head.TheVariants.{Short, Good, Bad}

module _ (rules : Rules) (x : List ℕ) where
  abbrev good_header : Bool
  good_header = rules.is_good_header (take rules.header_len x)

  pub head-short : length x < rules.header_len → head_of rules x ≡ Short
  head-short short = cond-true _ _ _ (lt-ltb (length x) rules.header_len short)

  pub head-good : rules.header_len ≤ length x → good_header ≡ true → head_of rules x ≡ Good
  head-good long good = cond-false _ _ _ (le-ltb (length x) rules.header_len long)
      ∙ cond-true good_header Good Bad good

  pub head-bad : rules.header_len ≤ length x → good_header ≡ false → head_of rules x ≡ Bad
  head-bad long bad = cond-false _ _ _ (le-ltb (length x) rules.header_len long)
      ∙ cond-false good_header Good Bad bad

  -- A good header is whole.
  pub good-long : head_of rules x ≡ Good → rules.header_len ≤ length x
  good-long good =
      ⊎_elim
      (λ short. let same : Short ≡ Good = sym (head-short short) ∙ good in cc)
      (λ long. long)
      (cases_lt (length x) rules.header_len)

  pub good-header : head_of rules x ≡ Good → good_header ≡ true
  good-header good =
      ⊎_elim
      (λ is. is)
      (λ bad. let same : Bad ≡ Good = sym (head-bad (good-long good) bad) ∙ good in cc)
      (cases_Bool good_header)

  pub bad-long : head_of rules x ≡ Bad → rules.header_len ≤ length x
  bad-long bad =
      ⊎_elim
      (λ short. let same : Short ≡ Bad = sym (head-short short) ∙ bad in cc)
      (λ long. long)
      (cases_lt (length x) rules.header_len)

  pub short-short : head_of rules x ≡ Short → length x < rules.header_len
  short-short short =
      ⊎_elim
      (λ is. is)
      (λ long. ⊎_elim
      (λ good. let same : Good ≡ Short = sym (head-good long good) ∙ short in cc)
      (λ bad. let same : Bad ≡ Short = sym (head-bad long bad) ∙ short in cc)
      (cases_Bool good_header))
      (cases_lt (length x) rules.header_len)

-- A whole header stays the same as the list goes on.
pub header-more : (rules : Rules) (x z : List ℕ) → rules.header_len ≤ length x
    → take rules.header_len (x ++ z) ≡ take rules.header_len x
header-more rules x z long = take-append-le rules.header_len x z long

pub head-more : (rules : Rules) (x z : List ℕ) → rules.header_len ≤ length x
    → head_of rules (x ++ z) ≡ head_of rules x
head-more rules x z long =
    let sum = length-append x z in
    let more : rules.header_len ≤ length (x ++ z) = omega arith in
    cond-false _ _ _ (le-ltb (length (x ++ z)) rules.header_len more)
    ∙ (ap (λ y. cond (rules.is_good_header y) Good Bad) (header-more rules x z long)
    ∙ sym (cond-false _ _ _ (le-ltb (length x) rules.header_len long)))
