-- The words that say how late a frame may be, read back.
use Rattle.link_replay.specs.Words.{AreLateWords, MayBeLate, range_word, spaced_words, most_ticks}
use Rattle.session_audit.specs.declared.session.Tolerance.{Tolerance}
use Rattle.std.proofs.Common.{◌≡◌, ◌∙◌, ℕ, ◌≤◌, ◌<◌, Bool, true, false, List, [], ◌∷◌}
use Rattle.std.proofs.Common.{◌++◌, cond, nat_eq, length, refl, ap, arith, inl, inr, get_or}
use Rattle.std.proofs.lemmas.{Bool.cases_Bool, Bool.eqb-true, Fmt.decimal_is_IsNumeral}
use Rattle.std.proofs.lemmas.Str.Parse.{digit_at, tells_digits}
use Rattle.std.proofs.Common.{◌⊎◌, ⊎_elim, sym, Bor, MatchOption, Option}
use Rattle.std.proofs.lemmas.List.{append_assoc}
use Rattle.std.proofs.lemmas.Str.Pattern.{IsSplitOnceResult, split_after}
use Rattle.std.specs.Prelude.{codes, decimal}
use Rattle.std.specs.Str.Parse.{AllDigits, digits_value}

-- ---- a word with a dot

-- what is before the first dot
abbrev before_dot : List ℕ → List ℕ
before_dot [] = []
before_dot (c ∷ word) = cond (nat_eq c 46) [] (c ∷ before_dot word)

-- what is after the first dot
abbrev after_dot : List ℕ → List ℕ
after_dot [] = []
after_dot (c ∷ word) = cond (nat_eq c 46) word (after_dot word)

not-same : (a b : ℕ) → (a ≡ b → ⊥) → nat_eq a b ≡ false
not-same a b other =
    ⊎_elim (λ yes. absurd (other (eqb-true a b yes))) (λ no. no) (cases_Bool (nat_eq a b))

before-digits : (digits rest : List ℕ) → AllDigits 10 digits
    → before_dot (digits ++ 46 ∷ rest) ≡ digits
before-digits [] rest all = refl
before-digits (c ∷ digits) rest all =
    let parts = tells_digits.parts c digits all in
    let other : nat_eq c 46 ≡ false = not-same c 46 (λ is. omega (arith, is, parts.0)) in
    ap (λ b. cond b [] (c ∷ before_dot (digits ++ 46 ∷ rest))) other
    ∙ ap (λ l. c ∷ l) (before-digits digits rest parts.1)

after-digits : (digits rest : List ℕ) → AllDigits 10 digits
    → after_dot (digits ++ 46 ∷ rest) ≡ rest
after-digits [] rest all = refl
after-digits (c ∷ digits) rest all =
    let parts = tells_digits.parts c digits all in
    let other : nat_eq c 46 ≡ false = not-same c 46 (λ is. omega (arith, is, parts.0)) in
    ap (λ b. cond b (digits ++ 46 ∷ rest) (after_dot (digits ++ 46 ∷ rest))) other
    ∙ after-digits digits rest parts.1

pub all-digits : (n : ℕ) → n ≤ most_ticks → AllDigits 10 (decimal n)
all-digits n few = (decimal_is_IsNumeral n (omega (arith, few))).0.1

-- No byte of such a number is a dot.
pub no-dot : (n : ℕ) → n ≤ most_ticks → (i : ℕ) → i < length (decimal n)
    → get_or (decimal n) i 0 ≡ 46 → ⊥
no-dot n few i within is =
    let range = digit_at (decimal n) i (all-digits n few) within in omega (arith, range, is)

-- ---- the tolerance of words

-- the tolerance with these ticks
abbrev tolerance_of : ℕ → ℕ → Bool → Tolerance
tolerance_of least most spaced = record { least = least; most = most; spaced = spaced }

-- the tolerance that such a word says
abbrev range_by : List ℕ → Bool → Tolerance
range_by word spaced = tolerance_of (digits_value 10 (before_dot word))
    (digits_value 10 (after_dot (after_dot word))) spaced

abbrev first_byte : List ℕ → ℕ
first_byte [] = 0
first_byte (c ∷ word) = c

-- the tolerance that the words behind an audit's floors say
abbrev pub tolerance_by : List (List ℕ) → Tolerance
tolerance_by [] = tolerance_of 0 0 false
tolerance_by (word ∷ []) =
    cond (nat_eq (first_byte word) 115) (tolerance_of 0 0 true) (range_by word false)
tolerance_by (word ∷ other ∷ more) = range_by word true

abbrev range_of : ℕ → ℕ → List ℕ
range_of least most = decimal least ++ codes ".." ++ decimal most

dots : (word : List ℕ) → codes ".." ++ word ≡ 46 ∷ 46 ∷ word
dots word = refl

range-dotted : (least most : ℕ) → range_of least most ≡ decimal least ++ 46 ∷ 46 ∷ decimal most
range-dotted least most = append_assoc (decimal least) (codes "..") (decimal most)
    ∙ ap (λ word. decimal least ++ word) (dots (decimal most))

range-by : (least most : ℕ) (spaced : Bool) → least ≤ most → most ≤ most_ticks
    → range_by (range_of least most) spaced ≡ tolerance_of least most spaced
range-by least most spaced ordered few =
    let low : least ≤ most_ticks = omega (arith, ordered, few) in
    let first : digits_value 10 (before_dot (range_of least most)) ≡ least =
    ap (λ w. digits_value 10 (before_dot w)) (range-dotted least most)
    ∙ (ap (digits_value 10)
    (before-digits (decimal least) (46 ∷ decimal most) (all-digits least low))
    ∙ (decimal_is_IsNumeral least (omega (arith, low))).1) in
    let rest : after_dot (range_of least most) ≡ 46 ∷ decimal most =
    ap after_dot (range-dotted least most)
    ∙ after-digits (decimal least) (46 ∷ decimal most) (all-digits least low) in
    let second : digits_value 10 (after_dot (after_dot (range_of least most))) ≡ most =
    ap (λ w. digits_value 10 (after_dot w)) rest
    ∙ (decimal_is_IsNumeral most (omega (arith, few))).1 in
    ap (λ n. tolerance_of n (digits_value 10 (after_dot (after_dot (range_of least most)))) spaced)
    first
    ∙ ap (λ n. tolerance_of least n spaced) second

first-digit : (digits rest : List ℕ) → 0 < length digits → AllDigits 10 digits
    → nat_eq (first_byte (digits ++ rest)) 115 ≡ false
first-digit [] rest some all = absurd (omega (arith, some))
first-digit (c ∷ digits) rest some all =
    let parts = tells_digits.parts c digits all in
    not-same c 115 (λ is. omega (arith, is, parts.0))

late-by : (least most : ℕ) (spaced : Bool) (more : List (List ℕ)) → least ≤ most
    → most ≤ most_ticks → AreLateWords (tolerance_of least most spaced) more
    → tolerance_by more ≡ tolerance_of least most spaced
late-by least most true more ordered few (inl is) =
    ap tolerance_by is ∙ range-by least most true ordered few
late-by least most false more ordered few (inl is) =
    let numeral = (decimal_is_IsNumeral least (omega (arith, ordered, few))).0 in
    ap tolerance_by is
    ∙ (ap (λ b. cond b (tolerance_of 0 0 true) (range_by (range_of least most) false))
    (ap (λ w. nat_eq (first_byte w) 115) (range-dotted least most)
    ∙ first-digit (decimal least) (46 ∷ 46 ∷ decimal most) numeral.0 numeral.1)
    ∙ range-by least most false ordered few)
late-by least most true more ordered few (inr none) =
    ap tolerance_by none.2
    ∙ (ap (λ n. tolerance_of n 0 true) (sym none.0) ∙ ap (λ n. tolerance_of least n true) (sym none.1))
late-by least most false more ordered few (inr none) =
    ap tolerance_by none.2
    ∙ (ap (λ n. tolerance_of n 0 false) (sym none.0)
    ∙ ap (λ n. tolerance_of least n false) (sym none.1))

-- Such words say one tolerance.
pub tolerance-by : (tolerance : Tolerance) (more : List (List ℕ)) → MayBeLate tolerance
    → AreLateWords tolerance more → tolerance_by more ≡ tolerance
tolerance-by tolerance more may late =
    late-by tolerance.least tolerance.most tolerance.spaced more may.ordered may.few late

-- ---- such a word parted at its first dot

pub parted : (tolerance : Tolerance) (word : List ℕ) (r : Option (Bor (List ℕ) × Bor (List ℕ)))
    → MayBeLate tolerance → IsSplitOnceResult 46 word r → word ≡ range_word tolerance
    → MatchOption r ⊥ (λ x. (x.0.now ≡ decimal tolerance.least)
    × (x.1.now ≡ 46 ∷ decimal tolerance.most))
parted tolerance word r may cases is =
    split_after 46 word (decimal tolerance.least) (46 ∷ decimal tolerance.most) r cases (omega arith)
    (is ∙ range-dotted tolerance.least tolerance.most)
    (no-dot tolerance.least (omega (arith, may.ordered, may.few)))

-- ---- how many words there are

spaced-count : (spaced : Bool) → length (spaced_words spaced) ≤ 1
spaced-count true = omega arith
spaced-count false = omega arith

pub late-count : (tolerance : Tolerance) (more : List (List ℕ)) → AreLateWords tolerance more
    → length more ≤ 2
late-count tolerance more (inl is) =
    let few = spaced-count tolerance.spaced in omega (arith, few, ap length is)
late-count tolerance more (inr none) =
    let few = spaced-count tolerance.spaced in omega (arith, few, ap length none.2)

-- ---- what one or two words say

one-by : (least most : ℕ) (spaced : Bool) (word : List ℕ)
    → AreLateWords (tolerance_of least most spaced) (word ∷ [])
    → (word ≡ range_of least most) ⊎ (word ≡ codes "spaced")
one-by least most true word (inl is) = cc
one-by least most false word (inl is) = inl cc
one-by least most true word (inr none) = let is = none.2 in inr cc
one-by least most false word (inr none) = let is = none.2 in cc

-- A single word is a range, or says that there is a spacer.
pub one-late : (tolerance : Tolerance) (word : List ℕ) → AreLateWords tolerance (word ∷ [])
    → (word ≡ range_word tolerance) ⊎ (word ≡ codes "spaced")
one-late tolerance word late =
    one-by tolerance.least tolerance.most tolerance.spaced word late

two-by : (least most : ℕ) (spaced : Bool) (word other : List ℕ)
    → AreLateWords (tolerance_of least most spaced) (word ∷ other ∷ [])
    → (word ≡ range_of least most) × (other ≡ codes "spaced")
two-by least most true word other (inl is) = (cc, cc)
two-by least most false word other (inl is) = cc
two-by least most true word other (inr none) = let is = none.2 in cc
two-by least most false word other (inr none) = let is = none.2 in cc

-- Of two words the first is a range, and the second says that there is a spacer.
pub two-late : (tolerance : Tolerance) (word other : List ℕ)
    → AreLateWords tolerance (word ∷ other ∷ [])
    → (word ≡ range_word tolerance) × (other ≡ codes "spaced")
two-late tolerance word other late =
    two-by tolerance.least tolerance.most tolerance.spaced word other late

-- A range is a word for it without a spacer, and the first of two words with one.
pub range-late : (tolerance : Tolerance) (word : List ℕ) → word ≡ range_word tolerance
    → tolerance.spaced ≡ false → AreLateWords tolerance (word ∷ [])
range-late tolerance word is plain =
    inl (ap (λ w. w ∷ []) is ∙ ap (λ b. range_word tolerance ∷ spaced_words b) (sym plain))

pub range-spaced : (tolerance : Tolerance) (word other : List ℕ) → word ≡ range_word tolerance
    → other ≡ codes "spaced" → tolerance.spaced ≡ true
    → AreLateWords tolerance (word ∷ other ∷ [])
range-spaced tolerance word other is said behind =
    inl (ap (λ w. w ∷ other ∷ []) is ∙ ap (λ w. range_word tolerance ∷ w ∷ []) said
    ∙ ap (λ b. range_word tolerance ∷ spaced_words b) (sym behind))
