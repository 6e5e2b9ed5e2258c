-- The lines of two lists, merged by their steps.
use Rattle.std.proofs.Common.{◌≡◌, ◌∙◌, ◌⊎◌, ℕ, zero, suc, ◌+◌, ◌<◌, ◌≤◌, inl, inr, List, [], ◌∷◌, ◌++◌}
use Rattle.std.proofs.Common.{eqb, true, false, length, get_or, drop, refl, sym, ap, subst, arith}
use Rattle.std.proofs.Common.{append_assoc, append-nil, add-one, drop-cons}
use Rattle.std.proofs.lemmas.Bool.{ne_eqb, eq-eqb, cases_lt}
use Rattle.session_lists.specs.FrameList.{KeptFrames}
use Rattle.line_commands.specs.TimedLines.{lines_at, lines_before, AreInOrder}
use Rattle.line_commands.specs.NoteOrder.{NoteComesFirst, ComesBefore, MergedTo}

-- ---- lines in order

order-end : (from to : ℕ) (lines : List (KeptFrames ℕ)) → AreInOrder from to lines → from ≤ to
order-end from to [] order = order
order-end from to (k ∷ lines) order =
    omega (arith, order.0, order-end (k.head + 1) to lines order.1)

order-from : (from m to : ℕ) (lines : List (KeptFrames ℕ)) → m ≤ from → AreInOrder from to lines
    → AreInOrder m to lines
order-from from m to [] below order = omega (arith, below, order)
order-from from m to (k ∷ lines) below order = (omega (arith, below, order.0), order.1)

-- Lines in order stay in order with one more line at their end, of the step of tick `to`.
pub order-more : (from to : ℕ) (lines : List (KeptFrames ℕ)) (k : KeptFrames ℕ) → AreInOrder from to lines
    → k.head ≡ to → AreInOrder from (to + 1) (lines ++ k ∷ [])
order-more from to [] k order is = (omega (arith, order, is), omega (arith, is))
order-more from to (l ∷ lines) k order is =
    (order.0, order-more (l.head + 1) to lines k order.1 is)

-- Lines that are in order up to a tick are in order up to a later tick.
pub order-to : (from to m : ℕ) (lines : List (KeptFrames ℕ)) → AreInOrder from to lines → to ≤ m
    → AreInOrder from m lines
order-to from to m [] order later = omega (arith, order, later)
order-to from to m (k ∷ lines) order later = (order.0, order-to (k.head + 1) to m lines order.1 later)

-- ---- no lines in earlier steps

none-at : (n from to : ℕ) (lines : List (KeptFrames ℕ)) → AreInOrder from to lines → n < from
    → lines_at n lines ≡ []
none-at n from to [] order below = refl
none-at n from to (k ∷ lines) order below =
    let differ : eqb k.head n ≡ false = ne_eqb k.head n (λ same. omega (arith, same, below, order.0)) in
    rw differ (none-at n (k.head + 1) to lines order.1 (omega (arith, below, order.0)))

none-before : (n from to until : ℕ) (a b : List (KeptFrames ℕ)) → AreInOrder from to a
    → AreInOrder from until b → n ≤ from → lines_before n a b ≡ []
none-before zero from to until a b first second below = refl
none-before (suc n) from to until a b first second below =
    rw (
      none-before n from to until a b first second (omega (arith, below)),
      none-at n from to a first (omega (arith, below)),
      none-at n from until b second (omega (arith, below)),
    ) refl

at-this : (n : ℕ) (k : KeptFrames ℕ) (lines : List (KeptFrames ℕ)) → k.head ≡ n
    → lines_at n (k ∷ lines) ≡ k.frame ++ lines_at n lines
at-this n k lines is =
    let same : eqb k.head n ≡ true = eq-eqb k.head n is in
    rw same refl

at-other : (n : ℕ) (k : KeptFrames ℕ) (lines : List (KeptFrames ℕ)) → (k.head ≡ n → ⊥)
    → lines_at n (k ∷ lines) ≡ lines_at n lines
at-other n k lines differ =
    let other : eqb k.head n ≡ false = ne_eqb k.head n differ in
    rw other refl

cases-last : (h n : ℕ) → h < suc n → (h < n) ⊎ (h ≡ n)
cases-last h n below = elim (cases_lt h n) [
  | inl earlier ↦ inl earlier
  | inr later ↦ inr (omega (arith, later, below))
]

-- ---- the next line

-- A line before the first of two texts is before both.
front-of : (x p q r : List ℕ) → (x ++ p) ++ (q ++ r) ≡ x ++ (p ++ (q ++ r))
front-of x p q r = append_assoc x p (q ++ r)

first-out : (n to until : ℕ) (k : KeptFrames ℕ) (a b : List (KeptFrames ℕ)) → AreInOrder (k.head + 1) to a
    → AreInOrder k.head until b → k.head < n
    → lines_before n (k ∷ a) b ≡ k.frame ++ lines_before n a b
first-out zero to until k a b first second below = absurd (omega (arith, below))
first-out (suc n) to until k a b first second below = elim (cases-last k.head n below) [
  | inl earlier ↦ rw (
    first-out n to until k a b first second earlier,
    at-other n k a (λ same. omega (arith, same, earlier)),
  ) (front-of k.frame (lines_before n a b) (lines_at n a) (lines_at n b))
  | inr this ↦ rw (
    none-before n k.head to until (k ∷ a) b (omega arith, first) second (omega (arith, this)),
    none-before n k.head to until a b (order-from (k.head + 1) k.head to a (omega arith) first) second
        (omega (arith, this)),
    at-this n k a this,
  ) (append_assoc k.frame (lines_at n a) (lines_at n b))
]

second-out : (n to until : ℕ) (a : List (KeptFrames ℕ)) (k : KeptFrames ℕ) (b : List (KeptFrames ℕ))
    → AreInOrder (k.head + 1) to a → AreInOrder (k.head + 1) until b → k.head < n
    → lines_before n a (k ∷ b) ≡ k.frame ++ lines_before n a b
second-out zero to until a k b first second below = absurd (omega (arith, below))
second-out (suc n) to until a k b first second below = elim (cases-last k.head n below) [
  | inl earlier ↦ rw (
    second-out n to until a k b first second earlier,
    at-other n k b (λ same. omega (arith, same, earlier)),
  ) (front-of k.frame (lines_before n a b) (lines_at n a) (lines_at n b))
  | inr this ↦
      let early = order-from (k.head + 1) k.head to a (omega arith) first in
      rw (
        none-before n k.head to until a (k ∷ b) early (omega arith, second) (omega (arith, this)),
        none-before n k.head to until a b early
            (order-from (k.head + 1) k.head until b (omega arith) second) (omega (arith, this)),
        none-at n (k.head + 1) to a first (omega (arith, this)),
        at-this n k b this,
      ) refl
]

-- If no lines are left, nothing is left to merge.
none-left : (n : ℕ) → lines_before n [] [] ≡ []
none-left n = none-before n n n n [] [] (omega arith) (omega arith) (omega arith)

-- ---- the places

-- the line at a place, and those after it
next-at : (lines : List (KeptFrames ℕ)) (i : ℕ) (d : KeptFrames ℕ) → i < length lines
    → drop i lines ≡ get_or lines i d ∷ drop (i + 1) lines
next-at lines i d within = drop-cons lines i d within
    ∙ ap (λ m. get_or lines i d ∷ drop m lines) (sym (add-one i))

none-from : (lines : List (KeptFrames ℕ)) (i : ℕ) → length lines ≤ i → drop i lines ≡ []
none-from [] zero past = refl
none-from [] (suc i) past = refl
none-from (k ∷ lines) zero past = absurd (omega (arith, past))
none-from (k ∷ lines) (suc i) past = none-from lines i (omega (arith, past))

order-first : (n : ℕ) (k : KeptFrames ℕ) (a b : List (KeptFrames ℕ)) → NoteComesFirst (k ∷ a) b
    → AreInOrder 0 n (k ∷ a) → AreInOrder 0 n b → AreInOrder k.head n b
order-first n k a [] first order other =
    omega (arith, order-end (k.head + 1) n a order.1)
order-first n k a (m ∷ b) first order other = (first, other.1)

order-before : (n : ℕ) (k : KeptFrames ℕ) (b a : List (KeptFrames ℕ)) → ComesBefore (k ∷ b) a
    → AreInOrder 0 n (k ∷ b) → AreInOrder 0 n a → AreInOrder (k.head + 1) n a
order-before n k b [] before order other = order-end (k.head + 1) n b order.1
order-before n k b (m ∷ a) before order other = (omega (arith, before), other.1)

module _ (n : ℕ) (a b : List (KeptFrames ℕ)) (text : List ℕ) (i j : ℕ) (d : KeptFrames ℕ)
    (before : MergedTo n a b text i j) where
  pub one-first : i < length a → NoteComesFirst (drop i a) (drop j b)
      → MergedTo n a b (text ++ (get_or a i d).frame) (i + 1) j
  one-first within comes =
      let k : KeptFrames ℕ = get_or a i d in
      let rest : List (KeptFrames ℕ) = drop (i + 1) a in
      let next : drop i a ≡ k ∷ rest = next-at a i d within in
      let order : AreInOrder 0 n (k ∷ rest) = subst (AreInOrder 0 n) next before.first_in_order in
      let comes_so : NoteComesFirst (k ∷ rest) (drop j b) =
      subst (λ l. NoteComesFirst l (drop j b)) next comes in
      let other : AreInOrder k.head n (drop j b) =
      order-first n k rest (drop j b) comes_so order before.second_in_order in
      let below : k.head < n = omega (arith, order-end (k.head + 1) n rest order.1) in
      record {
        is = append_assoc text k.frame (lines_before n rest (drop j b))
            ∙ ap (λ l. text ++ l) (sym (first-out n n n k rest (drop j b) order.1 other below)
            ∙ ap (λ l. lines_before n l (drop j b)) (sym next))
            ∙ before.is;
        first_in_order = order-from (k.head + 1) 0 n rest (omega arith) order.1;
        second_in_order = before.second_in_order;
      }

  pub one-second : j < length b → ComesBefore (drop j b) (drop i a)
      → MergedTo n a b (text ++ (get_or b j d).frame) i (j + 1)
  one-second within comes =
      let k : KeptFrames ℕ = get_or b j d in
      let rest : List (KeptFrames ℕ) = drop (j + 1) b in
      let next : drop j b ≡ k ∷ rest = next-at b j d within in
      let order : AreInOrder 0 n (k ∷ rest) = subst (AreInOrder 0 n) next before.second_in_order in
      let comes_so : ComesBefore (k ∷ rest) (drop i a) =
      subst (λ l. ComesBefore l (drop i a)) next comes in
      let other : AreInOrder (k.head + 1) n (drop i a) =
      order-before n k rest (drop i a) comes_so order before.first_in_order in
      let below : k.head < n = omega (arith, order-end (k.head + 1) n rest order.1) in
      record {
        is = append_assoc text k.frame (lines_before n (drop i a) rest)
            ∙ ap (λ l. text ++ l) (sym (second-out n n n (drop i a) k rest other order.1 below)
            ∙ ap (λ l. lines_before n (drop i a) l) (sym next))
            ∙ before.is;
        first_in_order = before.first_in_order;
        second_in_order = order-from (k.head + 1) 0 n rest (omega arith) order.1;
      }

-- ---- the end

pub all-merged : (n : ℕ) (a b : List (KeptFrames ℕ)) (text : List ℕ) (i j : ℕ) → length a ≤ i
    → length b ≤ j → MergedTo n a b text i j → text ≡ lines_before n a b
all-merged n a b text i j first second merged =
    let none : lines_before n (drop i a) (drop j b) ≡ [] =
    ap (λ l. lines_before n l (drop j b)) (none-from a i first)
    ∙ (ap (lines_before n []) (none-from b j second) ∙ none-left n) in
    sym (append-nil text) ∙ (ap (λ l. text ++ l) (sym none) ∙ merged.is)

-- ---- which one comes first

module _ (a b : List (KeptFrames ℕ)) (i j : ℕ) (d : KeptFrames ℕ) where
  pub second-alone : length a ≤ i → j < length b → ComesBefore (drop j b) (drop i a)
  second-alone none some = rw (none-from a i none, next-at b j d some) tt

  pub first-alone : i < length a → length b ≤ j → NoteComesFirst (drop i a) (drop j b)
  first-alone some none = rw (next-at a i d some, none-from b j none) tt

  pub first-earlier : i < length a → j < length b → (get_or a i d).head ≤ (get_or b j d).head
      → NoteComesFirst (drop i a) (drop j b)
  first-earlier first second earlier = rw (next-at a i d first, next-at b j d second) earlier

  pub second-earlier : i < length a → j < length b → (get_or b j d).head < (get_or a i d).head
      → ComesBefore (drop j b) (drop i a)
  second-earlier first second earlier = rw (next-at a i d first, next-at b j d second) earlier
