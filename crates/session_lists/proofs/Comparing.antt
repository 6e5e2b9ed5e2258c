-- What is found when one more frame is read, and how the first difference follows from what was
-- found.
use Rattle.std.proofs.Common.{◌≡◌, ◌∙◌, ℕ, zero, suc, ◌+◌, ◌<◌, ◌≤◌, ◌&&◌, Bool, true, false, List}
use Rattle.std.proofs.Common.{[], ◌∷◌, ◌++◌, nat_le, length, get_or, bytes_eq, Option, Some, None}
use Rattle.std.proofs.Common.{option_map, refl, sym, ap, arith, subst, length-append, ⊎_elim}
use Rattle.std.proofs.Common.{if◌then◌else◌, IfSome, slice_get}
use Rattle.std.proofs.Math.Seq.{get_or-append_seam}
use Rattle.std.proofs.lemmas.Bool.{cases_Bool, cases_lt, cond-true, cond-false, and_from}
use Rattle.std.proofs.lemmas.Bool.{and_parts, le-leb, lt-leb, leb-true}
use Rattle.std.proofs.lemmas.List.{get_or_append_left}
use Rattle.std.proofs.lemmas.Option.{slice_get-get_or, slice_get_past}
use Rattle.std.proofs.lemmas.Option.{slice_get_within, get_or_from_slice_get}
use Rattle.device_model.specs.Frames.{FrameRead}
use Rattle.session_lists.specs.Comparison.{is_same_read, first_difference, first_unexpected, Found}
use Rattle.session_lists.specs.Expected.{is_due}
use Rattle.session_lists.specs.declared.lateness.Lateness.{Lateness}
use Rattle.session_lists.specs.declared.comparison.Comparison.{Comparison}
use Rattle.session_lists.specs.declared.comparison.Unexpected.{Unexpected}

-- ---- places

pub none-before : (o : Option ℕ) → option_map suc o ≡ None → o ≡ None
none-before None none = refl
none-before (Some i) none = cc

some-behind : (o p : Option ℕ) (i : ℕ) → ((k : ℕ) → o ≡ Some k → p ≡ Some k)
    → option_map suc o ≡ Some i → option_map suc p ≡ Some i
some-behind None p i each is = cc
some-behind (Some k) p i each is = ap (option_map suc) (each k refl) ∙ is

place-behind : (next : Bool) (n : ℕ)
    → option_map suc (if next then None else Some n) ≡ (if next then None else Some (suc n))
place-behind true n = refl
place-behind false n = refl

-- ---- one more frame

-- the place of a frame that wasn't expected, if there is such a frame
abbrev pub place_of : Option Unexpected → Option ℕ
place_of u = option_map (λ v. v.place) u

pub unexpected-none : (late : Lateness) (x : List FrameRead) → first_unexpected late x [] ≡ None
unexpected-none late [] = refl
unexpected-none late (f ∷ x) = refl

-- If no frame was read, what is found doesn't depend on what is expected.
pub found-none : (late : Lateness) (value : Comparison) (x z y : List FrameRead) → y ≡ []
    → Found late value x y → Found late value z y
found-none late value x z y none found = record {
  count = found.count;
  place = found.place ∙ (ap (first_unexpected late x) none ∙ unexpected-none late x)
      ∙ sym (ap (first_unexpected late z) none ∙ unexpected-none late z);
  frame = found.frame;
}

pub unexpected-stays : (late : Lateness) (x y : List FrameRead) (g : FrameRead) (i : ℕ)
    → first_unexpected late x y ≡ Some i → first_unexpected late x (y ++ g ∷ []) ≡ Some i
unexpected-stays late [] [] g i is = cc
unexpected-stays late [] (h ∷ y) g i is = is
unexpected-stays late (f ∷ x) [] g i is = cc
unexpected-stays late (f ∷ x) (h ∷ y) g i is =
    ⊎_elim
    (λ same. cond-true _ _ _ same
    ∙ some-behind (first_unexpected late x y) (first_unexpected late x (y ++ g ∷ [])) i
    (λ k at. unexpected-stays late x y g k at) (sym (cond-true _ _ _ same) ∙ is))
    (λ other. cond-false _ _ _ other ∙ (sym (cond-false _ _ _ other) ∙ is))
    (cases_Bool (is_same_read late f h))

pub unexpected-next : (late : Lateness) (x y : List FrameRead) (g : FrameRead) → first_unexpected late x y ≡ None
    → first_unexpected late x (y ++ g ∷ [])
    ≡ (if is_due late (slice_get x (length y)) g then None else Some (length y))
unexpected-next late [] [] g none = refl
unexpected-next late [] (h ∷ y) g none = cc
unexpected-next late (f ∷ x) [] g none =
    ap (λ o. if is_same_read late f g then option_map suc o else Some 0) (unexpected-none late x)
unexpected-next late (f ∷ x) (h ∷ y) g none =
    ⊎_elim
    (λ same.
    let before : first_unexpected late x y ≡ None =
    none-before (first_unexpected late x y) (sym (cond-true _ _ _ same) ∙ none) in
    cond-true _ _ _ same ∙ ap (option_map suc) (unexpected-next late x y g before)
    ∙ place-behind (is_due late (slice_get x (length y)) g) (length y))
    (λ other. let never : Some 0 ≡ None = sym (cond-false _ _ _ other) ∙ none in cc)
    (cases_Bool (is_same_read late f h))

get-front : {A : Type 0} (xs ys : List A) (i : ℕ) (x : A) → slice_get xs i ≡ Some x
    → slice_get (xs ++ ys) i ≡ Some x
get-front xs ys i x there =
    let within : i < length xs = slice_get_within xs i x there in
    let is : get_or xs i x ≡ x = get_or_from_slice_get xs i x x there in
    let long = length-append xs ys in
    slice_get-get_or (xs ++ ys) i x (omega (arith, within, long))
    ∙ ap (λ y. Some y) (get_or_append_left xs ys x i within ∙ is)

get-last : {A : Type 0} (xs : List A) (x : A) → slice_get (xs ++ x ∷ []) (length xs) ≡ Some x
get-last xs x =
    let long = length-append xs (x ∷ []) in
    slice_get-get_or (xs ++ x ∷ []) (length xs) x (omega (arith, long))
    ∙ ap (λ y. Some y) (get_or-append_seam xs x [] x)

-- A frame that was read is still at its place when one more has been read.
frame-more : (u : Option Unexpected) (reads : List FrameRead) (g : FrameRead)
    → IfSome u (λ v. slice_get reads v.place ≡ Some v.frame)
    → IfSome u (λ v. slice_get (reads ++ g ∷ []) v.place ≡ Some v.frame)
frame-more None reads g there = tt
frame-more (Some v) reads g there = get-front reads (g ∷ []) v.place v.frame there

-- If an earlier frame wasn't the expected one, one more frame leaves it as it is.
pub found-more : (late : Lateness) (old new : Comparison) (expected reads : List FrameRead)
    (g : FrameRead) (u : Unexpected) → old.unexpected ≡ Some u → new.read ≡ old.read + 1
    → new.unexpected ≡ old.unexpected → Found late old expected reads
    → Found late new expected (reads ++ g ∷ [])
found-more late old new expected reads g u is counts same found =
    let at : place_of old.unexpected ≡ Some u.place = ap place_of is in
    record {
      count = omega (arith, counts, found.count, length-append reads (g ∷ []));
      place = ap place_of same ∙ at
          ∙ sym (unexpected-stays late expected reads g u.place (sym found.place ∙ at));
      frame = subst (λ o. IfSome o (λ v. slice_get (reads ++ g ∷ []) v.place ≡ Some v.frame))
          (sym same) (frame-more old.unexpected reads g found.frame);
    }

-- the first frame that isn't expected, if all before this one were: this one, unless it is the next
-- one
abbrev pub unexpected_if : Bool → ℕ → FrameRead → Option Unexpected
unexpected_if next i g = if next then None else Some (record { place = i; frame = g })

place-if : (next : Bool) (i : ℕ) (g : FrameRead)
    → place_of (unexpected_if next i g) ≡ (if next then None else Some i)
place-if true i g = refl
place-if false i g = refl

frame-if : (next : Bool) (i : ℕ) (reads : List FrameRead) (g : FrameRead) → i ≡ length reads
    → IfSome (unexpected_if next i g) (λ v. slice_get (reads ++ g ∷ []) v.place ≡ Some v.frame)
frame-if true i reads g is = tt
frame-if false i reads g is = ap (slice_get (reads ++ g ∷ [])) is ∙ get-last reads g

-- If all frames so far were the expected ones, only the new frame can be the first that isn't.
pub found-next : (late : Lateness) (old new : Comparison) (expected reads : List FrameRead)
    (g : FrameRead) (next : Bool) → old.unexpected ≡ None → new.read ≡ old.read + 1
    → next ≡ is_due late (slice_get expected old.read) g
    → new.unexpected ≡ unexpected_if next old.read g → Found late old expected reads
    → Found late new expected (reads ++ g ∷ [])
found-next late old new expected reads g next none counts test is found =
    let by_place : ℕ → Option ℕ =
    λ n. if is_due late (slice_get expected n) g then None else Some n in
    let before : place_of old.unexpected ≡ None = ap place_of none in
    record {
      count = omega (arith, counts, found.count, length-append reads (g ∷ []));
      place = ap place_of is ∙ place-if next old.read g
          ∙ ap (λ (b : Bool). if b then None else Some old.read) test
          ∙ ap by_place found.count
          ∙ sym (unexpected-next late expected reads g (sym found.place ∙ before));
      frame = subst (λ o. IfSome o (λ v. slice_get (reads ++ g ∷ []) v.place ≡ Some v.frame))
          (sym is) (frame-if next old.read reads g found.count);
    }

-- ---- the first difference

pub unexpected-differs : (late : Lateness) (x y : List FrameRead) (i : ℕ) → first_unexpected late x y ≡ Some i
    → first_difference late x y ≡ Some i
unexpected-differs late [] [] i is = cc
unexpected-differs late [] (h ∷ y) i is = is
unexpected-differs late (f ∷ x) [] i is = cc
unexpected-differs late (f ∷ x) (h ∷ y) i is =
    ⊎_elim
    (λ same. cond-true _ _ _ same
    ∙ some-behind (first_unexpected late x y) (first_difference late x y) i
    (λ k at. unexpected-differs late x y k at) (sym (cond-true _ _ _ same) ∙ is))
    (λ other. cond-false _ _ _ other ∙ (sym (cond-false _ _ _ other) ∙ is))
    (cases_Bool (is_same_read late f h))

pub fewer-differ : (late : Lateness) (x y : List FrameRead) → first_unexpected late x y ≡ None → length y < length x
    → first_difference late x y ≡ Some (length y)
fewer-differ late [] y none few = absurd (omega (arith, few))
fewer-differ late (f ∷ x) [] none few = refl
fewer-differ late (f ∷ x) (h ∷ y) none few =
    ⊎_elim
    (λ same.
    let before : first_unexpected late x y ≡ None =
    none-before (first_unexpected late x y) (sym (cond-true _ _ _ same) ∙ none) in
    cond-true _ _ _ same ∙ ap (option_map suc) (fewer-differ late x y before (omega (arith, few))))
    (λ other. let never : Some 0 ≡ None = sym (cond-false _ _ _ other) ∙ none in cc)
    (cases_Bool (is_same_read late f h))

pub all-same : (late : Lateness) (x y : List FrameRead) → first_unexpected late x y ≡ None → length x ≤ length y
    → first_difference late x y ≡ None
all-same late [] [] none all = refl
all-same late [] (h ∷ y) none all = cc
all-same late (f ∷ x) [] none all = absurd (omega (arith, all))
all-same late (f ∷ x) (h ∷ y) none all =
    ⊎_elim
    (λ same.
    let before : first_unexpected late x y ≡ None =
    none-before (first_unexpected late x y) (sym (cond-true _ _ _ same) ∙ none) in
    cond-true _ _ _ same ∙ ap (option_map suc) (all-same late x y before (omega (arith, all))))
    (λ other. let never : Some 0 ≡ None = sym (cond-false _ _ _ other) ∙ none in cc)
    (cases_Bool (is_same_read late f h))

-- ---- both frames of the first difference

one-place : (i k : ℕ) → Some i ≡ Some k → i ≡ k
one-place i k same = cc

-- If all frames that were read were expected, none was read at the place of the first difference.
pub none-found : (late : Lateness) (x y : List FrameRead) (i : ℕ) → first_unexpected late x y ≡ None
    → first_difference late x y ≡ Some i → slice_get y i ≡ None
none-found late x y i none at = ⊎_elim
    (λ fewer.
    let here : length y ≡ i = one-place (length y) i (sym (fewer-differ late x y none fewer) ∙ at) in
    slice_get_past y i (omega (arith, here)))
    (λ all. let never : None ≡ Some i = sym (all-same late x y none all) ∙ at in cc)
    (cases_lt (length y) (length x))

-- A frame that wasn't expected is the one that was read at the place of the first difference.
pub found-there : (late : Lateness) (x y : List FrameRead) (u : Unexpected) (i : ℕ)
    → first_unexpected late x y ≡ Some u.place → slice_get y u.place ≡ Some u.frame
    → first_difference late x y ≡ Some i → slice_get y i ≡ Some u.frame
found-there late x y u i unexpected there at =
    let same : u.place ≡ i =
    one-place u.place i (sym (unexpected-differs late x y u.place unexpected) ∙ at) in
    ap (slice_get y) (sym same) ∙ there

-- ---- whether a frame is the one that should be read

module _ (late : Lateness) (f g : FrameRead) where
  pub same-late : f.start + late.least ≤ g.start → g.start ≤ f.start + late.most
      → bytes_eq f.frame g.frame ≡ true → is_same_read late f g ≡ true
  same-late from by same =
      and_from (nat_le (f.start + late.least) g.start && nat_le g.start (f.start + late.most))
      (bytes_eq f.frame g.frame)
      (and_from (nat_le (f.start + late.least) g.start) (nat_le g.start (f.start + late.most))
      (le-leb (f.start + late.least) g.start from) (le-leb g.start (f.start + late.most) by))
      same

  pub same-too_early : g.start < f.start + late.least → is_same_read late f g ≡ false
  same-too_early early =
      ap (λ b. b && nat_le g.start (f.start + late.most) && bytes_eq f.frame g.frame)
      (lt-leb (f.start + late.least) g.start early)

  pub same-too_late : f.start + late.most < g.start → is_same_read late f g ≡ false
  same-too_late late_by = ⊎_elim
      (λ yes.
      let parts = and_parts (nat_le (f.start + late.least) g.start
      && nat_le g.start (f.start + late.most)) (bytes_eq f.frame g.frame) yes in
      let times = and_parts (nat_le (f.start + late.least) g.start)
      (nat_le g.start (f.start + late.most)) parts.0 in
      let by = leb-true g.start (f.start + late.most) times.1 in
      absurd (omega (arith, by, late_by)))
      (λ no. no)
      (cases_Bool (is_same_read late f g))

  pub same-other : bytes_eq f.frame g.frame ≡ false → is_same_read late f g ≡ false
  same-other other = ⊎_elim
      (λ yes.
      let parts = and_parts (nat_le (f.start + late.least) g.start
      && nat_le g.start (f.start + late.most)) (bytes_eq f.frame g.frame) yes in
      let never : true ≡ false = sym parts.1 ∙ other in cc)
      (λ no. no)
      (cases_Bool (is_same_read late f g))
