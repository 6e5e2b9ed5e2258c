-- Where a reader gets to over two lists of bytes, one after the other, and what follows for a
-- reader of a format.
use Rattle.std.proofs.Common.{◌≡◌, ◌∙◌, ℕ, Bool, true, false, List, [], ◌∷◌, ◌++◌, Option}
use Rattle.std.proofs.Common.{Result, Ok, Err, refl, ap, sym, append_assoc, append-nil, subst}
use Rattle.std.proofs.lemmas.List.{append_cancel_left}
use Rattle.std.specs.Option.{option_to_list}
use Rattle.line_stamps.specs.Walks.{walk, after_items, and_then_walk, WalkBegins, WalkBeginsNone, ReadsFormat}
use Rattle.line_stamps.specs.Walks.{GoesOnFrom, HaveFirst}

module _ {P I F : Type 0} where
  after_items-twice : (first second : List I) (rest : Result (P × List I) F)
      → after_items first (after_items second rest) ≡ after_items (first ++ second) rest
  after_items-twice first second (Ok rest) =
      ap (λ items. Ok (rest.0, items)) (sym (append_assoc first second rest.1))
  after_items-twice first second (Err why) = refl

  after_items-none : (rest : Result (P × List I) F) → after_items [] rest ≡ rest
  after_items-none (Ok rest) = refl
  after_items-none (Err why) = refl

  -- the place and the items of a result, or these if it is a refusal
  abbrev pub place_in : P → Result (P × List I) F → P
  place_in d (Ok r) = r.0
  place_in d (Err why) = d

  abbrev pub items_in : List I → Result (P × List I) F → List I
  items_in d (Ok r) = r.1
  items_in d (Err why) = d

  -- The rest leads to this place, and `all` is these items and then those of the rest.
  pub record CameTo (items : List I) (rest : Result (P × List I) F) (place : P) (all : List I) :
      Type 0 where
    pub others : List I
    pub is : rest ≡ Ok (place, others)
    pub all_is : all ≡ items ++ others

  pub came_to : (items : List I) (rest : Result (P × List I) F) (place : P) (all : List I)
      → after_items items rest ≡ Ok (place, all) → CameTo items rest place all
  came_to items (Ok rest) place all e = record {
    others = rest.1;
    is = ap (λ q. Ok (q, rest.1)) (ap (place_in place) e);
    all_is = sym (ap (items_in all) e);
  }
  came_to items (Err why) place all e = cc

module _ {P I F : Type 0} (step : P → ℕ → Result (P × Option I) F) where
  -- The second bytes are walked from the place to which the first ones lead.
  pub walk-append : (from place : P) (first second : List ℕ) (items : List I)
      → walk step from first ≡ Ok (place, items)
      → walk step from (first ++ second) ≡ after_items items (walk step place second)
  unfolding walk
  walk-append from place [] second items e =
      rw (sym (ap (place_in from) e), sym (ap (items_in items) e))
      (sym (after_items-none (walk step from second)))
  walk-append from place (b ∷ first) second items e =
      by_step (step from b) (λ q others f. walk-append q place first second others f) e
    where
      by_step : (next : Result (P × Option I) F)
          → ((q : P) (others : List I) → walk step q first ≡ Ok (place, others)
          → walk step q (first ++ second) ≡ after_items others (walk step place second))
          → and_then_walk next (λ q. walk step q first) ≡ Ok (place, items)
          → and_then_walk next (λ q. walk step q (first ++ second))
          ≡ after_items items (walk step place second)
      by_step (Ok next) shorter e =
          let came = came_to (option_to_list next.1) (walk step next.0 first) place items e in
          ap (after_items (option_to_list next.1))
          (shorter next.0 came.others came.is)
          ∙ after_items-twice (option_to_list next.1) came.others (walk step place second)
          ∙ ap (λ x. after_items x (walk step place second)) (sym came.all_is)
      by_step (Err why) shorter e = cc

  -- Two walks, one after the other, are a walk over the bytes of both.
  pub walk-join : (from place last : P) (first second : List ℕ) (items others : List I)
      → walk step from first ≡ Ok (place, items) → walk step place second ≡ Ok (last, others)
      → walk step from (first ++ second) ≡ Ok (last, items ++ others)
  walk-join from place last first second items others e f =
      walk-append from place first second items e ∙ ap (after_items items) f

  -- a walk over one byte
  pub walk-one : (from place : P) (b : ℕ) (item : Option I) → step from b ≡ Ok (place, item)
      → walk step from (b ∷ []) ≡ Ok (place, option_to_list item)
  unfolding walk
  walk-one from place b item e =
      ap (λ next. and_then_walk next (λ q. walk step q [])) e
      ∙ ap (λ x. Ok (place, x)) (append-nil (option_to_list item))

  pub walk-more : (from place last : P) (bytes : List ℕ) (items : List I) (b : ℕ)
      (item : Option I) → walk step from bytes ≡ Ok (place, items)
      → step place b ≡ Ok (last, item)
      → walk step from (bytes ++ b ∷ []) ≡ Ok (last, items ++ option_to_list item)
  walk-more from place last bytes items b item e f =
      walk-join from place last bytes (b ∷ []) items (option_to_list item) e
      (walk-one place last b item f)

  -- A step and the walk after it are a walk.
  pub walk-cons : (from place last : P) (b : ℕ) (bytes : List ℕ) (item : Option I)
      (items : List I) → step from b ≡ Ok (place, item)
      → walk step place bytes ≡ Ok (last, items)
      → walk step from (b ∷ bytes) ≡ Ok (last, option_to_list item ++ items)
  walk-cons from place last b bytes item items e f =
      walk-join from place last (b ∷ []) bytes (option_to_list item) items
      (walk-one from place b item e) f

  -- A byte that is refused after others is refused whatever follows it.
  pub walk-refused : (from place : P) (bytes more : List ℕ) (items : List I) (b : ℕ) (why : F)
      → walk step from bytes ≡ Ok (place, items) → step place b ≡ Err why
      → walk step from ((bytes ++ b ∷ []) ++ more) ≡ Err why
  unfolding walk
  walk-refused from place bytes more items b why e f =
      ap (walk step from) (append_assoc bytes (b ∷ []) more)
      ∙ walk-append from place bytes (b ∷ more) items e
      ∙ ap (λ next. after_items items (and_then_walk next (λ q. walk step q more))) f

module _ {I : Type 0} where
  -- Holds if the two lists have no items in common at their beginning.
  abbrev pub Apart : List I → List I → Type 0
  Apart xs ys = (first x y : List I) → xs ≡ first ++ x → ys ≡ first ++ y → first ≡ []

  pub apart_none : (ys : List I) → Apart [] ys
  apart_none ys [] x y e f = refl
  apart_none ys (c ∷ first) x y e f = cc

  pub apart_heads : (a b : I) (xs ys : List I) → (a ≡ b → ⊥) → Apart (a ∷ xs) (b ∷ ys)
  apart_heads a b xs ys differ [] x y e f = refl
  apart_heads a b xs ys differ (c ∷ first) x y e f =
      absurd (differ (ap (head_in a) e ∙ sym (ap (head_in b) f)))
    where
      head_in : I → List I → I
      head_in d [] = d
      head_in d (h ∷ rest) = h

module _ {P I F : Type 0} (step : P → ℕ → Result (P × Option I) F) (start : P) (ends : P → Bool)
    (IsRight : List ℕ → List I → Type 0) where
  -- Inputs go on from this place in two ways that begin with no item in common.
  pub record PartsFrom (place : P) : Type 0 where
    pub one : GoesOnFrom step start ends IsRight place
    pub other : GoesOnFrom step start ends IsRight place
    pub apart : Apart one.others other.others

module _ {P I F : Type 0} (step : P → ℕ → Result (P × Option I) F) (start : P) (ends : P → Bool)
    (IsRight : List ℕ → List I → Type 0) (reads : ReadsFormat step start ends IsRight) where
  -- Each input of the format that begins with these bytes has their items first.
  pub reads_each : (bytes : List ℕ) (place : P) (items : List I)
      → walk step start bytes ≡ Ok (place, items) → (more : List ℕ) (all : List I)
      → IsRight (bytes ++ more) all → (others : List I) × (all ≡ items ++ others)
  reads_each bytes place items e = λ more all r.
      let whole = reads.complete (bytes ++ more) all r in
      let came = came_to items (walk step place more) whole.0 all
      (sym (walk-append step start place bytes more items e) ∙ whole.1) in
      (came.others, came.all_is)

  right_on : (bytes : List ℕ) (place : P) (items : List I) → walk step start bytes ≡ Ok (place, items)
      → (on : GoesOnFrom step start ends IsRight place)
      → IsRight (bytes ++ on.more) (items ++ on.others)
  right_on bytes place items e on =
      reads.sound (bytes ++ on.more) on.last (items ++ on.others)
      (walk-join step start place on.last bytes on.more items on.others e on.walks) on.end

  -- What comes first in each input that goes on from here comes first in the items of this one.
  first_on : (bytes : List ℕ) (place : P) (items further : List I)
      → walk step start bytes ≡ Ok (place, items) → HaveFirst IsRight bytes (items ++ further)
      → (on : GoesOnFrom step start ends IsRight place)
      → (x : List I) × (on.others ≡ further ++ x)
  first_on bytes place items further e first on =
      let came = first on.more (items ++ on.others) (right_on bytes place items e on) in (
        came.0,
        append_cancel_left items on.others (further ++ came.0)
            (came.1 ∙ append_assoc items further came.0),
      )

  pub reads_begins : (bytes : List ℕ) (place : P) (items : List I)
      → walk step start bytes ≡ Ok (place, items)
      → PartsFrom step start ends IsRight place → WalkBegins IsRight bytes items
  reads_begins bytes place items e on = record {
    more = on.one.more;
    others = on.one.others;
    right = right_on bytes place items e on.one;
    each = reads_each bytes place items e;
    no_more = λ further first.
        let x = first_on bytes place items further e first on.one in
        let y = first_on bytes place items further e first on.other in
        on.apart further x.0 y.0 x.1 y.1;
  }

  pub reads_none : (bytes : List ℕ) (place : P) (items : List I) (b : ℕ) (why : F)
      → walk step start bytes ≡ Ok (place, items) → step place b ≡ Err why
      → WalkBeginsNone IsRight (bytes ++ b ∷ [])
  reads_none bytes place items b why e f = λ more all r.
      let whole = reads.complete ((bytes ++ b ∷ []) ++ more) all r in
      let refused = walk-refused step start place bytes more items b why e f in
      let clash : Ok (whole.0, all) ≡ Err why = sym whole.1 ∙ refused in
      cc

  -- If the input may not end at the place after these bytes, they aren't an input of the format.
  pub reads_open : (bytes : List ℕ) (place : P) (items : List I)
      → walk step start bytes ≡ Ok (place, items) → ends place ≡ false
      → (all : List I) → IsRight bytes all → ⊥
  reads_open bytes place items e open_there = λ all r.
      let whole = reads.complete bytes all r in
      let same : place ≡ whole.0 = ap (place_in place) (sym e ∙ whole.1) in
      let clash : false ≡ true = sym open_there ∙ ap ends same ∙ whole.2 in
      cc

-- What holds at the first place, before any byte, and is kept by each step, holds wherever a walk
-- gets to.
module _ {P I F : Type 0} (step : P → ℕ → Result (P × Option I) F)
    (holds : P → List ℕ → List I → Type 0)
    (stays : (place next : P) (bytes : List ℕ) (items : List I) (b : ℕ) (item : Option I)
    → holds place bytes items → step place b ≡ Ok (next, item)
    → holds next (bytes ++ b ∷ []) (items ++ option_to_list item)) where
  pub walk_keeps : (from place : P) (before bytes : List ℕ) (first items : List I)
      → holds from before first → walk step from bytes ≡ Ok (place, items)
      → holds place (before ++ bytes) (first ++ items)
  unfolding walk
  walk_keeps from place before [] first items h e =
      let at_place : from ≡ place = ap (place_in from) e in
      let none : [] ≡ items = ap (items_in items) e in
      let moved : holds place before first = let R : P → Type 0 = λ q. holds q before first in
      subst R at_place h in
      let longer : holds place (before ++ []) first =
      let R : List ℕ → Type 0 = λ x. holds place x first in
      subst R (sym (append-nil before)) moved in
      let R : List I → Type 0 = λ x. holds place (before ++ []) x in
      subst R (sym (append-nil first) ∙ ap (λ x. first ++ x) none) longer
  walk_keeps from place before (b ∷ bytes) first items h e =
      by_step (step from b) refl
      (λ next others item came f. walk_keeps next place (before ++ b ∷ []) bytes
      (first ++ option_to_list item) others came f) e
    where
      by_step : (r : Result (P × Option I) F) → step from b ≡ r
          → ((next : P) (others : List I) (item : Option I)
          → holds next (before ++ b ∷ []) (first ++ option_to_list item)
          → walk step next bytes ≡ Ok (place, others)
          → holds place ((before ++ b ∷ []) ++ bytes) ((first ++ option_to_list item) ++ others))
          → and_then_walk r (λ q. walk step q bytes) ≡ Ok (place, items)
          → holds place (before ++ b ∷ bytes) (first ++ items)
      by_step (Ok r) same shorter e =
          let came = came_to (option_to_list r.1) (walk step r.0 bytes) place items e in
          let kept = shorter r.0 came.others r.1 (stays from r.0 before first b r.1 h same) came.is
          in
          let Q : List ℕ → Type 0 = λ x. holds place x ((first ++ option_to_list r.1) ++
          came.others)
          in
          let longer : holds place (before ++ b ∷ bytes) ((first ++ option_to_list r.1) ++
          came.others)
          = subst Q (append_assoc before (b ∷ []) bytes) kept in
          let R : List I → Type 0 = λ x. holds place (before ++ b ∷ bytes) x in
          subst R (append_assoc first (option_to_list r.1) came.others
          ∙ ap (λ x. first ++ x) (sym came.all_is)) longer
      by_step (Err why) same shorter e = cc
