-- Where a reader that takes fields of four bytes, and single bytes between them, gets to.
use Rattle.line_stamps.proofs.WalkLaws.{walk-cons, walk-join, walk-one, walk_keeps}
use Rattle.line_stamps.specs.Fields.{Spot, before_field, at_spot, spot_step}
use Rattle.line_stamps.specs.Walks.{walk}
use Rattle.std.proofs.Common.{◌≡◌, ◌∙◌, ℕ, ◌<◌, nat_lt, Bool, true, false, List, [], ◌∷◌, ◌++◌}
use Rattle.std.proofs.Common.{length, Option, None, Result, Ok, Err, refl, ap, sym, subst, arith}
use Rattle.std.proofs.Common.{append_assoc, append-nil, lt-ltb, ◌⊎◌, inl, inr}
use Rattle.std.proofs.lemmas.Bool.{ltb-true, ltb-false, cond-true, cond-false}
use Rattle.std.{proofs.lemmas.List.length-append, specs.Option.option_to_list}

module _ {S I F : Type 0} where
  -- a result that leads to a spot, which is then before a field or a byte
  pub record CameFrom (r : Result (S × Option I) F) (spot : Spot S) (item : Option I) : Type 0 where
    pub stage : S
    pub is : r ≡ Ok (stage, item)
    pub spot_is : spot ≡ before_field stage

  pub came_from : (r : Result (S × Option I) F) (spot : Spot S) (item : Option I)
      → at_spot r ≡ Ok (spot, item) → CameFrom r spot item
  came_from (Ok r) spot item e = record {
    stage = r.0;
    is = ap (λ o. Ok (r.0, o)) (ap (item_of item) e);
    spot_is = sym (ap (spot_of spot) e);
  }
    where
      item_of : Option I → Result (Spot S × Option I) F → Option I
      item_of d (Ok n) = n.1
      item_of d (Err why) = d

      spot_of : Spot S → Result (Spot S × Option I) F → Spot S
      spot_of d (Ok n) = n.0
      spot_of d (Err why) = d
  came_from (Err why) spot item e = cc

module _ {S I F : Type 0} (takes_bytes : S → Bool) (field_at : S → List ℕ → Result (S × Option I) F)
    (byte_at : S → ℕ → Result (S × Option I) F) where
  abbrev step : Spot S → ℕ → Result (Spot S × Option I) F
  step = spot_step takes_bytes field_at byte_at

  -- one more byte of a field that isn't whole yet
  abbrev longer_spot : Spot S → ℕ → Result (Spot S × Option I) F
  longer_spot spot b = Ok (record { stage = spot.stage; partial = spot.partial ++ b ∷ [] }, None)

  -- ---- a whole field, and a single byte

  partial_step : (stage : S) (partial : List ℕ) (b : ℕ) → takes_bytes stage ≡ false
      → length partial < 3
      → step (record { stage = stage; partial = partial }) b
      ≡ Ok (record { stage = stage; partial = partial ++ b ∷ [] }, None)
  partial_step stage partial b h short =
      rw (h, lt-ltb (length partial) 3 short) refl

  last_step : (stage next : S) (partial : List ℕ) (b : ℕ) (item : Option I)
      → takes_bytes stage ≡ false → length partial ≡ 3
      → field_at stage (partial ++ b ∷ []) ≡ Ok (next, item)
      → step (record { stage = stage; partial = partial }) b ≡ Ok (before_field next, item)
  last_step stage next partial b item h long e = rw (h, long, e) refl

  pub field_walk : (stage next : S) (field : List ℕ) (item : Option I)
      → takes_bytes stage ≡ false → length field ≡ 4 → field_at stage field ≡ Ok (next, item)
      → walk step (before_field stage) field ≡ Ok (before_field next, option_to_list item)
  field_walk stage next [] item h long e = absurd (omega arith)
  field_walk stage next (a ∷ []) item h long e = absurd (omega arith)
  field_walk stage next (a ∷ b ∷ []) item h long e = absurd (omega arith)
  field_walk stage next (a ∷ b ∷ c ∷ []) item h long e = absurd (omega arith)
  field_walk stage next (a ∷ b ∷ c ∷ d ∷ []) item h long e =
      walk-cons step (before_field stage) _ (before_field next) a (b ∷ c ∷ d ∷ []) None
      (option_to_list item)
      (partial_step stage [] a h (omega arith))
      (walk-cons step _ _ (before_field next) b (c ∷ d ∷ []) None (option_to_list item)
      (partial_step stage (a ∷ []) b h (omega arith))
      (walk-cons step _ _ (before_field next) c (d ∷ []) None (option_to_list item)
      (partial_step stage (a ∷ b ∷ []) c h (omega arith))
      (walk-one step _ (before_field next) d item
      (last_step stage next (a ∷ b ∷ c ∷ []) d item h refl e))))
  field_walk stage next (a ∷ b ∷ c ∷ d ∷ f ∷ field) item h long e = absurd (omega arith)

  pub single_walk : (stage next : S) (b : ℕ) (item : Option I) → takes_bytes stage ≡ true
      → byte_at stage b ≡ Ok (next, item)
      → walk step (before_field stage) (b ∷ []) ≡ Ok (before_field next, option_to_list item)
  single_walk stage next b item h e = walk-one step (before_field stage) (before_field next) b item
      (rw (h, e) refl)

  -- ---- what holds before each field and each byte

  module _ (start : S) (holds : S → List ℕ → List I → Type 0)
      (fields : (stage next : S) (front field : List ℕ) (items : List I) (item : Option I)
      → holds stage front items → takes_bytes stage ≡ false → length field ≡ 4
      → field_at stage field ≡ Ok (next, item)
      → holds next (front ++ field) (items ++ option_to_list item))
      (bytes : (stage next : S) (front : List ℕ) (items : List I) (b : ℕ) (item : Option I)
      → holds stage front items → takes_bytes stage ≡ true → byte_at stage b ≡ Ok (next, item)
      → holds next (front ++ b ∷ []) (items ++ option_to_list item)) where
    -- The text is a front, for which `holds` holds at the spot's stage, and the bytes of the field
    -- that have come so far.
    pub record ReachedSpot (spot : Spot S) (text : List ℕ) (items : List I) : Type 0 where
      pub front : List ℕ
      pub text_is : text ≡ front ++ spot.partial
      pub short : length spot.partial < 4
      pub alone : takes_bytes spot.stage ≡ true → spot.partial ≡ []
      pub holds_there : holds spot.stage front items
      pub came : walk step (before_field start) front ≡ Ok (before_field spot.stage, items)

    pub reached_start : holds start [] [] → ReachedSpot (before_field start) [] []
    unfolding walk
    reached_start h = record {
      front = [];
      text_is = refl;
      short = omega arith;
      alone = λ t. refl;
      holds_there = h;
      came = refl;
    }

    -- If the spot takes single bytes, the spot after such a byte is reached, too.
    at_byte : (spot next : Spot S) (text : List ℕ) (items : List I) (b : ℕ) (item : Option I)
        → ReachedSpot spot text items → takes_bytes spot.stage ≡ true
        → at_spot (byte_at spot.stage b) ≡ Ok (next, item)
        → ReachedSpot next (text ++ b ∷ []) (items ++ option_to_list item)
    at_byte spot next text items b item r t e =
        let came = came_from (byte_at spot.stage b) next item e in
        let whole : text ≡ r.front =
        r.text_is ∙ ap (λ x. r.front ++ x) (r.alone t) ∙ append-nil r.front in
        let here : ReachedSpot (before_field came.stage) (text ++ b ∷ [])
        (items ++ option_to_list item) = record {
          front = r.front ++ b ∷ [];
          text_is = ap (λ x. x ++ b ∷ []) whole ∙ sym (append-nil (r.front ++ b ∷ []));
          short = omega arith;
          alone = λ h. refl;
          holds_there = bytes spot.stage came.stage r.front items b item r.holds_there t came.is;
          came = walk-join step (before_field start) (before_field spot.stage)
              (before_field came.stage) r.front (b ∷ []) items (option_to_list item) r.came
              (single_walk spot.stage came.stage b item t came.is);
        } in
        let Q : Spot S → Type 0 = λ q. ReachedSpot q (text ++ b ∷ []) (items ++ option_to_list item)
        in
        subst Q (sym came.spot_is) here

    -- If a byte doesn't end its field, the spot after it is reached, too.
    at_partial : (spot next : Spot S) (text : List ℕ) (items : List I) (b : ℕ) (item : Option I)
        → ReachedSpot spot text items → takes_bytes spot.stage ≡ false
        → length spot.partial < 3
        → longer_spot spot b ≡ Ok (next, item)
        → ReachedSpot next (text ++ b ∷ []) (items ++ option_to_list item)
    at_partial spot next text items b item r t few e =
        let longer : Spot S = record { stage = spot.stage; partial = spot.partial ++ b ∷ [] } in
        let grown = length-append spot.partial (b ∷ []) in
        let none : items ≡ items ++ option_to_list item =
        sym (append-nil items) ∙ ap (λ o. items ++ option_to_list o) (ap (item_of None) e) in
        let here : ReachedSpot longer (text ++ b ∷ []) items = record {
          front = r.front;
          text_is = ap (λ x. x ++ b ∷ []) r.text_is ∙ append_assoc r.front spot.partial (b ∷ []);
          short = omega (arith, grown, few);
          alone = λ h. absurd (clash (takes_bytes spot.stage) t h);
          holds_there = r.holds_there;
          came = r.came;
        } in
        let Q : Spot S → Type 0 = λ q. ReachedSpot q (text ++ b ∷ []) items in
        let R : List I → Type 0 = λ x. ReachedSpot next (text ++ b ∷ []) x in
        subst R none (subst Q (ap (spot_of longer) e) here)
      where
        spot_of : Spot S → Result (Spot S × Option I) F → Spot S
        spot_of d (Ok r) = r.0
        spot_of d (Err why) = d

        item_of : Option I → Result (Spot S × Option I) F → Option I
        item_of d (Ok r) = r.1
        item_of d (Err why) = d

        clash : (t : Bool) → t ≡ false → t ≡ true → ⊥
        clash t h g = cc

    -- If a byte ends its field, the spot after the field is reached, too.
    at_field : (spot next : Spot S) (text : List ℕ) (items : List I) (b : ℕ) (item : Option I)
        → ReachedSpot spot text items → takes_bytes spot.stage ≡ false
        → length spot.partial ≡ 3
        → at_spot (field_at spot.stage (spot.partial ++ b ∷ [])) ≡ Ok (next, item)
        → ReachedSpot next (text ++ b ∷ []) (items ++ option_to_list item)
    at_field spot next text items b item r t three e =
        let field : List ℕ = spot.partial ++ b ∷ [] in
        let came = came_from (field_at spot.stage field) next item e in
        let long : length field ≡ 4 = omega (arith, length-append spot.partial (b ∷ []), three) in
        let here : ReachedSpot (before_field came.stage) (text ++ b ∷ [])
        (items ++ option_to_list item) = record {
          front = r.front ++ field;
          text_is = ap (λ x. x ++ b ∷ []) r.text_is ∙ append_assoc r.front spot.partial (b ∷ [])
              ∙ sym (append-nil (r.front ++ field));
          short = omega arith;
          alone = λ h. refl;
          holds_there = fields spot.stage came.stage r.front field items item r.holds_there t long
              came.is;
          came = walk-join step (before_field start) (before_field spot.stage)
              (before_field came.stage) r.front field items (option_to_list item) r.came
              (field_walk spot.stage came.stage field item t long came.is);
        } in
        let Q : Spot S → Type 0 = λ q. ReachedSpot q (text ++ b ∷ []) (items ++ option_to_list item)
        in
        subst Q (sym came.spot_is) here

    bool_cases : (t : Bool) → (t ≡ true) ⊎ (t ≡ false)
    bool_cases true = inl refl
    bool_cases false = inr refl

    pub reached_more : (spot next : Spot S) (text : List ℕ) (items : List I) (b : ℕ)
        (item : Option I) → ReachedSpot spot text items → step spot b ≡ Ok (next, item)
        → ReachedSpot next (text ++ b ∷ []) (items ++ option_to_list item)
    reached_more spot next text items b item r e = elim (bool_cases (takes_bytes spot.stage)) [
      | inl t ↦ at_byte spot next text items b item r t (sym (cond-true _ _ _ t) ∙ e)
      | inr t ↦ elim (bool_cases (nat_lt (length spot.partial) 3)) [
        | inl few ↦ at_partial spot next text items b item r t (ltb-true _ _ few)
            (sym (cond-true _ _ _ few) ∙ sym (cond-false _ _ _ t) ∙ e)
        | inr many ↦ at_field spot next text items b item r t
            (omega (arith, ltb-false (length spot.partial) 3 many, r.short))
            (sym (cond-false _ _ _ many) ∙ sym (cond-false _ _ _ t) ∙ e)
      ]
    ]

    pub reached_spot : holds start [] [] → (spot : Spot S) (text : List ℕ) (items : List I)
        → walk step (before_field start) text ≡ Ok (spot, items) → ReachedSpot spot text items
    reached_spot h spot text items e =
        walk_keeps step ReachedSpot reached_more (before_field start) spot [] text [] items
        (reached_start h) e
