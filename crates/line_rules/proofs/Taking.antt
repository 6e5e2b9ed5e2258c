-- Bytes of a part that are appended one after the other, as long as there is room.
use Rattle.line_rules.specs.Rules.{Rules, fills_room}
use Rattle.std.proofs.Common.{◌-◌, drop, ◌≡◌, ℕ, ◌+◌, ◌<◌, false, List, [], ◌∷◌, ◌++◌, length, take}
use Rattle.std.proofs.Common.{get_or, arith, sym, ◌∙◌, ap, subst, append_assoc, append-nil, ⊎_elim}
use Rattle.std.proofs.Math.Seq.{take-add}
use Rattle.std.proofs.lemmas.{Bool.cases_eq, Bool.cases_lt, List.take_more}

module _ {V : Type 0} (rules : Rules) (stands : V → List ℕ → Type 0) (old : V) (part : List ℕ) where
  -- Holds if the value has taken the first n bytes of the part, and there was room for each.
  pub record HasTaken (value : V) (n : ℕ) : Type 0 where
    pub stands_for : (x : List ℕ) → stands old x → stands value (x ++ take n part)
    pub had_room : (x : List ℕ) (k : ℕ) → stands old x → k < n
        → fills_room rules (x ++ take k part) ≡ false

  pub taken-none : HasTaken old 0
  taken-none = record {
    stands_for = λ x before. subst (stands old) (sym (append-nil x)) before;
    had_room = λ x k before none. absurd (omega arith);
  }

  pub taken-next : (value next : V) (n b : ℕ) → HasTaken value n → n < length part
      → b ≡ get_or part n 0 → ((x : List ℕ) → stands value x → false ≡ fills_room rules x)
      → ((x : List ℕ) → stands value x → stands next (x ++ b ∷ [])) → HasTaken next (n + 1)
  taken-next value next n b taken within same has_room takes = record {
    stands_for = λ x before.
        let more : (x ++ take n part) ++ b ∷ [] ≡ x ++ take (n + 1) part =
        append_assoc x (take n part) (b ∷ [])
        ∙ ap (λ y. x ++ y) (ap (λ c. take n part ++ c ∷ []) same
        ∙ sym (take_more part n 0 within)) in
        subst (stands next) more (takes (x ++ take n part) (taken.stands_for x before));
    had_room = λ x k before below.
        ⊎_elim
        (λ last. ap (λ i. fills_room rules (x ++ take i part)) last
        ∙ sym (has_room (x ++ take n part) (taken.stands_for x before)))
        (λ other. taken.had_room x k before (omega arith))
        (cases_eq k n);
  }

  -- the first k bytes of what is left of the part are taken too
  pub taken-more : (value next : V) (n k : ℕ) (rest : List ℕ) → rest ≡ drop n part
      → HasTaken value n
      → ((x : List ℕ) → stands value x → stands next (x ++ take k rest))
      → ((x : List ℕ) (j : ℕ) → stands value x → j < k
      → fills_room rules (x ++ take j rest) ≡ false)
      → HasTaken next (n + k)
  taken-more value next n k rest rest_is taken takes has_room =
      let joined : (x : List ℕ) (j : ℕ)
      → (x ++ take n part) ++ take j rest ≡ x ++ take (n + j) part =
      λ x j. append_assoc x (take n part) (take j rest)
      ∙ ap (λ y. x ++ y) (ap (λ y. take n part ++ take j y) rest_is ∙ sym (take-add n j part)) in
      record {
        stands_for = λ x before. subst (stands next) (joined x k)
            (takes (x ++ take n part) (taken.stands_for x before));
        had_room = λ x j before below.
            ⊎_elim
            (λ earlier. taken.had_room x j before earlier)
            (λ later.
            let place : n + (j - n) ≡ j = omega arith in
            ap (λ i. fills_room rules (x ++ take i part)) (sym place)
            ∙ (ap (fills_room rules) (sym (joined x (j - n)))
            ∙ has_room (x ++ take n part) (j - n) (taken.stands_for x before) (omega arith)))
            (cases_lt j n);
      }
