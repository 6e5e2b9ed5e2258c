-- The first bytes that there is room for, as the bytes go on.
use Rattle.frame_ending.specs.LiveBytes.{within_room}
use Rattle.line_rules.specs.{Rules.Rules, Rules.fills_room, RulesLaws.IsLawful}
use Rattle.std.proofs.Common.{◌≡◌, ℕ, ◌<◌, ◌≤◌, true, false, List, [], ◌∷◌, ◌++◌, length, take}
use Rattle.std.proofs.Common.{refl, arith, sym, ◌∙◌, ap, subst, inl, inr, ◌⊎◌, ⊎_elim, append_assoc}
use Rattle.std.proofs.{Common.length-append, Math.Seq.take-append_seam, lemmas.Bool.cases_eq}
use Rattle.std.proofs.lemmas.{Bool.eqb-true, Bool.eqb-false, List.append-nil, List.take_all}

-- Holds if these are the first of the bytes: all of them, and there is room for them, or as many as
-- there is room for.
pub record FitFirst (rules : Rules) (live x : List ℕ) : Type 0 where
  pub rest : List ℕ
  pub whole : x ≡ live ++ rest
  pub room : ((rest ≡ []) × (length live ≤ rules.room live)) ⊎ (rules.room live ≡ length live)

module _ (rules : Rules) (lawful : IsLawful rules) where
  -- a full room stays as it is when more bytes come
  room-full : (rest x : List ℕ) → rules.room x ≤ length x → rules.room (x ++ rest) ≡ rules.room x
  room-full [] x full = ap rules.room (append-nil x)
  room-full (b ∷ rest) x full =
      let same = lawful.stays x b full in
      let longer = length-append x (b ∷ []) in
      ap rules.room (sym (append_assoc x (b ∷ []) rest))
      ∙ (room-full rest (x ++ b ∷ []) (omega arith) ∙ same)

  pub FitFirst-live : (live x : List ℕ) → FitFirst rules live x → within_room rules x ≡ live
  FitFirst-live live x fit =
      ap (λ y. within_room rules y) fit.whole
      ∙ ⊎_elim
      (λ all. ap (λ r. within_room rules (live ++ r)) all.0
      ∙ (ap (λ y. within_room rules y) (append-nil live)
      ∙ take_all (rules.room live) live all.1))
      (λ full. ap (λ n. take n (live ++ fit.rest)) (room-full fit.rest live (omega arith) ∙ full)
      ∙ take-append_seam live fit.rest)
      fit.room

  -- one more byte, for which there is room
  FitFirst-fits : (live : List ℕ) (b : ℕ) → length live < rules.room live
      → FitFirst rules (live ++ b ∷ []) (live ++ b ∷ [])
  FitFirst-fits live b room =
      let longer = length-append live (b ∷ []) in
      let fits = lawful.fits live b room in
      record {
        rest = [];
        whole = sym (append-nil (live ++ b ∷ []));
        room = inl (refl, omega arith);
      }

  FitFirst-full : (live x : List ℕ) (b : ℕ) → rules.room live ≡ length live → FitFirst rules live x
      → FitFirst rules live (x ++ b ∷ [])
  FitFirst-full live x b full fit =
      record {
        rest = fit.rest ++ b ∷ [];
        whole = ap (λ y. y ++ b ∷ []) fit.whole ∙ append_assoc live fit.rest (b ∷ []);
        room = inr full;
      }

  FitFirst-more : (live x : List ℕ) (b : ℕ) → FitFirst rules live x
      → (live' : List ℕ) × FitFirst rules live' (x ++ b ∷ [])
  FitFirst-more live x b fit =
      ⊎_elim
      (λ full. (live, FitFirst-full live x b full fit))
      (λ open'. ⊎_elim
      (λ all.
      let same : x ≡ live = fit.whole ∙ (ap (λ r. live ++ r) all.0 ∙ append-nil live) in
      let P : List ℕ → Type 0 = λ y. FitFirst rules (live ++ b ∷ []) (y ++ b ∷ []) in
      let room : length live < rules.room live = omega arith in
      (live ++ b ∷ [], subst P (sym same) (FitFirst-fits live b room)))
      (λ full. (live, FitFirst-full live x b full fit))
      fit.room)
      (cases_eq (rules.room live) (length live))

  FitFirst-on : (y live x : List ℕ) → FitFirst rules live x
      → (live' : List ℕ) × FitFirst rules live' (x ++ y)
  FitFirst-on [] live x fit = let P : List ℕ → Type 0 = λ z. FitFirst rules live z in
      (live, subst P (sym (append-nil x)) fit)
  FitFirst-on (b ∷ y) live x fit =
      let next = FitFirst-more live x b fit in
      let rest = FitFirst-on y next.0 (x ++ b ∷ []) next.1 in
      let P : List ℕ → Type 0 = λ z. FitFirst rules rest.0 z in
      (rest.0, subst P (append_assoc x (b ∷ []) y) rest.1)

  FitFirst-nil : FitFirst rules [] []
  FitFirst-nil = record { rest = []; whole = refl; room = inl (refl, omega arith) }

  -- the first bytes that there is room for
  pub within_room-fit : (x : List ℕ) → FitFirst rules (within_room rules x) x
  within_room-fit x =
      let some = FitFirst-on x [] [] FitFirst-nil in
      let P : List ℕ → Type 0 = λ live. FitFirst rules live x in
      subst P (sym (FitFirst-live some.0 x some.1)) some.1

  -- If the room isn't full, the bytes that there is room for are all the bytes.
  pub within_room-open : (x : List ℕ) → fills_room rules (within_room rules x) ≡ false
      → within_room rules x ≡ x
  within_room-open x room =
      let fit = within_room-fit x in
      ⊎_elim
      (λ all. sym (fit.whole ∙ (ap (λ r. within_room rules x ++ r) all.0
      ∙ append-nil (within_room rules x))))
      (λ full. absurd (eqb-false _ _ room (sym full)))
      fit.room

  -- If the room isn't full, there is room for one more byte.
  pub within_room-more : (x : List ℕ) (b : ℕ) → fills_room rules (within_room rules x) ≡ false
      → within_room rules (x ++ b ∷ []) ≡ within_room rules x ++ b ∷ []
  within_room-more x b room =
      let live : List ℕ = within_room rules x in
      let same : live ≡ x = within_room-open x room in
      let fit = within_room-fit x in
      let P : List ℕ → Type 0 = λ y. FitFirst rules (live ++ b ∷ []) (y ++ b ∷ []) in
      let open' : length live ≡ rules.room live → ⊥ = eqb-false _ _ room in
      let short : length live ≤ rules.room live =
      ⊎_elim (λ all. all.1) (λ full. omega arith) fit.room in
      let some : length live < rules.room live = omega arith in
      FitFirst-live (live ++ b ∷ []) (x ++ b ∷ []) (subst P same (FitFirst-fits live b some))

  -- If the room is full, one more byte changes nothing.
  pub within_room-full : (x : List ℕ) (b : ℕ) → fills_room rules (within_room rules x) ≡ true
      → within_room rules (x ++ b ∷ []) ≡ within_room rules x
  within_room-full x b full =
      FitFirst-live (within_room rules x) (x ++ b ∷ [])
      (FitFirst-full (within_room rules x) x b (sym (eqb-true _ _ full)) (within_room-fit x))

  pub within_room-one : (b : ℕ) → within_room rules (b ∷ []) ≡ b ∷ []
  within_room-one b = FitFirst-live (b ∷ []) (b ∷ []) (FitFirst-fits [] b lawful.some_room)

  pub within_room-le : (x : List ℕ) → length (within_room rules x) ≤ length x
  within_room-le x =
      let fit = within_room-fit x in
      let all = ap length fit.whole ∙ length-append (within_room rules x) fit.rest in
      omega arith
