-- If the first bytes of a text fill the room of a frame and more bytes follow, the text is no
-- frame.
use Rattle.line_rules.specs.{Rules.Rules, Rules.fills_room, RulesLaws.IsLawful, RulesLaws.IsFramed}
use Rattle.std.proofs.Common.{◌≡◌, ℕ, ◌<◌, ◌≤◌, true, false, List, [], ◌∷◌, ◌++◌, length, take}
use Rattle.std.proofs.Common.{drop, arith, sym, ◌∙◌, ap, append_assoc, append-nil, length-append}
use Rattle.std.proofs.lemmas.Bool.{false_from_ne_true, eqb-true}
use Rattle.std.proofs.lemmas.List.{take-append-drop, length-take-le}

module _ (rules : Rules) (lawful : IsLawful rules) (framed : IsFramed rules) where
  -- If the bytes fill the room, more bytes don't change how large the room is.
  full_stays : (rest x : List ℕ) → rules.room x ≤ length x → rules.room (x ++ rest) ≡ rules.room x
  full_stays [] x full = ap rules.room (append-nil x)
  full_stays (b ∷ rest) x full =
      let same = lawful.stays x b full in
      let longer = length-append x (b ∷ []) in
      ap rules.room (sym (append_assoc x (b ∷ []) rest))
      ∙ (full_stays rest (x ++ b ∷ []) (omega arith) ∙ same)

  pub no_frame-beyond : (x : List ℕ) (n : ℕ) → n < length x → fills_room rules (take n x) ≡ true
      → rules.is_frame x ≡ false
  no_frame-beyond x n beyond full =
      let taken : length (take n x) ≡ n = length-take-le n x (omega arith) in
      let room : length (take n x) ≡ rules.room (take n x) = eqb-true _ _ full in
      let same : rules.room x ≡ rules.room (take n x) =
      ap rules.room (sym (take-append-drop n x))
      ∙ full_stays (drop n x) (take n x) (omega arith) in
      false_from_ne_true (rules.is_frame x)
      (λ frame. let fits = framed.has_room x frame in absurd (omega arith))
