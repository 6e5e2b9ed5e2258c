-- How the last byte of a list is sent if the list must not be a frame.
use Rattle.std.specs.Prelude.{◌≡◌, ℕ, Bool, true, false, List, [], ◌∷◌, ◌++◌, bit_xor}
use Rattle.std.specs.Prelude.{if◌then◌else◌, refl}
use Rattle.std.proofs.Common.{◌∙◌, ap}
use Rattle.std.proofs.lemmas.Bool.{cond-true, cond-false}
use Rattle.line_rules.specs.Rules.{Rules}

-- the byte `c` after the bytes `h`, with its lowest bit turned if they would have a right ending
-- together, and as it is otherwise
abbrev pub spoil_by : (List ℕ → Bool) → List ℕ → ℕ → ℕ
spoil_by has_right_ending h c = if has_right_ending (h ++ c ∷ []) then bit_xor c 1 else c

-- A spoiled list isn't a frame and has no right ending. A byte is changed, in its lowest bit, only
-- if the list would have a right ending with it.
pub record IsSpoiling (rules : Rules) : Type 0 where
  pub no_frame : (h : List ℕ) (c : ℕ) → rules.is_frame (h ++ rules.spoil h c ∷ []) ≡ false
  pub no_right_ending : (h : List ℕ) (c : ℕ)
      → rules.has_right_ending (h ++ rules.spoil h c ∷ []) ≡ false
  pub kept : (h : List ℕ) (c : ℕ) → rules.has_right_ending (h ++ c ∷ []) ≡ false
      → rules.spoil h c ≡ c
  pub turned : (h : List ℕ) (c : ℕ) → rules.has_right_ending (h ++ c ∷ []) ≡ true
      → rules.spoil h c ≡ bit_xor c 1

-- Rules that spoil as `spoil_by` does keep the laws of `IsSpoiling` if each frame has a right
-- ending, and if no right ending stays right when the lowest bit of its last byte is turned.
module _ (rules : Rules)
    (spoils : (h : List ℕ) (c : ℕ) → rules.spoil h c ≡ spoil_by rules.has_right_ending h c)
    (framed : (x : List ℕ) → rules.has_right_ending x ≡ false → rules.is_frame x ≡ false)
    (turns : (h : List ℕ) (c : ℕ) → rules.has_right_ending (h ++ c ∷ []) ≡ true
    → rules.has_right_ending (h ++ bit_xor c 1 ∷ []) ≡ false) where
  spoil-kept : (h : List ℕ) (c : ℕ) → rules.has_right_ending (h ++ c ∷ []) ≡ false
      → rules.spoil h c ≡ c
  spoil-kept h c wrong = spoils h c ∙ cond-false _ _ _ wrong

  spoil-turned : (h : List ℕ) (c : ℕ) → rules.has_right_ending (h ++ c ∷ []) ≡ true
      → rules.spoil h c ≡ bit_xor c 1
  spoil-turned h c right = spoils h c ∙ cond-true _ _ _ right

  spoil-wrong : (h : List ℕ) (c : ℕ) (right : Bool) → rules.has_right_ending (h ++ c ∷ []) ≡ right
      → rules.has_right_ending (h ++ rules.spoil h c ∷ []) ≡ false
  spoil-wrong h c true right =
      ap (λ b. rules.has_right_ending (h ++ b ∷ [])) (spoil-turned h c right) ∙ turns h c right
  spoil-wrong h c false wrong =
      ap (λ b. rules.has_right_ending (h ++ b ∷ [])) (spoil-kept h c wrong) ∙ wrong

  pub spoiling_by_ending : IsSpoiling rules
  spoiling_by_ending = record {
    no_frame = λ h c. framed (h ++ rules.spoil h c ∷ []) (spoil-wrong h c _ refl);
    no_right_ending = λ h c. spoil-wrong h c _ refl;
    kept = spoil-kept;
    turned = spoil-turned;
  }
