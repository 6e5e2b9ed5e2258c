-- Texts of ticks, in pieces.
use Rattle.line_commands.specs.LiveText.{IsTextOf}
use Rattle.std.proofs.Common.{◌≡◌, ◌∙◌, ℕ, List, [], ◌∷◌, ◌++◌, refl, ap, sym, subst, append-nil}
use Rattle.std.proofs.lemmas.Grind.{flat_map-append}
use Rattle.std.specs.List.{flat_map}
use Rattle.yasir_ticks.specs.CanonicalText.{canonical_text}
use Rattle.yasir_ticks.specs.declared.tick.Tick.{Tick}

pub text_nil : IsTextOf [] []
text_nil = record { pieces = []; ticks_are = refl; text_is = refl }

-- The canonical text of some ticks is a text of them in one piece.
pub text_one : (ticks : List Tick) → IsTextOf (canonical_text ticks) ticks
text_one ticks = record {
  pieces = ticks ∷ [];
  ticks_are = sym (append-nil ticks);
  text_is = sym (append-nil (canonical_text ticks));
}

-- A text of some ticks and a text of more ticks are a text of all of them.
pub text_then : (x y : List ℕ) (a b : List Tick) → IsTextOf x a → IsTextOf y b
    → IsTextOf (x ++ y) (a ++ b)
text_then x y a b first second = record {
  pieces = first.pieces ++ second.pieces;
  ticks_are = ap (λ l. l ++ b) first.ticks_are
      ∙ (ap (λ l. flat_map (λ piece. piece) first.pieces ++ l) second.ticks_are
      ∙ sym (flat_map-append (λ piece. piece) first.pieces second.pieces));
  text_is = ap (λ l. l ++ y) first.text_is
      ∙ (ap (λ l. flat_map canonical_text first.pieces ++ l) second.text_is
      ∙ sym (flat_map-append canonical_text first.pieces second.pieces));
}

pub text_as : (x y : List ℕ) (a b : List Tick) → x ≡ y → a ≡ b → IsTextOf x a → IsTextOf y b
text_as x y a b e f text = subst (λ t. IsTextOf t b) e (subst (IsTextOf x) f text)
