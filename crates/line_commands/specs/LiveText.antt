-- Tick text that is written as its ticks come.
use Rattle.std.specs.Prelude.{◌≡◌, ℕ, List}
use Rattle.std.specs.List.{flat_map}
use Rattle.yasir_ticks.specs.CanonicalText.{canonical_text}
use Rattle.yasir_ticks.specs.declared.tick.Tick.{Tick}

-- A text of these ticks: the ticks are split into pieces, and the text is the canonical texts of
-- the pieces, one after the other.
pub record IsTextOf (text : List ℕ) (ticks : List Tick) : Type 0 where
  pub pieces : List (List Tick)
  pub ticks_are : ticks ≡ flat_map (λ piece. piece) pieces
  pub text_is : text ≡ flat_map canonical_text pieces
