-- Longer lines.
use Rattle.std.specs.Prelude.{◌≡◌, List, ◌++◌}
use Rattle.yasir_ticks.specs.declared.tick.Tick.{Tick}
use Rattle.frame_ending.specs.Walk.{Walker, notes_of, line_of}

-- Holds if the list `whole` begins with `front`.
pub record Begins {A : Type 0} (front whole : List A) : Type 0 where
  pub rest : List A
  pub is : whole ≡ front ++ rest

-- Holds if the notes and the other line of the longer list of ticks begin with those of `line`.
pub record Extends {S N : Type 0} (w : Walker S N) (s : S) (line more : List Tick) : Type 0 where
  pub notes : Begins (notes_of w s line) (notes_of w s (line ++ more))
  pub ticks : Begins (line_of w s line) (line_of w s (line ++ more))
