-- What the steps of a box return, if a walk defines the box: a tick of the other line, and the note
-- that falls into the step.
use Rattle.std.specs.Prelude.{◌≡◌, ℕ, List, [], ◌∷◌, ◌++◌, length, map, Option, Some, None}
use Rattle.yasir_ticks.specs.declared.tick.Tick.{Tick}
use Rattle.frame_ending.specs.Walk.{Walker, Noted, notes_of, line_of}

-- the notes as a box tells them
abbrev pub told_notes : {N A : Type 0} → (N → A) → List (Noted N) → List (Noted A)
told_notes note_of notes = map (λ n. record { tick = n.tick; note = note_of n.note }) notes

-- the note of the step of tick m, if there is one
abbrev pub note_in : {A : Type 0} → ℕ → Option A → List (Noted A)
note_in m None = []
note_in m (Some note) = record { tick = m; note = note } ∷ []

-- Holds if, after these ticks of a line, the step of one more tick returns the tick of the other
-- line and the note that the walk adds.
pub record AnswersTick {S N A : Type 0} (w : Walker S N) (note_of : N → A) (begun : S)
    (line : List Tick)
    (t answer : Tick) (noted : Option A) : Type 0 where
  pub tick : line_of w begun (line ++ t ∷ []) ≡ line_of w begun line ++ answer ∷ []
  pub note : told_notes note_of (notes_of w begun (line ++ t ∷ []))
      ≡ told_notes note_of (notes_of w begun line) ++ note_in (length line) noted
