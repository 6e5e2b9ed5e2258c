-- What a box makes of a line, with its notes as those of any box, and how it takes more ticks of
-- the line.
use Rattle.std.specs.Prelude.{◌≡◌, ℕ, List, [], ◌∷◌, ◌++◌, length, Option}
use Rattle.yasir_ticks.specs.declared.tick.Tick.{Tick}
use Rattle.frame_ending.specs.Answers.{told_notes, note_in}
use Rattle.frame_ending.specs.Walk.{Noted}
use Rattle.link_format.specs.Setup.{Setup}
use Rattle.link_box.specs.Walking.{Walking, full_notes, other_line, number_used_after}
use Rattle.any_box.specs.declared.any_note.AnyNote.{AnyNote}

-- What a box with a setup makes of a line by the definitions: the other line, the notes, and the
-- last number that it uses.
pub record Definition : Type 0 where
  pub other : Setup → List Tick → List Tick
  pub notes : Setup → List Tick → List (Noted AnyNote)
  pub number : Setup → List Tick → ℕ

-- what a box makes of a line by its walk, with its notes as those of any box
abbrev pub defined_by : {A : Type 0} → Walking A → (A → AnyNote) → Definition
defined_by walking noted = record {
  other = λ setup line. other_line walking setup line;
  notes = λ setup line. told_notes (λ full. noted (walking.brief full))
      (full_notes walking setup line);
  number = λ setup line. number_used_after walking setup line;
}

-- `made` is what a box makes of a line. `standing` holds of the last number that the box used, its
-- setup, and the line that it has taken.
module _ (made : Definition) (standing : ℕ → Setup → List Tick → Type 0) where
  -- Holds if a box has taken one more tick after this line. The last number that it used is that of
  -- the definition, and it has returned the tick of the other line and the note that the definition
  -- adds.
  pub record AnyHasStepped (last : ℕ) (setup : Setup) (line : List Tick) (t tick : Tick)
      (note : Option AnyNote) : Type 0 where
    pub stands : standing last setup (line ++ t ∷ [])
    pub number : last ≡ made.number setup (line ++ t ∷ [])
    pub tick_is : made.other setup (line ++ t ∷ []) ≡ made.other setup line ++ tick ∷ []
    pub note_is : made.notes setup (line ++ t ∷ [])
        ≡ made.notes setup line ++ note_in (length line) note

  -- Holds if a box has taken this run after this line, and used no number. It has returned these
  -- ticks of the other line, and no note falls into them.
  pub record AnyHasTakenRun (last : ℕ) (setup : Setup) (line run answer : List Tick) : Type 0 where
    pub stands : standing last setup (line ++ run)
    pub ticks_are : made.other setup (line ++ run) ≡ made.other setup line ++ answer
    pub no_note : made.notes setup (line ++ run) ≡ made.notes setup line

-- A box takes a tick, or a run, whatever line it had taken. `before` and `since` hold of the last
-- number that the box used, its setup, and the line that it has taken: `before` for the box before
-- that, and `since` for the box after it.
module _ (made : Definition) (before since : ℕ → Setup → List Tick → Type 0) where
  abbrev pub StepsOn : ℕ → ℕ → Tick → Tick → Option AnyNote → Type 0
  StepsOn old new t tick note = (setup : Setup) (line : List Tick)
      → before old setup line → AnyHasStepped made since new setup line t tick note

  abbrev pub AnyTakesOn : List Tick → List Tick → Type 0
  AnyTakesOn run answer = (last : ℕ) (setup : Setup) (line : List Tick)
      → before last setup line → AnyHasTakenRun made since last setup line run answer
