-- What one more tick of a link changes for a receiver.
use Rattle.std.specs.Prelude.{ℕ, Bool, List, [], ◌∷◌, ◌++◌, length, Option}
use Rattle.yasir_ticks.specs.Bursts.{Burst, bursts}
use Rattle.yasir_ticks.specs.declared.tick.Tick.{Tick}
use Rattle.line_rules.specs.Rules.{Rules}
use Rattle.frame_ending.specs.Answers.{AnswersTick}
use Rattle.link_format.specs.Profile.{Profile}
use Rattle.link_box.specs.Verdicts.{CheckState}
use Rattle.link_box.specs.Checking.{checker, at_floor, brief_note}
use Rattle.link_box.specs.declared.check_note.CheckNote.{CheckNote}
use Rattle.link_box.specs.Holding.{HasWalked}

module _ (profile : Profile) (rules : Rules) (floor : ℕ) (line : List Tick) (t : Tick) where
  -- Holds if the step of one more tick of the link returns this tick and this note.
  abbrev pub Answers : Tick → Option CheckNote → Type 0
  Answers answer told =
      AnswersTick (checker profile rules) brief_note (at_floor floor) line t answer told

  -- Holds if, after these ticks of a link and one more, the walk over them has come as far as
  -- `HasWalked` says, and the step of the last tick returns this tick and this note.
  pub record Goes (s : CheckState) (passes : Bool) (left : List ℕ) (live : List Tick) (owed : ℕ)
      (waiting : Option Burst) (answer : Tick) (told : Option CheckNote) : Type 0 where
    pub walked : HasWalked profile rules floor (length (line ++ t ∷ []))
        (bursts (line ++ t ∷ [])) s passes left live owed waiting
    pub answers : Answers answer told
