-- A box over a journal in memory, tick by tick.
use Rattle.std.specs.Prelude.{◌≡◌, ℕ, ◌+◌, ◌≤◌, List, [], ◌∷◌, ◌++◌, None}
use Rattle.yasir_ticks.specs.declared.tick.Tick.{Tick}
use Rattle.frame_ending.specs.declared.box_step.BoxStep.{BoxStep}
use Rattle.link_format.specs.Setup.{Setup}
use Rattle.sequence_journal.specs.Journal.{journal_floor}
use Rattle.link_box.specs.Stepping.{ServesLink}
use Rattle.link_box.specs.Walking.{number_used_after}
use Rattle.link_box.specs.declared.box_trait.LinkBox.{Ghosts as LinkBox}
use Rattle.line_texts.specs.Sending.{LineAndNotes}
use Rattle.line_commands.specs.Boxes.{AnswersBox, line_of_note}
use Rattle.line_commands.specs.LinkBoxed.{boxed_of}
use Rattle.line_commands.specs.Sending.{made_by}
use Rattle.live_line.specs.declared.plain_box.PlainBox.{PlainBox}

-- the last number that the box has used
abbrev pub plain_number : {B : Type 0} → PlainBox B → ℕ
plain_number value = journal_floor value.journal

-- A box, and the lines of its notes.
module _ {B N : Type 0} (b : LinkBox B N) (line_of : N → List ℕ) where
  -- what it makes of a line
  abbrev pub plain_made : Setup → LineAndNotes
  plain_made setup = made_by (boxed_of b.walking line_of setup)

  -- how many ticks it has taken
  abbrev pub plain_taken : PlainBox B → ℕ
  plain_taken value = b.taken value.line_box

  -- Its journal in memory serves its link, and no call on it has failed.
  abbrev pub IsPlainReady : PlainBox B → Type 0
  IsPlainReady value = ServesLink (b.link_of value.line_box) value.journal None

  -- It began with this setup and has taken this line.
  pub record PlainStands (value : PlainBox B) (setup : Setup) (line : List Tick) : Type 0 where
    pub steps : b.stands value.line_box (journal_floor value.journal) setup line
    pub number_is : journal_floor value.journal ≡ number_used_after b.walking setup line

  -- It has taken the tick `t` after this line, and returned this.
  pub record PlainStepped (new : PlainBox B) (setup : Setup) (line : List Tick) (t : Tick)
      (step : BoxStep N) : Type 0 where
    pub stood : PlainStands new setup (line ++ t ∷ [])
    pub answers : AnswersBox (boxed_of b.walking line_of setup) line t step.tick
        (line_of_note line_of step.note)

  -- The same after whatever line it had taken. No number was lost.
  pub record StepsPlain (old new : PlainBox B) (t : Tick) (step : BoxStep N) : Type 0 where
    pub counted : plain_taken new ≡ plain_taken old + 1
    pub ready : IsPlainReady new
    pub rises : plain_number old ≤ plain_number new
    pub steps : (setup : Setup) (line : List Tick) → PlainStands old setup line
        → PlainStepped new setup line t step
