-- What C has read of a box in all: the answers to all ticks that the box has taken, but for one that
-- is withheld.
use Rattle.any_box.specs.declared.any_box.AnyBox.{AnyBox}
use Rattle.any_box.specs.declared.defined.DefinedBox.{Ghosts as DefinedBox}
use Rattle.std.specs.Prelude.{◌≡◌, ℕ, ◌+◌, List, [], ◌∷◌, ◌++◌, map, Some, None}
use Rattle.std.specs.Prelude.{nat_eq, if◌then◌else◌}
use Rattle.yasir_ticks.specs.declared.tick.Tick.{Tick}
use Rattle.yasir_ticks.specs.declared.tick.Tick.TheVariants.{Silent, Byte}
use Rattle.frame_ending.specs.Answers.{told_notes}
use Rattle.frame_ending.specs.Walk.{Noted}
use Rattle.link_format.specs.Setup.{Setup}
use Rattle.any_box.specs.Boxes.{box_kind}
use Rattle.any_box.specs.Held.{HeldHolds}
use Rattle.any_box.specs.Noting.{Definition}
use Rattle.any_box.specs.declared.kind.Kind.{Kind}
use Rattle.yasir_c.specs.Answers.{answer_of, numbers_in}
use Rattle.yasir_c.specs.declared.answer.Answer.{Answer}
use Rattle.yasir_c.specs.declared.answer.NoteNumbers.{NoteNumbers}
use Rattle.yasir_c.specs.declared.withholding.Readiness.{Readiness}
use Rattle.yasir_c.specs.declared.withholding.Readiness.TheVariants.{Ready, Withholds, Stopped}
use Rattle.yasir_c.specs.declared.withholding.WithholdingBox.{WithholdingBox}

-- the tick that C reads in an answer
abbrev pub tick_told : Answer → Tick
tick_told answer = if nat_eq answer.is_byte 1 then Byte answer.byte else Silent

-- the note that C reads in the answer of tick m, if it reads one
abbrev pub note_told : ℕ → Answer → List (Noted NoteNumbers)
note_told m answer = if nat_eq answer.note 0 then [] else record {
  tick = m;
  note = record {
    note = answer.note;
    why = answer.why;
    len = answer.len;
    number = answer.number;
    start = answer.start;
  };
} ∷ []

-- the notes that C reads in answers, of which the first is that of tick m
abbrev pub notes_told : ℕ → List Answer → List (Noted NoteNumbers)
notes_told m [] = []
notes_told m (answer ∷ answers) = note_told m answer ++ notes_told (m + 1) answers

-- the answer to a tick for which a box returns this tick, without a note
abbrev pub quiet : Tick → Answer
quiet tick = answer_of (record { tick = tick; note = None; commit = None })

-- HeldHolds if these are the answers of a box to a line, one for each tick: the other line that the
-- definition of the box makes of it, and its notes, each in the answer to the tick into whose step
-- it falls.
pub record AreAnswers (made : Definition) (setup : Setup) (line : List Tick)
    (answers : List Answer) : Type 0 where
  pub ticks_are : map tick_told answers ≡ made.other setup line
  pub notes_are : notes_told 0 answers
      ≡ told_notes (λ note. numbers_in (Some note)) (made.notes setup line)

-- HeldHolds if a box has told these answers of those to a line: all of them, if it takes the next tick,
-- or all but the last.
abbrev pub HasTold : Definition → Setup → List Tick → Readiness → List Answer → Type 0
HasTold made setup line Ready answers = AreAnswers made setup line answers
HasTold made setup line (Withholds last) answers =
    AreAnswers made setup line (answers ++ last ∷ [])
HasTold made setup line Stopped answers =
    (last : Answer) × AreAnswers made setup line (answers ++ last ∷ [])

-- What the boxes are by the definitions.
module _ (boxes : DefinedBox AnyBox) where
  -- HeldHolds if a box of this kind with this setup has taken this line, and C has read these answers.
  pub record TellsAnswers (kind : Kind) (setup : Setup) (value : WithholdingBox) (line : List Tick)
      (answers : List Answer) : Type 0 where
    pub kind_is : box_kind value.line_box.line_box ≡ kind
    pub holds : HeldHolds boxes value.line_box setup line
    pub told : HasTold (boxes.defined kind) setup line value.readiness answers
