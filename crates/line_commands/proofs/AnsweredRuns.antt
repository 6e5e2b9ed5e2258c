-- What a box returns for a step or for a run, as ticks of the other line and the line of a note.
use Rattle.line_commands.specs.{Boxes.Boxed, Boxes.AnswersBox, Boxes.AnswersBoxRun, Sending.made_by}
use Rattle.line_texts.specs.Sending.{AnswersNoted}
use Rattle.std.proofs.Common.{◌∙◌, List, [], ◌∷◌, ℕ, sym, append-nil}
use Rattle.yasir_ticks.specs.declared.tick.Tick.{Tick}

-- If a box returns a tick and the line of a note for a step, these are added to what it has made.
pub step_noted : (box : Boxed) (line : List Tick) (t answer : Tick) (note : List ℕ)
    → AnswersBox box line t answer note
    → AnswersNoted (made_by box) line (t ∷ []) (answer ∷ []) note
step_noted box line t answer note answers =
    record { ticks_are = answers.tick_is; note_is = answers.note_is }

-- If a box returns ticks for a run, in which it notes nothing, only these are added to what it has
-- made.
pub run_noted : (box : Boxed) (line run answer : List Tick) → AnswersBoxRun box line run answer
    → AnswersNoted (made_by box) line run answer []
run_noted box line run answer answers = record {
  ticks_are = answers.ticks;
  note_is = answers.notes ∙ sym (append-nil (box.note_lines line));
}
