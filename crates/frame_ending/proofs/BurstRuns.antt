-- Runs of ticks, joined from single ticks and from shorter runs.
use Rattle.frame_ending.specs.{Answers.AnswersTick, Answers.told_notes, Runs.AnswersRun}
use Rattle.frame_ending.specs.Walk.{Walker, notes_of, line_of}
use Rattle.std.proofs.Common.{◌∙◌, List, [], ◌∷◌, ◌++◌, sym, ap, append-nil, append_assoc, None}
use Rattle.yasir_ticks.specs.declared.tick.Tick.{Tick}

module _ {S N A : Type 0} (w : Walker S N) (note_of : N → A) (begun : S) where
  abbrev Run : List Tick → List Tick → List Tick → Type 0
  Run line run answer = AnswersRun w note_of begun line run answer

  pub run-none : (line : List Tick) → Run line [] []
  run-none line = record {
    ticks = ap (λ l. line_of w begun l) (append-nil line)
        ∙ sym (append-nil (line_of w begun line));
    notes = ap (λ l. told_notes note_of (notes_of w begun l)) (append-nil line);
  }

  pub run-joined : (line run more answer next : List Tick) → Run line run answer
      → Run (line ++ run) more next → Run line (run ++ more) (answer ++ next)
  run-joined line run more answer next first rest = record {
    ticks = ap (λ l. line_of w begun l) (sym (append_assoc line run more))
        ∙ (rest.ticks ∙ (ap (λ l. l ++ next) first.ticks
        ∙ append_assoc (line_of w begun line) answer next));
    notes = ap (λ l. told_notes note_of (notes_of w begun l)) (sym (append_assoc line run more))
        ∙ (rest.notes ∙ first.notes);
  }

  -- If no note falls into the step of a tick, this tick is a run.
  pub run-tick : (line : List Tick) (t answer : Tick)
      → AnswersTick w note_of begun line t answer None → Run line (t ∷ []) (answer ∷ [])
  run-tick line t answer step = record {
    ticks = step.tick;
    notes = step.note ∙ append-nil (told_notes note_of (notes_of w begun line));
  }
