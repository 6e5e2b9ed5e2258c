-- No frame falls into a run of ticks without a note.
use Rattle.frame_ending.proofs.Longer.{extends, length-line_of}
use Rattle.frame_ending.specs.{Answers.told_notes, Causal.IsCausal, Longer.Begins, Runs.AnswersRun}
use Rattle.frame_ending.specs.Walk.{Walker, Noted, notes_of, line_of}
use Rattle.link_format.specs.NumberedFrame.{NumberedFrame}
use Rattle.{session_lists.specs.FrameBox.AnswersFrameRun, session_audit.specs.FramesOf.frames_among}
use Rattle.std.proofs.Common.{◌≡◌, ◌∙◌, List, [], ◌++◌, length, Option, ap, arith, append-nil}
use Rattle.std.proofs.{Common.length-append, lemmas.List.length-map, lemmas.List.nil_from_length}
use Rattle.yasir_ticks.specs.declared.tick.Tick.{Tick}

module _ {S N A : Type 0} (w : Walker S N) (causal : IsCausal w) (brief : N → A) (begun : S)
    (line run answer : List Tick) (answers : AnswersRun w brief begun line run answer) where
  abbrev tell : Noted N → Noted A
  tell n = record { tick = n.tick; note = brief n.note }

  -- The notes are the same before the run and after it.
  notes-same : notes_of w begun (line ++ run) ≡ notes_of w begun line
  notes-same =
      let more : Begins (notes_of w begun line) (notes_of w begun (line ++ run)) =
      (extends w causal begun line run).notes in
      let told = ap length answers.notes in
      let now : length (told_notes brief (notes_of w begun (line ++ run)))
      ≡ length (notes_of w begun (line ++ run)) =
      length-map (notes_of w begun (line ++ run)) tell in
      let before : length (told_notes brief (notes_of w begun line))
      ≡ length (notes_of w begun line) = length-map (notes_of w begun line) tell in
      let parts = ap length more.is in
      let sum = length-append (notes_of w begun line) more.rest in
      let none : more.rest ≡ [] =
      nil_from_length more.rest (omega (arith, told, now, before, parts, sum)) in
      more.is ∙ (ap (λ l. notes_of w begun line ++ l) none ∙ append-nil (notes_of w begun line))

  answer-long : length answer ≡ length run
  answer-long =
      let whole = length-line_of w begun (line ++ run) in
      let front = length-line_of w begun line in
      let joined = ap length answers.ticks in
      let sum = length-append (line_of w begun line) answer in
      let ticks = length-append line run in
      omega (arith, whole, front, joined, sum, ticks)

  pub frames-run : (frame_in : N → Option NumberedFrame)
      → AnswersFrameRun (record {
        other_line = λ l. line_of w begun l;
        frames = λ l. frames_among frame_in (notes_of w begun l);
      }) line run answer
  frames-run frame_in = record {
    ticks = answers.ticks;
    long = answer-long;
    frames = ap (frames_among frame_in) notes-same;
  }
