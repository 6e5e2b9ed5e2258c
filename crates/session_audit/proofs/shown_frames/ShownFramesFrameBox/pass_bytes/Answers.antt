use Rattle.{frame_ending.specs.Answered.answered, session_lists.specs.FrameBox.AnswersFrameRun}
use Rattle.sequence_journal.specs.Journal.{journal_floor}
use Rattle.session_audit.{proofs.RunNotes.frames-run, specs.ShownFrames.numbering_of}
use Rattle.std.proofs.{Common.◌++◌, Common.List, Common.subst, lemmas.List.take-map}
use Rattle.yasir_ticks.specs.declared.tick.Tick.{Tick, TheVariants.Byte}
use Rattle.session_audit.proofs.shown_frames.ShownFramesFrameBox.pass_bytes.Goals as goal

pub returns-clause-stands : goal.returns-clause-stands
returns-clause-stands g c = λ setup line before.
    let count = c.take_alike-count.result in
    let last = journal_floor c.args.self.now.journal in
    let ran = c.take_alike-count.ensures.run last setup line before.notes in
    record {
      notes = subst (λ (l : List Tick). g.X.LinkBox.stands c.take_alike-count.new.line_box last
          setup (line ++ l)) (take-map Byte count c.args.bytes.now) ran.stands;
      burst = c.hear_bytes.ensures line before.burst;
      room = before.room;
    }

pub returns-clause-answers : goal.returns-clause-answers
returns-clause-answers g c = λ setup line before.
    let walking = g.X.LinkBox.walking in
    let count = c.take_alike-count.result in
    let last = journal_floor c.args.self.now.journal in
    let ran = c.take_alike-count.ensures.run last setup line before.notes in
    subst (λ (l : List Tick). AnswersFrameRun (numbering_of walking setup) line l
    (answered count c.take_alike-count.new.sent.items)) (take-map Byte count c.args.bytes.now)
    (frames-run (walking.walker setup) (g.met.X.NotingBox.causal _ _ setup _ ran.stands)
    walking.brief (walking.begun setup) line _ _ ran.answers walking.frame_in)
