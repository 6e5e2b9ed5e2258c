use Rattle.{frame_ending.specs.Answered.answered, session_lists.specs.FrameBox.AnswersFrameRun}
use Rattle.sequence_journal.specs.Journal.{journal_floor}
use Rattle.session_audit.{proofs.RunNotes.frames-run, specs.ShownFrames.numbering_of}
use Rattle.std.proofs.Common.{◌≤◌, ◌++◌, List, arith, subst}
use Rattle.std.proofs.lemmas.List.{take-replicate, length-replicate}
use Rattle.yasir_ticks.specs.declared.tick.Tick.{Tick, TheVariants.Silent}
use Rattle.session_audit.proofs.shown_frames.ShownFramesFrameBox.pass_silence.Goals as goal

pub returns-clause-stands : goal.returns-clause-stands
returns-clause-stands g c = λ setup line before.
    let count = c.take_alike-count.result in
    let within : count ≤ c.args.ticks = omega (
      arith,
      c.take_alike-count.ensures.within,
      length-replicate c.args.ticks Silent,
    ) in
    let last = journal_floor c.args.self.now.journal in
    let ran = c.take_alike-count.ensures.run last setup line before.notes in
    record {
      notes = subst (λ (l : List Tick). g.X.LinkBox.stands c.take_alike-count.new.line_box last
          setup (line ++ l)) (take-replicate count c.args.ticks Silent within) ran.stands;
      burst = c.wait_some.ensures line before.burst;
      room = before.room;
    }

pub returns-clause-answers : goal.returns-clause-answers
returns-clause-answers g c = λ setup line before.
    let walking = g.X.LinkBox.walking in
    let count = c.take_alike-count.result in
    let within : count ≤ c.args.ticks = omega (
      arith,
      c.take_alike-count.ensures.within,
      length-replicate c.args.ticks Silent,
    ) in
    let last = journal_floor c.args.self.now.journal in
    let ran = c.take_alike-count.ensures.run last setup line before.notes in
    subst (λ (l : List Tick). AnswersFrameRun (numbering_of walking setup) line l
    (answered count c.take_alike-count.new.sent.items))
    (take-replicate count c.args.ticks Silent within)
    (frames-run (walking.walker setup) (g.met.X.NotingBox.causal _ _ setup _ ran.stands)
    walking.brief (walking.begun setup) line _ _ ran.answers walking.frame_in)
