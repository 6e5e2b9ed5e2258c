use Rattle.{link_format.specs.Setup.setup_of, sequence_journal.specs.Journal.journal_floor}
use Rattle.session_audit.proofs.Starting.{no-note, no-tick}
use Rattle.session_audit.specs.FramesOf.{frames_among}
use Rattle.std.proofs.Common.{ap, subst, []}
use Rattle.session_audit.proofs.shown_frames.ShownFramesFrameBox.new.Goals as goal

pub returns-clause-stands : goal.returns-clause-stands
returns-clause-stands g c = record {
  notes = subst (λ n. g.X.LinkBox.stands c.new.result (journal_floor c.journal_at-journal.result)
      (setup_of c.args.key.now c.args.dir n) [])
      c.journal_at-journal.ensures.floor
      (c.new.ensures.stands (journal_floor c.journal_at-journal.result));
  burst = c.new-2.ensures;
  room = c.requires.widths.1;
}

pub returns-clause-nothing : goal.returns-clause-nothing
returns-clause-nothing g c = λ setup.
    let walking = g.X.LinkBox.walking in
    ap (frames_among walking.frame_in) (no-note (walking.walker setup) (walking.begun setup))

pub returns-clause-no_tick : goal.returns-clause-no_tick
returns-clause-no_tick g c = λ setup.
    let walking = g.X.LinkBox.walking in
    no-tick (walking.walker setup) (walking.begun setup)
