use Rattle.sequence_journal.specs.Journal.{journal_floor}
use Rattle.std.proofs.Common.{◌∙◌, ap, sym, arith}
use Rattle.replay_tests.proofs.live_boxes.driven.Goals as goal

pub drive-end-requires-clause-ready : goal.drive-end-requires-clause-ready
drive-end-requires-clause-ready g c = let made = c.new-live_box.ensures in record {
  counted = made.taken ∙ sym made.none;
  few = omega (arith, made.none);
  able = made.may _ c.in_ok-journal.ensures.fits;
}

pub drive-end-requires-clause-clear : goal.drive-end-requires-clause-clear
drive-end-requires-clause-clear g c = c.new-live_box.ensures.clear _ c.in_ok-journal.ensures.fits

pub drive-end-requires-clause-level : goal.drive-end-requires-clause-level
drive-end-requires-clause-level g c = let made = c.new-live_box.ensures in
    omega (arith, ap journal_floor made.journal, made.settled)
