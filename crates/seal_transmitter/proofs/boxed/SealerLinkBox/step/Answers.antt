use Rattle.std.proofs.Common.{◌+◌, refl}
use Rattle.sequence_journal.specs.Journal.{journal_floor}
use Rattle.link_box.specs.Sealing.FullNote.{sealed_note}
use Rattle.seal_transmitter.proofs.Keeping.{keeps-ok, keeps-err}
use Rattle.seal_transmitter.proofs.boxed.SealerLinkBox.step.Goals as goal

pub returns-in-Ok-clause-steps : goal.returns-in-Ok-clause-steps
returns-in-Ok-clause-steps g c = λ setup line stands.
    let taken = c.in-Ok.ensures.step setup line stands in
    record { stands = taken.stands; number = taken.floor; answers = taken.answers }

pub returns-in-Ok-clause-journal : goal.returns-in-Ok-clause-journal
returns-in-Ok-clause-journal g c =
    keeps-ok g.D.SlotDisk _ _ _ _ c.in-Ok.step c.in-Ok.ensures.journal

pub returns-in-Err-clause-fails : goal.returns-in-Err-clause-fails
returns-in-Err-clause-fails g c =
    let number = journal_floor c.args.journal.now + 1 in
    record {
      number = number;
      failed = c.in-Err.ensures.journal.failed;
      notes = λ setup line stands.
          let seals = c.in-Err.ensures.err_seals setup line stands in
          record {
            full = sealed_note number seals.start seals.frame;
            frame = record { number = number; start = seals.start; frame = seals.frame };
            noted = seals.note;
            framed = refl;
            numbered = refl;
          };
    }

pub returns-in-Err-clause-journal : goal.returns-in-Err-clause-journal
returns-in-Err-clause-journal g c = keeps-err g.D.SlotDisk _ _ _ _ _ c.in-Err.ensures.journal
