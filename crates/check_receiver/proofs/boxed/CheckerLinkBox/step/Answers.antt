use Rattle.check_receiver.proofs.Keeping.{keeps-ok, keeps-err}
use Rattle.{link_box.specs.Checking.FullNote.passed_note, std.proofs.Common.refl}
use Rattle.check_receiver.proofs.boxed.CheckerLinkBox.step.Goals as goal

pub returns-in-Ok-clause-steps : goal.returns-in-Ok-clause-steps
returns-in-Ok-clause-steps g c = λ setup line stands.
    let taken = c.in-Ok.ensures.step setup line stands in
    record { stands = taken.stands; number = taken.floor; answers = taken.answers }

pub returns-in-Ok-clause-journal : goal.returns-in-Ok-clause-journal
returns-in-Ok-clause-journal g c =
    keeps-ok g.S.SlotDisk _ _ _ _ c.in-Ok.step c.in-Ok.ensures.journal

pub returns-in-Err-clause-fails : goal.returns-in-Err-clause-fails
returns-in-Err-clause-fails g c =
    let fails = c.in-Err.ensures.err_passes in
    record {
      number = fails.0;
      failed = fails.1;
      notes = λ setup line stands.
          let passes = fails.2 setup line stands in
          record {
            full = passed_note fails.0 passes.start passes.frame;
            frame = record { number = fails.0; start = passes.start; frame = passes.frame };
            noted = passes.note;
            framed = refl;
            numbered = refl;
          };
    }

pub returns-in-Err-clause-journal : goal.returns-in-Err-clause-journal
returns-in-Err-clause-journal g c = keeps-err g.S.SlotDisk _ _ _ _ _ c.in-Err.ensures.journal
