use Rattle.std.proofs.Common.{◌∙◌, Ok, ap, sym}
use Rattle.std.specs.Io.KnownBytes.{prepend_known}
use Rattle.tick_drive.proofs.intake.Intake.step.Goals as goal

pub returns-in-Ok-true-clause-answer : goal.returns-in-Ok-true-clause-answer
returns-in-Ok-true-clause-answer g c = λ marks before text met.
    c.feed_kept.ensures.answer marks before _ text (record {
      stands = met.stands;
      begins = met.begins;
      source = met.source ∙ ap (prepend_known text) (sym c.fill.ensures.same);
      open_end = c.fill.ensures.still_open (c.in-Ok-true.is ∙ ap Ok c.in-Ok-true.field-0-test)
          ∙ met.open_end;
      count = met.count;
      within = met.within;
    })
