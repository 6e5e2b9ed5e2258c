use Rattle.std.proofs.Common.{◌∙◌, ap, Some}
use Rattle.link_box.specs.declared.check_note.CheckNote.TheVariants.{Dropped}
use Rattle.link_box.specs.declared.check_note.DroppedWhy.TheVariants.{Busy}
use Rattle.check_receiver.proofs.checker.Checker.drop_busy.Goals as goal

pub returns-clause-told : goal.returns-clause-told
returns-clause-told g c = λ line cuts.
    c.pass_by.ensures.note ∙ ap (λ n. Some (Dropped n Busy)) (c.start-start.ensures line cuts)
