use Rattle.std.proofs.Common.{◌∙◌, ap, Some}
use Rattle.frame_ending.specs.SoFar.{start_so_far, live_bytes_so_far}
use Rattle.link_box.specs.declared.check_note.CheckNote.TheVariants.{Passed}
use Rattle.check_receiver.proofs.checker.Checker.pass.Goals as goal

pub returns-clause-told : goal.returns-clause-told
returns-clause-told g c = λ line cuts.
    c.pass_by.ensures.note
    ∙ (ap (λ n. Some (Passed c.args.number n c.len-len.result)) (c.start-start.ensures line cuts)
    ∙ ap (λ n. Some (Passed c.args.number (start_so_far line) n))
    (c.len-len.ensures (live_bytes_so_far g.R.LineRules.rules line) (c.rules.ensures line cuts)))
