use Rattle.session_audit.{proofs.SealedAlike.step-alike, specs.NoTags.untagged}
use Rattle.std.proofs.Common.{refl}
use Rattle.session_audit.proofs.sealed_frames.SealedFramesFrameBox.step.Goals as goal

pub returns-clause-answer : goal.returns-clause-answer
returns-clause-answer g c = λ setup line before.
    step-alike g.R.LineRules g.M.Mac (untagged g.M.Mac) g.row.B refl setup line c.args.t _ _
    (c.step.ensures.answer setup line before)
