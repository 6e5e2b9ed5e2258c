use Rattle.session_audit.{proofs.SealedAlike.run-alike, specs.NoTags.untagged}
use Rattle.std.proofs.Common.{refl}
use Rattle.session_audit.proofs.sealed_frames.SealedFramesFrameBox.pass_bytes.Goals as goal

pub returns-clause-answers : goal.returns-clause-answers
returns-clause-answers g c = λ setup line before.
    run-alike g.R.LineRules g.M.Mac (untagged g.M.Mac) g.row.B refl setup line _ _
    (c.pass_bytes.ensures.answers setup line before)
