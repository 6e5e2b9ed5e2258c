use Rattle.session_audit.{proofs.SealedAlike.listed-alike, specs.NoTags.untagged}
use Rattle.std.proofs.Common.{◌∙◌, [], refl}
use Rattle.session_audit.proofs.sealed_frames.SealedFramesFrameBox.new.Goals as goal

pub new-requires-clause-widths : goal.new-requires-clause-widths
new-requires-clause-widths g c = c.requires.widths

pub returns-clause-nothing : goal.returns-clause-nothing
returns-clause-nothing g c = λ setup.
    listed-alike g.R.LineRules g.M.Mac (untagged g.M.Mac) g.row.B refl setup []
    ∙ c.new.ensures.nothing setup
