use Rattle.{link_format.proofs.Sha1Blocks.far_four, std.proofs.Common.◌∙◌}
use Rattle.link_format.proofs.sha1_block.far_four.Goals as goal

pub returns : goal.returns
returns c = λ block t bytes within a b e g h. record {
  is = c.rotated.ensures ∙ rw (a.is, b.is, e.is, g.is, h.is) (far_four block bytes t within);
}
