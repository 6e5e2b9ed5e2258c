use Rattle.{link_format.proofs.Sha1Blocks.near_four, std.proofs.Common.◌∙◌}
use Rattle.link_format.proofs.sha1_block.next_four.Goals as goal

pub returns : goal.returns
returns c = λ block t within a b e d. record {
  is = c.rotated.ensures ∙ rw (c.rotated-first.ensures, a.is, b.is, e.is, d.is)
      (near_four block t within);
}
