use Rattle.link_format.proofs.Sha256Blocks.{next_four}
use Rattle.link_format.proofs.sha256_block.next_four.Goals as goal

pub returns : goal.returns
returns c = λ block t within a b e d. record {
  is = rw (
    c.small_sigma1-2.ensures,
    c.small_sigma1.ensures,
    c.small_sigma0.ensures,
    a.is,
    b.is,
    e.is,
    d.is,
  )
      (next_four block t within);
}
