use Rattle.link_format.proofs.hash.BlockHasherSha1ValueDigestBlockStartSha1Value20.finalize.Goals as goal

pub returns : goal.returns
returns c = λ m held. c.digest.ensures m (c.ended.ensures m held)
