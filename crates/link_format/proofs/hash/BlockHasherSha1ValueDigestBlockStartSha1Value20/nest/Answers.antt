use Rattle.{sha1.specs.Sha1.sha1, std.proofs.Common.◌++◌}
use Rattle.link_format.proofs.hash.BlockHasherSha1ValueDigestBlockStartSha1Value20.nest.Goals as goal

pub returns : goal.returns
returns c = λ before m begun held.
    c.digest-2.ensures (before ++ sha1 m)
    (rw (c.digest.ensures m (c.ended.ensures m held)) at (c.ended-2.ensures before begun))
