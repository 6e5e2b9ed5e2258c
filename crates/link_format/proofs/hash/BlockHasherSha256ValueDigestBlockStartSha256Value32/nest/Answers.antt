use Rattle.{sha2.specs.Sha256.sha256, std.proofs.Common.◌++◌}
use Rattle.link_format.proofs.hash.BlockHasherSha256ValueDigestBlockStartSha256Value32.nest.Goals as goal

pub returns : goal.returns
returns c = λ before m begun held.
    c.digest-2.ensures (before ++ sha256 m)
    (rw (c.digest.ensures m (c.ended.ensures m held)) at (c.ended-2.ensures before begun))
