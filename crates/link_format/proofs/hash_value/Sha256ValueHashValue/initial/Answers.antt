use Rattle.{sha2.specs.Sha256.hash_after, std.proofs.Common.refl}
use Rattle.link_format.proofs.hash_value.Sha256ValueHashValue.initial.Goals as goal

pub returns : goal.returns
unfolding hash_after
returns c = refl
