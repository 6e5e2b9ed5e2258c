use Rattle.{sha1.specs.Sha1.hash_after, std.proofs.Common.refl}
use Rattle.link_format.proofs.hash_value.Sha1ValueHashValue.initial.Goals as goal

pub returns : goal.returns
unfolding hash_after
returns c = refl
