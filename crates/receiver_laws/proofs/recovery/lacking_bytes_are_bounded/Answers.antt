use Rattle.receiver_laws.proofs.Stated.{stated_lacks}
use Rattle.receiver_laws.proofs.recovery.lacking_bytes_are_bounded.Goals as goal

pub returns : goal.returns
returns c = stated_lacks
