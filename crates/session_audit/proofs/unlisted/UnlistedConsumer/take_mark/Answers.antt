use Rattle.{session_audit.proofs.Unlisting.gives-nothing, std.proofs.Common.arith}
use Rattle.session_audit.proofs.unlisted.UnlistedConsumer.take_mark.Goals as goal

pub returns : goal.returns
returns c = gives-nothing _ _ _ (omega arith)
