use Rattle.{session_audit.proofs.BurstRuns.waited, std.proofs.Common.arith, std.proofs.Common.refl}
use Rattle.session_audit.proofs.burst_bytes.BurstBytes.wait_some.Goals as goal

pub returns : goal.returns
returns c = λ line before.
    waited c.args.self.now _ line before c.args.ticks (omega arith) refl
