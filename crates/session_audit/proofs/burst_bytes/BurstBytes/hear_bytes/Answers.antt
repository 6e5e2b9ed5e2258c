use Rattle.{session_audit.proofs.BurstRuns.heard, std.proofs.Common.◌∙◌, std.proofs.Common.arith}
use Rattle.session_audit.proofs.burst_bytes.BurstBytes.hear_bytes.Goals as goal

pub returns : goal.returns
returns c = λ line before.
    heard c.args.self.now c.keep.new.self line before c.wake.new.self.bytes.items
    c.args.bytes.now (omega arith) (c.keep.ensures.quiet ∙ c.wake.ensures.quiet)
    c.wake.ensures.first c.wake.ensures.further c.keep.ensures.bytes
