use Rattle.std.proofs.Common.{sym, ap, take, ◌∙◌}
use Rattle.session_audit.proofs.BurstRuns.{none-quiet, none-bytes}
use Rattle.session_audit.proofs.burst_bytes.BurstBytes.new.Goals as goal

pub returns : goal.returns
returns c = record {
  quiet_is = sym none-quiet;
  kept = c.new.ensures ∙ sym (ap (take 292) none-bytes);
}
