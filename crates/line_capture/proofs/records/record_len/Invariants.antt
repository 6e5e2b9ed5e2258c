use Rattle.{line_capture.proofs.RecordBytes.Leads, std.proofs.Common.◌-◌, std.proofs.Common.◌≤◌}
use Rattle.line_capture.proofs.records.record_len.Given as goal

-- the ticks so far are bytes
abbrev pub invariant-loop-count : goal.invariant-loop-count
invariant-loop-count l = record {
  leads : Leads l.line 65536 l.count;
  within : l.count ≤ l.most;
}

abbrev pub decreases-loop-count : goal.decreases-loop-count
decreases-loop-count l = l.most - l.count
