use Rattle.{dnp_link_frame.proofs.DnpRuns.IsBegun, std.proofs.Common.length}
use Rattle.dnp_link_frame.proofs.dnp.Dnp.begin_blocks.Given as goal

abbrev pub invariant-loop-following : goal.invariant-loop-following
invariant-loop-following l = IsBegun l.fn.self l.run l.right l.following

abbrev pub decreases-loop-following : goal.decreases-loop-following
decreases-loop-following l = length l.following
