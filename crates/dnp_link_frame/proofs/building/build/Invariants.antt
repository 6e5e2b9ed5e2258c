use Rattle.dnp_link_frame.{proofs.Loops.IsBuilt, specs.Frame.header_fields}
use Rattle.std.proofs.Common.{length}
use Rattle.dnp_link_frame.proofs.building.build.Given as goal

abbrev pub invariant-loop-block : goal.invariant-loop-block
invariant-loop-block l =
    IsBuilt (header_fields l.header (length l.user)) l.user l.bytes.items l.following

abbrev pub decreases-loop-block : goal.decreases-loop-block
decreases-loop-block l = length l.following
