use Rattle.live_line.proofs.Putting.{HasPut}
use Rattle.std.proofs.Common.{length}
use Rattle.live_line.proofs.sending.send_way.Given as goal

abbrev pub invariant-loop-left : goal.invariant-loop-left
invariant-loop-left g l =
    HasPut g.P.Port l.fn.way l.to l.text l.fn.port l.port l.lettering l.left

abbrev pub decreases-loop-left : goal.decreases-loop-left
decreases-loop-left g l = length l.left
