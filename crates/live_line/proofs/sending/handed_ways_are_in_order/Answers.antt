use Rattle.live_line.proofs.HandingBoth.{handed_in_order}
use Rattle.live_line.proofs.sending.handed_ways_are_in_order.Goals as goal

pub returns : goal.returns
returns c = handed_in_order
