use Rattle.{line_stamps.proofs.Clocks.same-bytes, std.proofs.Common.None}
use Rattle.line_stamps.proofs.laws.same_bytes_in_the_same_order.Goals as goal

pub returns : goal.returns
returns c = λ t cs. same-bytes t None 0 cs
