use Rattle.{line_stamps.proofs.Clocks.in-their-ticks, std.proofs.Common.None}
use Rattle.line_stamps.proofs.laws.bytes_stand_in_their_ticks.Goals as goal

pub returns : goal.returns
returns c = λ t cs. in-their-ticks t None cs
