use Rattle.{yasir_ticks.proofs.Windows.ring-begun, std.proofs.Common.arith}
use Rattle.yasir_ticks.proofs.delay_ring.DelayRing.new.Goals as goal

pub returns : goal.returns
returns g c = let fits = c.requires.fits in ring-begun g.row.D 256 (omega arith)
