use Rattle.std.proofs.Common.{refl}
use Rattle.yasir_ticks.specs.TickText.{lines_of}
use Rattle.live_line.proofs.ways.Ways.new.Goals as goal

pub returns : goal.returns
unfolding lines_of
returns c = record { within = refl; lettered = tt; line = refl }
