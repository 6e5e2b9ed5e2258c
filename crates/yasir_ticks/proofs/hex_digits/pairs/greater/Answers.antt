use Rattle.yasir_ticks.proofs.hex_digits.PairLanes.{lanes_greater}
use Rattle.yasir_ticks.proofs.hex_digits.pairs.greater.Goals as goal

pub returns : goal.returns
returns c = lanes_greater c.args.a c.args.b c.fits-a.0 c.fits-b.0
