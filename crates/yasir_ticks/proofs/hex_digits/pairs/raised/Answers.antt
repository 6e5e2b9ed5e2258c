use Rattle.yasir_ticks.proofs.hex_digits.PairLanes.{lanes_raised}
use Rattle.yasir_ticks.proofs.hex_digits.pairs.raised.Goals as goal

pub returns : goal.returns
returns c = lanes_raised c.args.v c.fits-v.0
