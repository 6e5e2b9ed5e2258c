use Rattle.yasir_ticks.proofs.hex_digits.PairLanes.{lanes_joined}
use Rattle.yasir_ticks.proofs.hex_digits.pairs.joined.Goals as goal

pub returns : goal.returns
returns c = lanes_joined c.args.high c.args.low c.fits-high.0 c.fits-low.0
