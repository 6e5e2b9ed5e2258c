use Rattle.std.proofs.Common.{◌++◌, length-append, arith}
use Rattle.yasir_ticks.proofs.hex_digits.FullLanes.{all_picked}
use Rattle.yasir_ticks.proofs.hex_digits.pairs.together.Goals as goal

pub returns : goal.returns
returns c = all_picked (c.args.front ++ c.args.back)
    (omega (arith, length-append c.args.front c.args.back, c.fits-front.0, c.fits-back.0))
