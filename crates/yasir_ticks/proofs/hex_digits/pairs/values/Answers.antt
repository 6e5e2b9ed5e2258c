use Rattle.std.proofs.{Common.w8, Common.Fits, Common.arith, lemmas.Simd.Each1-get_or}
use Rattle.yasir_ticks.proofs.hex_digits.PairLanes.{lanes_values}
use Rattle.yasir_ticks.proofs.hex_digits.pairs.values.Goals as goal

pub returns : goal.returns
returns c = lanes_values c.args.c c.fits-c.0
    (λ k h. (Each1-get_or (Fits w8) c.args.c k 0 (omega arith) c.fits-c.1).fits)
