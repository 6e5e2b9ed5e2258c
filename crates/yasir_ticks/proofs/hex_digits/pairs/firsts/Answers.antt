use Rattle.std.proofs.Common.{◌++◌, ◌*◌, get_or, arith}
use Rattle.yasir_ticks.proofs.hex_digits.PairLanes.{lanes_of_pairs}
use Rattle.yasir_ticks.proofs.hex_digits.pairs.firsts.Goals as goal

pub returns : goal.returns
returns c = lanes_of_pairs (λ k. get_or (c.args.a ++ c.args.b) k 0) 0 (λ k. 2 * k)
    (λ k. omega arith)
