use Rattle.std.proofs.Common.{◌++◌, ◌+◌, ◌*◌, get_or, arith}
use Rattle.yasir_ticks.proofs.hex_digits.PairLanes.{lanes_of_pairs}
use Rattle.yasir_ticks.proofs.hex_digits.pairs.seconds.Goals as goal

pub returns : goal.returns
returns c = lanes_of_pairs (λ k. get_or (c.args.a ++ c.args.b) k 0) 1 (λ k. 2 * k + 1)
    (λ k. omega arith)
