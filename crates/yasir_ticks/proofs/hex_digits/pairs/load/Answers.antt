use Rattle.std.proofs.lemmas.Simd.{length-chunk, get_or-chunk}
use Rattle.yasir_ticks.proofs.hex_digits.pairs.load.Goals as goal

pub returns : goal.returns
returns c = record {
  long = length-chunk c.args.i 32 c.args.s.now c.requires;
  each = λ k l. get_or-chunk c.args.i 32 c.args.s.now k 0 l;
}
