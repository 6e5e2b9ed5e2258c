use Rattle.std.proofs.lemmas.Simd.{length-chunk, get_or-chunk}
use Rattle.yasir_ticks.proofs.lanes.load.Goals as goal

pub returns : goal.returns
returns c = record {
  long = length-chunk c.args.i 32 c.args.marks.now c.requires;
  each = λ k l. get_or-chunk c.args.i 32 c.args.marks.now k 0 l;
}
