use Rattle.{command_ends.proofs.KeyLemmas.taken_more, std.proofs.Common.◌∙◌, std.proofs.Common.arith}
use Rattle.command_ends.proofs.key_text.read_text.Goals as goal

pub loop-len-preserved : goal.loop-len-preserved
loop-len-preserved g c = (
  taken_more _ _ _ c.loop-len.len c.in_ok-n.n c.loop-len.bytes c.read.new.buf (omega arith)
      (omega arith) (omega arith)
      c.in_ok-n.ensures.within c.loop-len.invariant.0 c.in_ok-n.ensures.bytes,
  c.in_ok-n.ensures.cause.same ∙ c.loop-len.invariant.1,
  omega (arith, c.in_ok-n.ensures.within),
)
