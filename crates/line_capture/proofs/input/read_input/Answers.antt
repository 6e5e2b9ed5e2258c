use Rattle.std.proofs.Common.{rules, arith}
use Rattle.line_capture.proofs.ReadBytes.{too_much}
use Rattle.line_capture.proofs.input.read_input.Goals as goal

pub returns-then-kept-n-clause-reads : goal.returns-then-kept-n-clause-reads
returns-then-kept-n-clause-reads g c =
    too_much _ _ _ c.loop-n.bytes.items c.read.new.buf _ c.in-Ok.n c.min-kept.result
    c.loop-n.invariant.came c.in-Ok.ensures.bytes (omega arith) (omega arith) c.in-Ok.ensures.within
    (search rules)
