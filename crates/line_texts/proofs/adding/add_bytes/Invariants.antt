use Rattle.line_texts.proofs.Added.{AddsFirst}
use Rattle.std.proofs.Common.{length}
use Rattle.line_texts.proofs.adding.add_bytes.Given as goal

abbrev pub invariant-loop-left : goal.invariant-loop-left
invariant-loop-left l = AddsFirst l.fn.texts l.texts l.bytes l.left

abbrev pub decreases-loop-left : goal.decreases-loop-left
decreases-loop-left l = length l.left
