use Rattle.std.proofs.Common.{arith, inl, inr}
use Rattle.command_ends.proofs.KeyLemmas.{cr_begun}
use Rattle.command_ends.proofs.key_text.begun_ending.Goals as goal

pub returns-then-following-eq1 : goal.returns-then-following-eq1
returns-then-following-eq1 c = cr_begun _ (grind arith) (grind arith) (inl (omega arith))

pub returns-else-following-eq10-2 : goal.returns-else-following-eq10-2
returns-else-following-eq10-2 c = cr_begun _ (grind arith) (grind arith) (inr c.if-following-eq10-2.false)
