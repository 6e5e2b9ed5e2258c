use Rattle.std.proofs.Common.{[], arith}
use Rattle.check_receiver.proofs.runs.begin_well.Goals as goal

pub returns-then-has_good_head : goal.returns-then-has_good_head
returns-then-has_good_head g c = λ good. (
  0,
  omega arith,
  c.has_good_head.ensures c.if-has_good_head.true [] c.fresh-rules.ensures.stands,
)
