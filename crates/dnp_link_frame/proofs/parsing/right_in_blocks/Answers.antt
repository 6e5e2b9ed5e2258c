use Rattle.dnp_link_frame.proofs.Loops.{next_is_right, next_is_wrong, all_are_right, none_are_right}
use Rattle.std.proofs.Common.{arith}
use Rattle.dnp_link_frame.proofs.parsing.right_in_blocks.Goals as goal

pub loop-n-init : goal.loop-n-init
loop-n-init c = none_are_right c.args.user_len c.args.bytes.now

pub returns-then-right-len-clause-right : goal.returns-then-right-len-clause-right
returns-then-right-len-clause-right c =
    next_is_wrong c.loop-n.n c.min-len.result c.right_in_part-right.result c.args.user_len
    c.args.bytes.now (omega arith) c.min-len.ensures c.right_in_part-right.ensures.right
    c.loop-n.invariant c.if-right-len.true

pub loop-n-preserved : goal.loop-n-preserved
loop-n-preserved c =
    next_is_right c.loop-n.n c.min-len.result c.right_in_part-right.result c.args.user_len
    c.args.bytes.now (omega arith) c.min-len.ensures c.right_in_part-right.ensures.right
    c.loop-n.invariant c.if-right-len.false

pub returns-clause-right : goal.returns-clause-right
returns-clause-right c =
    all_are_right c.loop-n.n c.div_ceil-blocks.result c.args.user_len c.args.bytes.now
    (omega arith) (omega arith) c.loop-n.invariant
