use Rattle.std.proofs.Common.{arith, ◌∙◌}
use Rattle.dnp_link_frame.proofs.Loops.{user_in_blocks-start, user_in_blocks-more}
use Rattle.dnp_link_frame.proofs.Loops.{user_in_blocks-room}
use Rattle.dnp_link_frame.proofs.parsing.user_in_blocks.Goals as goal

pub loop-n-init : goal.loop-n-init
loop-n-init c = c.new-user.ensures ∙ user_in_blocks-start c.args.bytes.now

pub push_bytes-requires : goal.push_bytes-requires
push_bytes-requires c =
    user_in_blocks-room c.loop-n.n c.args.count c.min-to.result c.args.bytes.now
    c.loop-n.user.items c.requires.fit c.requires.whole (omega arith) c.min-to.ensures
    c.loop-n.invariant

pub loop-n-preserved : goal.loop-n-preserved
loop-n-preserved c =
    user_in_blocks-more c.loop-n.n c.min-to.result c.args.bytes.now c.loop-n.user.items _
    c.min-to.ensures c.loop-n.invariant c.push_bytes.ensures
