use Rattle.std.proofs.Common.{sym, ◌∙◌, arith}
use Rattle.dnp_link_frame.specs.BlockLaws.{room_by-right, room_by-wrong}
use Rattle.dnp_link_frame.proofs.size.room_by.Goals as goal

pub returns-then-len-lt-COUNTED_OF_HEADER : goal.returns-then-len-lt-COUNTED_OF_HEADER
returns-then-len-lt-COUNTED_OF_HEADER c = sym (room_by-wrong c.args.len (omega arith))

pub returns-else-len-lt-COUNTED_OF_HEADER : goal.returns-else-len-lt-COUNTED_OF_HEADER
returns-else-len-lt-COUNTED_OF_HEADER c =
    c.size_by.ensures ∙ sym (room_by-right c.args.len (omega arith))
