use Rattle.{line_commands.proofs.NotesInOrder.all-merged, session_lists.proofs.Lists.holds-length}
use Rattle.std.proofs.Common.{arith}
use Rattle.line_commands.proofs.note_order.merge_lines.Goals as goal

pub returns : goal.returns
returns c = λ a b first second n first_order second_order.
    all-merged n a b c.loop-places.text.items c.loop-places.places.first
    c.loop-places.places.second
    (omega (
      arith,
      c.if-places-len.false,
      c.len.ensures.value,
      holds-length c.args.first.now a first,
    ))
    (omega (
      arith,
      c.if-places-len-2.false,
      c.len-else-places-len.ensures.value,
      holds-length c.args.second.now b second,
    ))
    (c.loop-places.invariant.merges.merged a b first second n first_order second_order)
