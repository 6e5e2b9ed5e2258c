use Rattle.{line_commands.specs.NoteOrder.Merges, session_lists.specs.FrameList.list_len}
use Rattle.std.proofs.Common.{◌+◌, ◌-◌}
use Rattle.line_commands.proofs.note_order.merge_lines.Given as goal

abbrev pub invariant-loop-places : goal.invariant-loop-places
invariant-loop-places l = record {
  merges : Merges l.first l.second l.text.items l.places;
}

abbrev pub decreases-loop-places : goal.decreases-loop-places
decreases-loop-places l =
    (list_len l.first + list_len l.second) - (l.places.first + l.places.second)
