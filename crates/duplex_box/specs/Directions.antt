-- The journals of the two boxes of a line.
use Rattle.std.specs.Prelude.{◌≡◌}
use Rattle.link_format.specs.Tag.{direction_number}
use Rattle.link_format.specs.Directions.{opposite_of}
use Rattle.link_format.specs.declared.dir.Dir.{Dir}
use Rattle.sequence_journal.specs.declared.journal.Journal.{Journal}
use Rattle.sequence_journal.specs.Journal.{journal_link}

-- Holds if the journals are those of one line, with the same protocol and profile: `sent` that of
-- its outgoing direction, and `got` that of its incoming one. So the two aren't swapped.
pub record AreOfLine (outgoing : Dir) (sent got : Journal) : Type 0 where
  pub outgoing_is : (journal_link sent).dir ≡ direction_number outgoing
  pub incoming_is : journal_link got
      ≡ record (journal_link sent) { dir = direction_number (opposite_of outgoing) }
