use Rattle.link_box.specs.{Stepping.ServesLink, Walking.other_line}
use Rattle.{link_format.specs.Setup.Setup, sequence_journal.specs.Journal.journal_floor}
use Rattle.std.proofs.Common.{◌≡◌, [], length, take}
use Rattle.embed_boxes.proofs.carrying.pass_line.Given as goal

abbrev pub invariant-loop-index : goal.invariant-loop-index
invariant-loop-index g l = record {
  taken : g.X.LinkBox.taken l.line_box ≡ l.index;
  serves : ServesLink (g.X.LinkBox.link_of l.line_box) l.journal (g.D.SlotDisk.told l.disk);
  faults : g.D.SlotDisk.faults l.disk ≡ g.D.SlotDisk.faults l.fn.disk;
  long : length l.other.items ≡ l.index;
  passed : (setup : Setup) → g.X.LinkBox.stands l.fn.line_box (journal_floor l.fn.journal) setup []
      → g.X.LinkBox.stands l.line_box (journal_floor l.journal) setup (take l.index l.line)
      × (l.other.items ≡ other_line g.X.LinkBox.walking setup (take l.index l.line));
}
