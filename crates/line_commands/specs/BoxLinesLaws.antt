-- What calls of a driven box do apart from taking ticks: the laws for no call, and for calls that
-- follow calls.
use Rattle.std.specs.Prelude.{◌≡◌, ℕ, ◌≤◌, List, Option, Some, None, IsSomeAnd}
use Rattle.std.proofs.Common.{◌∙◌, refl, subst, inl}
use Rattle.std.proofs.Math.Nat.{le_refl, le_trans}
use Rattle.yasir_io.specs.Disks.{Slots, LeavesOnly}
use Rattle.yasir_io.specs.declared.disk.SlotDisk.{Ghosts as SlotDisk}
use Rattle.yasir_io.specs.declared.sink.Sink.{Ghosts as Sink}
use Rattle.yasir_io.proofs.FlushLaws.{none_flushed, none_flushed_then}
use Rattle.yasir_io.proofs.Moments.{leaves_then, leaves_weaker}
use Rattle.sequence_journal.specs.declared.journal.Journal.{Journal}
use Rattle.sequence_journal.specs.declared.link.LinkId.{LinkId}
use Rattle.sequence_journal.specs.Journal.{journal_link, journal_floor, HasFloorAtLeast}
use Rattle.sequence_journal.specs.Journal.{HasFloorFrom}
use Rattle.sequence_journal.specs.Late.{disk_journal}
use Rattle.sequence_journal.specs.Slots.{floor_of}
use Rattle.link_box.specs.declared.box_trait.LinkBox.{Ghosts as LinkBox}
use Rattle.tick_drive.specs.Consumers.{IsNoneDone, AreJoined, is_journal_fault, is_write_fault}
use Rattle.tick_drive.proofs.Causes.{disk_none, disk_then, sinks_none, sinks_then}
use Rattle.line_commands.specs.BoxLines.{State, KeepsImages, driving}

from_less : (m n : ℕ) (floor : Option ℕ) → m ≤ n → IsSomeAnd floor (λ f. n ≤ f)
    → IsSomeAnd floor (λ f. m ≤ f)
from_less m n None le has = has
from_less m n (Some f) le has = le_trans le has

-- a floor that isn't below a number isn't below a smaller one
pub floor_from_less : (link : LinkId) (m n : ℕ) → m ≤ n → (c : Slots) → HasFloorAtLeast link n c
    → HasFloorAtLeast link m c
floor_from_less link m n le c has = from_less m n (floor_of link c) le has

-- a floor that isn't below the floor of a journal isn't below the floor that the journal had
-- earlier
pub floor_from_later : (old new : Journal) → journal_link new ≡ journal_link old
    → journal_floor old ≤ journal_floor new → (c : Slots) → HasFloorFrom new c → HasFloorFrom old c
floor_from_later old new same le c has =
    floor_from_less (journal_link old) (journal_floor old) (journal_floor new) le c
    (subst (λ link. HasFloorAtLeast link (journal_floor new) c) same has)

-- if no call was made, only the images of the present moment count
leaves_now : {D : Type 0} (d : SlotDisk D) (disk : D) (P : Slots → Type 0)
    → ((c : Slots) → d.left_since disk (d.moment disk) c → P c)
    → LeavesOnly d.moment d.left_since disk disk P
leaves_now d disk P now =
    record { later = le_refl _; each = now; before = λ t c le left. inl left }

module _ {B O L D : Type 0} (o : Sink O) (l : Sink L) (d : SlotDisk D) where
  pub images_none : ((disk : D) (c : Slots) → d.left_since disk (d.moment disk) c
      → d.may_leave disk c)
      → (state : State B O L D) → KeepsImages o l d state state
  images_none only_now state = record {
    link = refl;
    rises = le_refl _;
    is_kept = λ kept. kept;
    any_moment = λ kept. leaves_now d state.disk _
        (λ image left. kept.floors image (only_now state.disk image left));
  }

  pub images_then : (s0 s1 s2 : State B O L D) → KeepsImages o l d s0 s1
      → KeepsImages o l d s1 s2 → KeepsImages o l d s0 s2
  images_then s0 s1 s2 first second = record {
    link = second.link ∙ first.link;
    rises = le_trans first.rises second.rises;
    is_kept = λ kept. second.is_kept (first.is_kept kept);
    any_moment = λ kept. leaves_then d.moment d.left_since s0.disk s1.disk s2.disk _
        (first.any_moment kept)
        (leaves_weaker d.moment d.left_since s1.disk s2.disk
        (HasFloorFrom (disk_journal s1.lines.late))
        (HasFloorFrom (disk_journal s0.lines.late))
        (floor_from_later (disk_journal s0.lines.late) (disk_journal s1.lines.late) first.link
        first.rises)
        (second.any_moment (first.is_kept kept)));
  }

module _ {B N O L D : Type 0} (b : LinkBox B N) (line_of : N → List ℕ) (o : Sink O) (l : Sink L)
    (d : SlotDisk D) where
  pub drives-none : ((disk : D) (c : Slots) → d.left_since disk (d.moment disk) c
      → d.may_leave disk c)
      → IsNoneDone (driving b line_of o l d)
  drives-none only_now state able = record {
    images = images_none o l d only_now state;
    disk = disk_none (d.faults state.disk);
    sinks = sinks_none (o.faults state.out) (l.faults state.log);
    flushes = none_flushed o l state.out state.log;
  }

  pub drives-then : AreJoined (driving b line_of o l d)
  drives-then s0 s1 s2 result first second = record {
    images = images_then o l d s0 s1 s2 first.images second.images;
    disk = disk_then (d.faults s0.disk) (d.faults s1.disk) (d.faults s2.disk)
        (is_journal_fault result) first.disk second.disk;
    sinks = sinks_then (o.faults s0.out) (o.faults s1.out) (o.faults s2.out) (l.faults s0.log)
        (l.faults s1.log) (l.faults s2.log) (is_write_fault result) first.sinks second.sinks;
    flushes = none_flushed_then o l s0.out s1.out s2.out s0.log s1.log s2.log first.flushes
        second.flushes;
  }
