-- What the images of the disk keep from the loading of the journal on, and when the disk's count of
-- faults rises.
use Rattle.sequence_journal.proofs.LoadLemmas.{found_loaded}
use Rattle.sequence_journal.proofs.SlotLemmas.{at_some, if_some_weaker}
use Rattle.sequence_journal.specs.Journal.{journal_link, journal_floor, IsCrashSafe}
use Rattle.sequence_journal.specs.Journal.{HasFloorAtLeast, HasFloorFrom}
use Rattle.sequence_journal.specs.{Loading.IsLoaded, Loading.KeepsLoadable, Slots.floor_of}
use Rattle.sequence_journal.specs.declared.{journal.Journal.Journal, link.LinkId.LinkId}
use Rattle.std.proofs.Common.{◌≡◌, ◌∙◌, ℕ, ◌⊎◌, Some, refl, sym, ap, subst, inl, inr, unwrap_or}
use Rattle.tick_drive.specs.{Consumers.IsDiskCause, Consumers.is_journal_fault, Drive.drive_answer_of}
use Rattle.yasir_io.proofs.Moments.{leaves_then, leaves_weaker}
use Rattle.yasir_io.specs.Disks.{Slots, OneImage, LeavesOnly}
use Rattle.yasir_io.specs.declared.disk.SlotDisk.{Ghosts as SlotDisk}
use Rattle.tick_drive.specs.declared.consumer.Stop.TheVariants as stops
use Rattle.line_commands.specs.{BoxLines.ToldFloor, ReplaysBox.KeepsFloor}
use Rattle.line_commands.specs.ReplaysBox.{KeepsFloorThroughout, KeepsFloorFromLoad}
use Rattle.command_ends.specs.{Causes.DiskCause, Endings.status_of}
use Rattle.command_ends.specs.declared.status.Status.{Status}
use Rattle.command_ends.specs.declared.status.Status.TheVariants.{Done, WriteFault}
use Rattle.tick_drive.specs.declared.end.End.{End, TheVariants.Whole}
use Rattle.tick_drive.specs.declared.end.End.TheVariants.{Refused, TooLong, ReadFault, Stopped}

-- A journal was loaded from a disk, for a link.
module _ {D : Type 0} (d : SlotDisk D) (link : LinkId) (journal : Journal) (old loaded : D)
    (load : IsLoaded link (d.told old) (d.told loaded) (d.may_leave old) (d.may_leave loaded)
    journal)
    (safe : OneImage (d.told old) (d.may_leave old)
    → IsCrashSafe journal (d.told loaded) (d.may_leave loaded)) where
  pub told_before : ToldFloor link (journal_floor journal) (d.told old)
  told_before = if_some_weaker (λ slots. slots ≡ load.read)
      (λ slots. floor_of link slots ≡ Some (journal_floor journal)) (d.told old)
      (λ slots same. ap (floor_of link) same ∙ load.floor) load.are_read

  -- If a crash before the run would have left the slots as they read, no image at the end of the
  -- run has a floor below that of the last journal.
  pub keeps_floor : (begun last : Journal) (new : D) → begun ≡ journal
      → (IsCrashSafe begun (d.told loaded) (d.may_leave loaded)
      → IsCrashSafe last (d.told new) (d.may_leave new))
      → journal_link last ≡ link → KeepsFloor d link (journal_floor last) old new
  keeps_floor begun last new same drive link_is one c left =
      subst (λ l. HasFloorAtLeast l (journal_floor last) c) link_is
      ((drive (subst (λ j. IsCrashSafe j (d.told loaded) (d.may_leave loaded)) (sym same)
      (safe one))).floors c left)

  -- If a crash before the run would have left the slots as they read, no image at any moment from
  -- the end of the load on has a floor below the one that was loaded.
  since_load : (begun : Journal) (new : D) → begun ≡ journal
      → (IsCrashSafe begun (d.told loaded) (d.may_leave loaded)
      → LeavesOnly d.moment d.left_since loaded new (HasFloorFrom begun))
      → OneImage (d.told old) (d.may_leave old)
      → LeavesOnly d.moment d.left_since loaded new (HasFloorAtLeast link (journal_floor journal))
  since_load begun new same drive one =
      let drives = subst (λ j. IsCrashSafe j (d.told loaded) (d.may_leave loaded)
      → LeavesOnly d.moment d.left_since loaded new (HasFloorFrom j)) same drive in
      subst (λ l. LeavesOnly d.moment d.left_since loaded new
      (HasFloorAtLeast l (journal_floor journal))) load.link_is (drives (safe one))

  pub keeps_from_load : (begun : Journal) (new : D) → begun ≡ journal
      → (IsCrashSafe begun (d.told loaded) (d.may_leave loaded)
      → LeavesOnly d.moment d.left_since loaded new (HasFloorFrom begun))
      → KeepsFloorFromLoad d link (journal_floor journal) old new
  keeps_from_load begun new same drive = record {
    loaded = loaded;
    found = found_loaded link (d.told old) (d.told loaded) (d.may_leave old) (d.may_leave loaded)
        journal load;
    keeps = since_load begun new same drive;
  }

  -- If a crash before the run would have left the slots as they read, no image at any moment of the
  -- run has a floor below that of the slots, except while an old journal was being taken over.
  pub keeps_throughout : (begun : Journal) (new : D) → begun ≡ journal
      → ((slots : Slots) (floor : ℕ) → d.told old ≡ Some slots
      → OneImage (d.told old) (d.may_leave old) → floor_of link slots ≡ Some floor
      → LeavesOnly d.moment d.left_since old loaded (KeepsLoadable link slots floor))
      → (IsCrashSafe begun (d.told loaded) (d.may_leave loaded)
      → LeavesOnly d.moment d.left_since loaded new (HasFloorFrom begun))
      → KeepsFloorThroughout d link old new
  keeps_throughout begun new same loading drive one slots floor told is =
      let at : floor_of link slots ≡ Some (journal_floor journal) =
      at_some (λ slots. floor_of link slots ≡ Some (journal_floor journal)) (d.told old) slots told
      told_before in
      let floor_is : journal_floor journal ≡ floor = ap (λ o. unwrap_or o floor) (sym at ∙ is) in
      leaves_then d.moment d.left_since old loaded new (KeepsLoadable link slots floor)
      (loading slots floor told one is)
      (leaves_weaker d.moment d.left_since loaded new (HasFloorAtLeast link floor)
      (KeepsLoadable link slots floor) (λ c from. inl from)
      (subst (λ n. LeavesOnly d.moment d.left_since loaded new (HasFloorAtLeast link n)) floor_is
      (since_load begun new same drive one)))

pub disk_cause_of_end : (before now : ℕ) (end : End)
    → IsDiskCause before now (is_journal_fault (drive_answer_of end))
    → DiskCause before now (status_of end)
disk_cause_of_end before now (Stopped stops.JournalFault) h = h.failed refl
disk_cause_of_end before now end h = h.same refl

pub disk_cause_of_whole : (before now : ℕ) (status : Status)
    → (status ≡ Done) ⊎ (status ≡ WriteFault) → now ≡ before → DiskCause before now status
disk_cause_of_whole before now status (inl done) same = subst (DiskCause before now) (sym done) same
disk_cause_of_whole before now status (inr fault) same =
    subst (DiskCause before now) (sym fault) same
