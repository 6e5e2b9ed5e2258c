-- What a step does to the journal and its disk.
use Rattle.frame_ending.specs.declared.box_step.BoxStep.{BoxStep}
use Rattle.check_receiver.specs.{Between.IsNoPass, Checkings.CheckerCommitsNoted, Checkings.CheckerKeepsJournal}
use Rattle.link_box.specs.declared.check_note.CheckNote.{CheckNote}
use Rattle.link_box.specs.declared.check_note.CheckNote.TheVariants.{Passed, Refused, Dropped}
use Rattle.sequence_journal.specs.{Journal.Fits, declared.journal.Journal.Journal}
use Rattle.std.proofs.Common.{refl, arith, inl, Ok, Option, Some, None}
use Rattle.yasir_io.specs.{Disks.Slots, declared.disk.SlotDisk.Ghosts as SlotDisk}

module _ {S : Type 0} (d : SlotDisk S) (journal : Journal) (disk : S) where
  commits-none : (note : Option CheckNote) → IsNoPass note
      → CheckerCommitsNoted d journal journal disk disk note
  commits-none None none = (refl, refl)
  commits-none (Some (Passed number start len)) none = absurd none
  commits-none (Some (Refused start why)) none = (refl, refl)
  commits-none (Some (Dropped start why)) none = (refl, refl)

  -- A step in which no burst passes leaves the journal and the disk as they were.
  pub journal-kept : ((c : Slots) → d.left_since disk (d.moment disk) c → d.may_leave disk c)
      → Fits journal (d.told disk) → (step : BoxStep CheckNote) → IsNoPass step.note
      → CheckerKeepsJournal d journal journal disk disk (Ok step)
  journal-kept only_now fits step none = record {
    commits = commits-none step.note none;
    link = refl;
    fits = fits;
    failed = tt;
    crash_safe = λ safe. safe;
    any_moment = λ safe. record {
      later = omega arith;
      each = λ c left. safe.floors c (only_now c left);
      before = λ t c le left. inl left;
    };
    cause = record { never_falls = omega arith; failed = tt; same = refl };
  }
