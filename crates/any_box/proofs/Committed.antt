-- What a step commits over slots in memory.
use Rattle.any_box.specs.Commits.{CommitsOne, CommitsOneOrNone}
use Rattle.check_receiver.specs.Checkings.{CheckerCommitsNoted}
use Rattle.link_box.specs.declared.check_note.CheckNote.{CheckNote}
use Rattle.link_box.specs.declared.check_note.CheckNote.TheVariants.{Passed, Refused, Dropped}
use Rattle.link_box.specs.declared.seal_note.SealNote.{SealNote}
use Rattle.link_box.specs.declared.seal_note.SealNote.TheVariants.{Sealed, Unsealed}
use Rattle.seal_transmitter.specs.Answers.{SealerCommitsNoted}
use Rattle.sequence_journal.specs.Commits.{HasCommitted}
use Rattle.sequence_journal.specs.Journal.{journal_link, journal_floor, kept_slot, told_with}
use Rattle.sequence_journal.specs.{Slots.slot_bytes, declared.journal.Journal.Journal}
use Rattle.std.proofs.Common.{◌≡◌, ◌∙◌, ℕ, ◌<◌, sym, ap, subst, inl, inr}
use Rattle.std.proofs.lemmas.Option.{same_Some}
use Rattle.std.specs.Prelude.{Option, Some, None}
use Rattle.yasir_io.specs.Disks.{Slots, with_slot, other_slot}
use Rattle.yasir_io.specs.{Steady.steady_slots, declared.disk.SlotDisk.Ghosts as SlotDisk}
use Rattle.yasir_io.specs.declared.steady.SteadySlots.{SteadySlots}

-- what is told of slots in memory
abbrev pub steady_disk : SlotDisk SteadySlots
steady_disk = record {
  told = λ disk. Some (steady_slots disk);
  may_leave = λ _ _. ⊥;
  moment = λ _. 0;
  left_since = λ _ _ _. ⊥;
  faults = λ _. 0;
}

module _ (d : SlotDisk SteadySlots)
    (told-is : (disk : SteadySlots) → d.told disk ≡ Some (steady_slots disk))
    (old new : Journal) (disk_old disk_new : SteadySlots) where
  one : (number : ℕ) (images : Slots → Type 0)
      → HasCommitted old new (d.told disk_old) (d.told disk_new) images number
      → CommitsOne old new disk_old disk_new
  one number images h =
      let slot = other_slot (kept_slot old) in
      let set : steady_slots disk_new ≡ with_slot (steady_slots disk_old) slot
      (slot_bytes number (journal_link old)) =
      same_Some _ _ (sym (told-is disk_new) ∙ h.set
      ∙ ap (λ told. told_with told slot (slot_bytes number (journal_link old)))
      (told-is disk_old)) in
      record {
        link = h.link;
        above = subst (λ n. journal_floor old < n) (sym h.floor) h.above;
        set = subst (λ n. steady_slots disk_new ≡ with_slot (steady_slots disk_old) slot
            (slot_bytes n (journal_link old))) (sym h.floor) set;
        turned = h.turned;
      }

  pub seals : (note : Option SealNote) → SealerCommitsNoted d old new disk_old disk_new note
      → CommitsOneOrNone old new disk_old disk_new
  seals (Some (Sealed number start len)) c = inr (one number (d.may_leave disk_new) c.1)
  seals (Some (Unsealed start why)) c = inl c
  seals None c = inl c

  pub checks : (note : Option CheckNote) → CheckerCommitsNoted d old new disk_old disk_new note
      → CommitsOneOrNone old new disk_old disk_new
  checks (Some (Passed number start len)) c = inr (one number (d.may_leave disk_new) c)
  checks (Some (Refused start why)) c = inl c
  checks (Some (Dropped start why)) c = inl c
  checks None c = inl c
