-- The laws that a disk in memory keeps.
use Rattle.std.specs.Prelude.{◌≡◌, List, [], ◌∷◌, length, drop, Some, unwrap_or, refl}
use Rattle.std.proofs.Common.{inl, inr, ap, subst}
use Rattle.yasir_io.specs.declared.disk.TheConstants.{SLOT_LEN}
use Rattle.yasir_io.specs.declared.disk.Slot.TheVariants.{A, B}
use Rattle.yasir_io.specs.declared.mem_slots.Moment.{Moment}
use Rattle.yasir_io.specs.declared.mem_slots.MemSlots.{MemSlots}
use Rattle.yasir_io.specs.Disks.{Slots, slot_in}
use Rattle.yasir_io.specs.MemSlots.{IsImage, IsImageOfAny, slots_at, mem_slots, MayLeave, LeftSince}

-- the slots as they read are an image
pub present_is_image : (moment : Moment) → IsImage moment (slots_at moment)
present_is_image moment = record {
  size = λ slot. elim slot as (λ slot. length (slot_in (slots_at moment) slot) ≡ SLOT_LEN)
      [ A ↦ moment.a_size | B ↦ moment.b_size ];
  synced = λ slot same. refl;
  old = refl;
}

pub reads_an_image_law : (disk : MemSlots) (s c : Slots) → Some (mem_slots disk) ≡ Some s
    → MayLeave disk c → MayLeave disk s
reads_an_image_law disk s c told image =
    subst (MayLeave disk) (ap (λ o. unwrap_or o s) told) (present_is_image disk.present)

none_after : (moments : List Moment) (image : Slots)
    → IsImageOfAny (drop (length moments) moments) image → ⊥
none_after [] image had = had
none_after (moment ∷ moments) image had = none_after moments image had

pub only_now_law : (disk : MemSlots) (c : Slots) → LeftSince disk (length disk.past.items) c
    → MayLeave disk c
only_now_law disk c (inl now) = now
only_now_law disk c (inr had) = absurd (none_after disk.past.items c had)
