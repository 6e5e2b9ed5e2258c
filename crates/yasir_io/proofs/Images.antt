-- Lemmas on what a crash may leave of a disk in memory.
use Rattle.std.proofs.Common.{◌≡◌, ◌∙◌, ℕ, ◌≤◌, ◌⊎◌, List, [], ◌∷◌, ◌++◌, Some, length, drop, true}
use Rattle.std.proofs.Common.{false, refl, sym, ap, subst, inl, inr, arith, length-append}
use Rattle.std.proofs.lemmas.List.{drop-append-le}
use Rattle.yasir_io.specs.Disks.{Slots, slot_in, other_slot, with_slot, Torn, Elapses}
use Rattle.yasir_io.specs.MemSlots.{IsImage, IsImageOfAny, MayAdd, old_slots_at, slots_at}
use Rattle.yasir_io.specs.MemSlots.{is_written}
use Rattle.yasir_io.specs.declared.disk.Slot.{Slot, TheVariants.A, TheVariants.B}
use Rattle.yasir_io.specs.declared.{disk.TheConstants.SLOT_LEN, mem_slots.Moment.Moment}

-- Holds if a crash since t may leave the image, at the present moment or at one of the past ones.
abbrev pub Left : List Moment → Moment → ℕ → Slots → Type 0
Left past present t c = IsImage present c ⊎ IsImageOfAny (drop t past) c

any_or_last : (past : List Moment) (last : Moment) (c : Slots) → IsImageOfAny (past ++ last ∷ []) c
    → IsImage last c ⊎ IsImageOfAny past c
any_or_last [] last c (inl now) = inl now
any_or_last [] last c (inr none) = absurd none
any_or_last (m ∷ past) last c (inl now) = inr (inl now)
any_or_last (m ∷ past) last c (inr had) =
    elim (any_or_last past last c had) [ inl now ↦ inl now | inr before ↦ inr (inr before) ]

last_of_any : (past : List Moment) (last : Moment) (c : Slots) → IsImage last c
    → IsImageOfAny (past ++ last ∷ []) c
last_of_any [] last c now = inl now
last_of_any (m ∷ past) last c now = inr (last_of_any past last c now)

more_of_any : (past : List Moment) (last : Moment) (c : Slots) → IsImageOfAny past c
    → IsImageOfAny (past ++ last ∷ []) c
more_of_any [] last c had = absurd had
more_of_any (m ∷ past) last c (inl now) = inl now
more_of_any (m ∷ past) last c (inr had) = inr (more_of_any past last c had)

-- If a call adds the moment before it to the past ones, time goes on, whatever the call does to the
-- present moment.
pub elapses_recorded : (past new : List Moment) (before after : Moment) → new ≡ past ++ before ∷ []
    → Elapses (length past) (length new) (Left past before) (Left new after) (IsImage after)
elapses_recorded past new before after added =
    let at : (t : ℕ) → t ≤ length past → drop t new ≡ drop t past ++ before ∷ [] =
    λ t le. ap (drop t) added ∙ drop-append-le t past (before ∷ []) le in
    record {
      later = omega (arith, ap length added, length-append past (before ∷ []));
      nothing_else = λ t c le left. elim left as (λ _. Left past before t c ⊎ IsImage after c) [
        | inl now ↦ inr now
        | inr had ↦ inl (any_or_last (drop t past) before c
            (subst (λ l. IsImageOfAny l c) (at t le) had))
      ];
      keeps = λ t c le left. inr (subst (λ l. IsImageOfAny l c) (sym (at t le))
          (elim left as (λ _. IsImageOfAny (drop t past ++ before ∷ []) c) [
            | inl now ↦ last_of_any (drop t past) before c now
            | inr had ↦ more_of_any (drop t past) before c had
          ]));
    }

-- If a call adds no moment, and a crash after it may leave all that it might have left before it,
-- time goes on.
pub elapses_unrecorded : (past new : List Moment) (before after : Moment) → new ≡ past
    → ((c : Slots) → IsImage before c → IsImage after c)
    → Elapses (length past) (length new) (Left past before) (Left new after) (IsImage after)
elapses_unrecorded past new before after same more = record {
  later = omega (arith, ap length same);
  nothing_else = λ t c le left. elim left as (λ _. Left past before t c ⊎ IsImage after c) [
    | inl now ↦ inr now
    | inr had ↦ inl (inr (subst (λ l. IsImageOfAny (drop t l) c) same had))
  ];
  keeps = λ t c le left. elim left as (λ _. Left new after t c) [
    | inl now ↦ inl (more c now)
    | inr had ↦ inr (subst (λ l. IsImageOfAny (drop t l) c) (sym same) had)
  ];
}

-- If a call may add the moment before it to the past ones, and a crash after it may leave all that
-- it might have left before it, time goes on.
pub elapses : (past new : List Moment) (before after : Moment) → MayAdd past before new
    → ((c : Slots) → IsImage before c → IsImage after c)
    → Elapses (length past) (length new) (Left past before) (Left new after) (IsImage after)
elapses past new before after (inl added) more = elapses_recorded past new before after added
elapses past new before after (inr same) more = elapses_unrecorded past new before after same more

-- Holds if a slot is marked as written, and nothing else has changed except, perhaps, its bytes.
pub record IsMarked (slot : Slot) (before after : Moment) : Type 0 where
  pub marked : is_written after slot ≡ true
  pub other_mark : is_written after (other_slot slot) ≡ is_written before (other_slot slot)
  pub other_bytes : slot_in (slots_at after) (other_slot slot)
      ≡ slot_in (slots_at before) (other_slot slot)
  pub old_bytes : old_slots_at after ≡ old_slots_at before

-- If a slot was marked, each image of `after` is one of `before`, except for the bytes of the slot.
pub images_torn : (slot : Slot) (before after : Moment) → IsMarked slot before after → (c : Slots)
    → IsImage after c → (d : Slots) × IsImage before d × Torn slot d c
images_torn A before after is c image =
    let d : Slots = record { a = before.a; b = c.b; old = c.old } in
    let was : IsImage before d = record {
      size = λ slot. elim slot as (λ slot. length (slot_in d slot) ≡ SLOT_LEN)
          [ A ↦ before.a_size | B ↦ image.size B ];
      synced = λ slot. elim slot as (λ slot. is_written before slot ≡ false
          → slot_in d slot ≡ slot_in (slots_at before) slot) [
            | A ↦ λ h. refl
            | B ↦ λ h. image.synced B (is.other_mark ∙ h) ∙ is.other_bytes
          ];
      old = image.old ∙ is.old_bytes;
    } in
    (d, was, (c.a, image.size A, refl))
images_torn B before after is c image =
    let d : Slots = record { a = c.a; b = before.b; old = c.old } in
    let was : IsImage before d = record {
      size = λ slot. elim slot as (λ slot. length (slot_in d slot) ≡ SLOT_LEN)
          [ A ↦ image.size A | B ↦ before.b_size ];
      synced = λ slot. elim slot as (λ slot. is_written before slot ≡ false
          → slot_in d slot ≡ slot_in (slots_at before) slot) [
            | A ↦ λ h. image.synced A (is.other_mark ∙ h) ∙ is.other_bytes
            | B ↦ λ h. refl
          ];
      old = image.old ∙ is.old_bytes;
    } in
    (d, was, (c.b, image.size B, refl))

-- If a slot was marked, each image of `before` is one of `after`.
pub images_more : (slot : Slot) (before after : Moment) → IsMarked slot before after → (c : Slots)
    → IsImage before c → IsImage after c
images_more A before after is c image = record {
  size = image.size;
  synced = λ slot. elim slot as (λ slot. is_written after slot ≡ false
      → slot_in c slot ≡ slot_in (slots_at after) slot) [
        | A ↦ λ h. cc
        | B ↦ λ h. image.synced B (sym is.other_mark ∙ h) ∙ sym is.other_bytes
      ];
  old = image.old ∙ sym is.old_bytes;
}
images_more B before after is c image = record {
  size = image.size;
  synced = λ slot. elim slot as (λ slot. is_written after slot ≡ false
      → slot_in c slot ≡ slot_in (slots_at after) slot) [
        | A ↦ λ h. image.synced A (sym is.other_mark ∙ h) ∙ sym is.other_bytes
        | B ↦ λ h. cc
      ];
  old = image.old ∙ sym is.old_bytes;
}

-- If a slot was marked, any bytes in that slot of an image of `before` give an image of `after`.
pub images_reached : (slot : Slot) (before after : Moment) → IsMarked slot before after
    → (d : Slots) → IsImage before d → (c : Slots) → Torn slot d c → IsImage after c
images_reached A before after is d image c torn = subst (IsImage after) (sym torn.2) (record {
  size = λ slot. elim slot as (λ slot. length (slot_in (with_slot d A torn.0) slot) ≡ SLOT_LEN)
      [ A ↦ torn.1 | B ↦ image.size B ];
  synced = λ slot. elim slot as (λ slot. is_written after slot ≡ false
      → slot_in (with_slot d A torn.0) slot ≡ slot_in (slots_at after) slot) [
        | A ↦ λ h. cc
        | B ↦ λ h. image.synced B (sym is.other_mark ∙ h) ∙ sym is.other_bytes
      ];
  old = image.old ∙ sym is.old_bytes;
})
images_reached B before after is d image c torn = subst (IsImage after) (sym torn.2) (record {
  size = λ slot. elim slot as (λ slot. length (slot_in (with_slot d B torn.0) slot) ≡ SLOT_LEN)
      [ A ↦ image.size A | B ↦ torn.1 ];
  synced = λ slot. elim slot as (λ slot. is_written after slot ≡ false
      → slot_in (with_slot d B torn.0) slot ≡ slot_in (slots_at after) slot) [
        | A ↦ λ h. image.synced A (sym is.other_mark ∙ h) ∙ sym is.other_bytes
        | B ↦ λ h. cc
      ];
  old = image.old ∙ sym is.old_bytes;
})

-- If no slot was written since the last sync, the slots as they read are the only image.
pub only_image : (moment : Moment) → ((slot : Slot) → is_written moment slot ≡ false) → (c : Slots)
    → IsImage moment c → Some (slots_at moment) ≡ Some c
only_image moment settled c image =
    ap (λ a. Some (record (slots_at moment) { a = a })) (sym (image.synced A (settled A)))
    ∙ ap (λ b. Some (record (slots_at moment) { a = c.a; b = b }))
    (sym (image.synced B (settled B)))
    ∙ ap (λ old. Some (record c { old = old })) (sym image.old)

untouched : (slot : Slot) (slots : Slots) (bytes : List ℕ)
    → slot_in (with_slot slots slot bytes) (other_slot slot) ≡ slot_in slots (other_slot slot)
untouched A slots bytes = refl
untouched B slots bytes = refl

old_untouched : (slot : Slot) (slots : Slots) (bytes : List ℕ)
    → (with_slot slots slot bytes).old ≡ slots.old
old_untouched A slots bytes = refl
old_untouched B slots bytes = refl

-- A slot is marked if its mark is set and nothing else changes.
pub marks : (slot : Slot) (before middle after : Moment) → middle ≡ before
    → slots_at after ≡ slots_at middle
    → is_written after slot ≡ true → is_written after (other_slot slot)
    ≡ is_written middle (other_slot slot) → IsMarked slot before after
marks slot before middle after same slots marked other = record {
  marked = marked;
  other_mark = other ∙ ap (λ m. is_written m (other_slot slot)) same;
  other_bytes = ap (λ s. slot_in s (other_slot slot)) slots
      ∙ ap (λ m. slot_in (slots_at m) (other_slot slot)) same;
  old_bytes = ap (λ s. s.old) slots ∙ ap old_slots_at same;
}

-- A slot that was marked stays marked if bytes are then written to it.
pub sets : (slot : Slot) (before middle after : Moment) (bytes : List ℕ)
    → IsMarked slot before middle → slots_at after ≡ with_slot (slots_at middle) slot bytes
    → ((slot : Slot) → is_written after slot ≡ is_written middle slot) → IsMarked slot before after
sets slot before middle after bytes is slots marks = record {
  marked = marks slot ∙ is.marked;
  other_mark = marks (other_slot slot) ∙ is.other_mark;
  other_bytes = ap (λ s. slot_in s (other_slot slot)) slots ∙ untouched slot (slots_at middle) bytes
      ∙ is.other_bytes;
  old_bytes = ap (λ s. s.old) slots ∙ old_untouched slot (slots_at middle) bytes ∙ is.old_bytes;
}

-- If a call doesn't change the present moment, time goes on, whether or not it was added to the
-- past ones.
pub elapses_unchanged : (past new : List Moment) (before after : Moment) → MayAdd past before new
    → after ≡ before
    → Elapses (length past) (length new) (Left past before) (Left new after) (IsImage after)
elapses_unchanged past new before after added same =
    elapses past new before after added (λ c image. subst (λ m. IsImage m c) (sym same) image)

unwritten : (moment : Moment) → moment.a_written ≡ false → moment.b_written ≡ false → (slot : Slot)
    → is_written moment slot ≡ false
unwritten moment a b A = a
unwritten moment a b B = b

-- If neither slot has the mark that it was written, the slots as they read are the only image.
pub only_image_unmarked : (moment : Moment) (c : Slots) → IsImage moment c
    → moment.a_written ≡ false → moment.b_written ≡ false → Some (slots_at moment) ≡ Some c
only_image_unmarked moment c image a b = only_image moment (unwritten moment a b) c image
