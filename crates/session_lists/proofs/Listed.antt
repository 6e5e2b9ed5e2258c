-- How a listing of two recordings ends.
use Rattle.device_model.specs.declared.device.Device.{Ghosts as Device}
use Rattle.{link_format.specs.Setup.Setup, session_lists.proofs.Marks.has_mark-some}
use Rattle.session_lists.proofs.Marks.{before_mark-more, behind_mark-more, ticks_in-silence}
use Rattle.session_lists.specs.Listed.{MayList, ListsRecordings}
use Rattle.session_lists.specs.Recordings.{lists_have_mark, before_mark, behind_mark}
use Rattle.session_lists.specs.ReplayLists.{HasListed, listing}
use Rattle.session_lists.specs.declared.frame_box.FrameBox.{Ghosts as FrameBox}
use Rattle.session_lists.specs.declared.replay_lists.ReplayLists.{ReplayLists}
use Rattle.std.proofs.Common.{◌≡◌, ℕ, ◌+◌, ◌≤◌, true, List, [], ◌++◌, length, Option, ◌∙◌, refl, ap}
use Rattle.std.proofs.Common.{subst, arith}
use Rattle.tick_drive.proofs.ItemLaws.{ticks_with, length-ticks_in-silence}
use Rattle.tick_drive.specs.{Drive.Drives, Input.IsWhole, Input.max_ticks, Items.silent_items}
use Rattle.tick_drive.specs.declared.end.End.{End, TheVariants.Whole}
use Rattle.tick_drive.proofs.Stopping.{stops-for-memory}
use Rattle.tick_drive.specs.Drive.{StopsForMemory}
use Rattle.yasir_ticks.specs.Ticks.{Item, ticks_in, silent}

module _ {S C V : Type 0} (s : FrameBox S) (c : FrameBox C) (v : Device V)
    (old new : ReplayLists S C V) (before now : Option (List ℕ)) (may : MayList s c v old) where
  abbrev HasDriven : End → Type 0
  HasDriven end = Drives (listing s c v) 1 320 before now old new end

  -- After a whole input, the lists are those of the recordings before and after the mark, the
  -- second of which is followed by 320 silent ticks.
  pub listed-whole : (driven : HasDriven Whole) (setup : Setup) → HasListed s c v old setup [] []
      → HasListed s c v new setup (before_mark driven.takes.told)
      (behind_mark driven.takes.told ++ silent 320)
  listed-whole driven setup listed =
      let whole : IsWhole 1 320 before now driven.items = driven.takes in
      let some : lists_have_mark whole.told ≡ true = has_mark-some whole.told 0 whole.right.marked in
      let first : before_mark driven.items ≡ before_mark whole.told =
      ap before_mark whole.are ∙ before_mark-more whole.told (silent_items 320) some in
      let second : behind_mark driven.items ≡ behind_mark whole.told ++ silent 320 =
      ap behind_mark whole.are ∙ behind_mark-more whole.told (silent_items 320) some
      ∙ ap (λ l. behind_mark whole.told ++ l) (ticks_in-silence 320) in
      subst (λ device. HasListed s c v new setup device
      (behind_mark whole.told ++ silent 320)) first
      (subst (λ link. HasListed s c v new setup (before_mark driven.items) link) second
      (driven.gives.moved setup [] (record { listed = listed; marked = may.unmarked })).listed)

  -- The items of a whole input, with 320 silent ticks after them, have at most `max_ticks + 320`
  -- ticks.
  few-whole : (items : List Item) → IsWhole 1 320 before now items
      → length (ticks_in items) ≤ max_ticks + 320
  few-whole items whole =
      let long : length (ticks_in items) ≡ length (ticks_in (whole.told ++ silent_items 320)) =
      ap (λ l. length (ticks_in l)) whole.are in
      omega (
        arith,
        long,
        ticks_with whole.told (silent_items 320),
        length-ticks_in-silence 320,
        whole.few,
      )

  pub room-whole : (driven : HasDriven Whole) → s.taken new.sealer ≤ max_ticks + 320
  room-whole driven =
      omega (arith, driven.gives.counted, may.none, few-whole driven.items driven.takes)

  -- The lists stop a drive only if there is no memory.
  for-memory : (end : End) → HasDriven end → StopsForMemory end
  for-memory end driven = stops-for-memory (listing s c v) (λ lists stop setup items none. none)
      1 320 before now old new may.setup
      (record { listed = may.listed; marked = may.unmarked }) end driven

  -- If the input didn't end whole, `ListsRecordings` holds for the way in which it ended.
  pub ends-listing : (end : End) → (end ≡ Whole → ⊥) → HasDriven end
      → (device_rest : ℕ) → ListsRecordings s c v device_rest old new before now end
  ends-listing Whole other driven rest = absurd (other refl)
  ends-listing end other driven rest = record {
    items = driven.items;
    takes = driven.takes;
    memory = for-memory end driven;
  }
