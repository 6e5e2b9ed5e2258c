-- What is listed of two recordings in an input.
use Rattle.std.specs.Prelude.{◌≡◌, ℕ, false, List, [], ◌++◌, Option}
use Rattle.yasir_ticks.specs.Ticks.{Item, silent}
use Rattle.link_format.specs.Setup.{Setup}
use Rattle.device_model.specs.declared.device.Device.{Ghosts as Device}
use Rattle.tick_drive.specs.Input.{Takes, IsWhole}
use Rattle.tick_drive.specs.declared.end.End.{End}
use Rattle.tick_drive.specs.declared.end.End.TheVariants.{Whole}
use Rattle.tick_drive.specs.Drive.{StopsForMemory}
use Rattle.session_lists.specs.Recordings.{before_mark, behind_mark}
use Rattle.session_lists.specs.ReplayLists.{HasListed, ListsAreReady, lists_taken}
use Rattle.session_lists.specs.declared.frame_box.FrameBox.{Ghosts as FrameBox}
use Rattle.session_lists.specs.declared.replay_lists.ReplayLists.{ReplayLists}

-- How many silent ticks follow the recording after the mark: enough for the last verdict to fall in
-- them, and for all that the receiver holds back to leave and be read.
abbrev pub link_rest : ℕ
link_rest = 320

module _ {S C V : Type 0} (s : FrameBox S) (c : FrameBox C) (v : Device V) where
  -- Lists that have taken no item, with some setup.
  pub record MayList (lists : ReplayLists S C V) : Type 0 where
    pub none : lists_taken s c v lists ≡ 0
    pub ready : ListsAreReady s c v lists
    pub unmarked : lists.marked ≡ false
    pub setup : Setup
    pub listed : HasListed s c v lists setup [] []

  -- Holds if the input is a whole text with one mark, and the lists are those of its two
  -- recordings: the one before the mark followed by `device_rest` silent ticks, and the one after
  -- the mark followed by `link_rest` silent ticks.
  pub record ListsBoth (device_rest : ℕ) (old new : ReplayLists S C V)
      (before now : Option (List ℕ)) : Type 0 where
    pub items : List Item
    pub takes : IsWhole 1 link_rest before now items
    pub listed : (setup : Setup) → HasListed s c v old setup [] []
        → HasListed s c v new setup (before_mark takes.told ++ silent device_rest)
        (behind_mark takes.told ++ silent link_rest)

  -- Holds if the input ended with `end` after these items, and there was no memory for what was
  -- taken of it if the lists stopped it. Nothing is said of the lists, which are of use only if the
  -- input ended whole.
  pub record EndsListing (before now : Option (List ℕ)) (end : End) : Type 0 where
    pub items : List Item
    pub takes : Takes 1 link_rest before now items end
    pub memory : StopsForMemory end

  -- What each end of the listing says of the input and the lists.
  abbrev pub ListsRecordings : ℕ → ReplayLists S C V → ReplayLists S C V → Option (List ℕ)
      → Option (List ℕ) → End → Type 0
  ListsRecordings device_rest old new before now Whole = ListsBoth device_rest old new before now
  ListsRecordings device_rest old new before now end = EndsListing before now end
