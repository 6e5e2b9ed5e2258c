-- What is listed of three recordings of a session.
use Rattle.std.specs.Prelude.{◌≡◌, ℕ, ◌<◌, ◌≤◌, ◌^◌, List, [], ◌++◌, Option}
use Rattle.yasir_ticks.specs.Ticks.{Item, silent}
use Rattle.yasir_ticks.specs.declared.tick.Tick.{Tick}
use Rattle.device_model.specs.declared.device.Device.{Ghosts as Device}
use Rattle.tick_drive.specs.Input.{Takes, IsWhole}
use Rattle.tick_drive.specs.declared.end.End.{End}
use Rattle.tick_drive.specs.declared.end.End.TheVariants.{Whole}
use Rattle.tick_drive.specs.Drive.{StopsForMemory}
use Rattle.session_lists.specs.Parts.{part}
use Rattle.session_lists.specs.declared.tick_lists.Place.TheVariants.{First}
use Rattle.session_lists.specs.SessionLists.{HasSession, IsOpenList, SetupsOfLists, all_rests, boxes_taken}
use Rattle.session_lists.specs.SessionLists.{session_taken}
use Rattle.session_lists.specs.declared.frame_box.FrameBox.{Ghosts as FrameBox}
use Rattle.session_lists.specs.declared.guard.Guard.{Ghosts as Guard}
use Rattle.session_lists.specs.declared.session_lists.SessionLists.{SessionLists}

module _ {S C V G : Type 0} (s : FrameBox S) (c : FrameBox C) (v : Device V)
    (g : Guard G) where
  -- Lists that have taken no item, with some setup.
  pub record MayListSession (lists : SessionLists S C V G) : Type 0 where
    pub none : boxes_taken s c v g lists ≡ 0
    pub able : IsOpenList s c v g lists
    pub first : lists.place ≡ First
    pub short : all_rests lists.timing ≤ 100000
    pub nothing : v.reads [] ≡ []
    pub setups : SetupsOfLists
    pub has : HasSession s c v g lists setups [] [] []

  -- The lists are those of these recordings, each followed by its silence.
  pub record ListsLines (old new : SessionLists S C V G) (device link received : List Tick) :
      Type 0 where
    pub has : (setups : SetupsOfLists) → HasSession s c v g old setups [] [] []
        → HasSession s c v g new setups (device ++ silent setups.timing.sent_rest)
        (link ++ silent setups.timing.link_rest) (received ++ silent setups.timing.received_rest)
    pub able : IsOpenList s c v g new
    pub few : session_taken s c v g new < 2 ^ 32

  -- Holds if the input is a whole text with two marks, and the lists are those of the three
  -- recordings that the marks separate.
  pub record ListsThree (old new : SessionLists S C V G) (before now : Option (List ℕ)) :
      Type 0 where
    pub items : List Item
    pub takes : IsWhole 2 0 before now items
    pub lists : ListsLines old new (part 0 takes.told) (part 1 takes.told) (part 2 takes.told)

  -- Holds if the input ended with `end` after these items, and there was no memory for what was
  -- taken of it if the lists stopped it. Nothing is said of the lists, which are of use only if the
  -- input ended whole.
  pub record EndsThree (before now : Option (List ℕ)) (end : End) : Type 0 where
    pub items : List Item
    pub takes : Takes 2 0 before now items end
    pub memory : StopsForMemory end

  -- What each end of the listing says of the input and the lists.
  abbrev pub ListsSession : SessionLists S C V G → SessionLists S C V G → Option (List ℕ)
      → Option (List ℕ) → End → Type 0
  ListsSession old new before now Whole = ListsThree old new before now
  ListsSession old new before now end = EndsThree before now end
