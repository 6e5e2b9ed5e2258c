-- What is kept of three recordings of a session, and what is found of the third.
use Rattle.std.specs.Prelude.{◌≡◌, ℕ, zero, suc, ◌+◌, ◌^◌, ◌<◌, ◌≤◌, false, List, [], ◌++◌, All, ⊤}
use Rattle.yasir_ticks.specs.Ticks.{Item, marks_in, silent}
use Rattle.yasir_ticks.specs.declared.tick.Tick.{Tick}
use Rattle.link_format.specs.NumberedFrame.{NumberedFrame}
use Rattle.link_format.specs.Setup.{Setup}
use Rattle.device_model.specs.Frames.{FrameRead}
use Rattle.device_model.specs.declared.device.Device.{Ghosts as Device}
use Rattle.tick_drive.specs.Consumers.{Consuming}
use Rattle.tick_drive.specs.declared.consumer.Stop.TheVariants.{NoMemory}
use Rattle.session_lists.specs.Parts.{part}
use Rattle.session_lists.specs.ListPlaces.{place_after}
use Rattle.session_lists.specs.declared.tick_lists.Place.{Place}
use Rattle.session_lists.specs.declared.tick_lists.Place.TheVariants as place
use Rattle.session_lists.specs.Comparison.{Compares}
use Rattle.session_lists.specs.Expected.{expected_by}
use Rattle.session_lists.specs.Lines.{BoxSetup, IsOpenBox, KeepsLine, kept_len}
use Rattle.session_lists.specs.declared.frame_box.FrameBox.{Ghosts as FrameBox}
use Rattle.session_lists.specs.declared.guard.Guard.{Ghosts as Guard}
use Rattle.session_lists.specs.declared.session_lists.SessionLists.{SessionLists}
use Rattle.session_lists.specs.declared.session_lists.Timing.{Timing}

-- how the two boxes of a session are set up, how late the receiver is, and how many silent ticks
-- follow each recording
pub record SetupsOfLists : Type 0 where
  pub sent : Setup
  pub got : Setup
  pub timing : Timing

-- the transmitter, behind which there is no spacer
abbrev pub sent_box : SetupsOfLists → BoxSetup
sent_box setups = record { setup = setups.sent; spaced = false }

-- the receiver, and whether a spacer stands behind it
abbrev pub got_box : SetupsOfLists → BoxSetup
got_box setups = record { setup = setups.got; spaced = setups.timing.spaced }

-- how many silent ticks follow the three recordings in all
abbrev pub all_rests : Timing → ℕ
all_rests timing = timing.sent_rest + timing.link_rest + timing.received_rest

-- The silence that has come after the link when this many marks have come. The second mark ends the
-- link, so there is none before it.
abbrev pub rest_after : ℕ → ℕ → List Tick
rest_after rest zero = []
rest_after rest (suc zero) = []
rest_after rest (suc (suc more)) = silent rest

-- what the receiver has taken when these items have come
abbrev pub link_of_lists : ℕ → List Item → List Tick
link_of_lists rest items = part 1 items ++ rest_after rest (marks_in items)

-- how many ticks of the link's silence are still to come while the next tick belongs to this place
abbrev pub rest_left : ℕ → Place → ℕ
rest_left rest place.First = rest
rest_left rest place.Second = rest
rest_left rest place.Third = 0
rest_left rest place.None = 0

module _ {S C V G : Type 0} (s : FrameBox S) (c : FrameBox C) (v : Device V)
    (g : Guard G) where
  -- the frames that pass if this is the link
  abbrev pub passed_of : SetupsOfLists → List Tick → List NumberedFrame
  passed_of setups link = (c.numbering setups.got).frames link

  -- The frames that should be read if this is the link: those that pass, each later by the
  -- receiver's delay or, with a spacer, those that a device behind it reads of what the receiver
  -- sends.
  abbrev pub expected_of : SetupsOfLists → List Tick → List FrameRead
  expected_of setups link =
      expected_by setups.timing.spaced setups.timing.late.late (passed_of setups link)
      (g.reads ((c.numbering setups.got).other_line link))

  -- Holds if the lists hold what is sealed of the line `device` and what passes of the line `link`,
  -- and what is read of the line `received` was compared with what should be.
  pub record HasSession (lists : SessionLists S C V G) (setups : SetupsOfLists)
      (device link received : List Tick) : Type 0 where
    pub seals : KeepsLine s g lists.sealer lists.sealed (sent_box setups) device
    pub passes : KeepsLine c g lists.checker lists.passed (got_box setups) link
    pub reads : Compares v lists.device lists.read setups.timing.late (expected_of setups link)
        received
    pub timing_is : lists.timing ≡ setups.timing

  -- Holds if the lists are those of some recordings, and each frame that has passed is read,
  -- without a spacer, from a tick below 2 ^ 64 on.
  pub record AreReadInTime (lists : SessionLists S C V G) : Type 0 where
    pub setups : SetupsOfLists
    pub device : List Tick
    pub link : List Tick
    pub received : List Tick
    pub has : HasSession lists setups device link received
    pub in_time : All (λ f. setups.timing.late.late + f.start < 2 ^ 64) (passed_of setups link)

  -- The boxes and the device have taken these items, each its own part. After a third mark the
  -- device hears ticks that belong to none of the three parts, and nothing is said of what it
  -- reads.
  pub record TakesParts (lists : SessionLists S C V G) (setups : SetupsOfLists) (items : List Item) :
      Type 0 where
    pub seals : KeepsLine s g lists.sealer lists.sealed (sent_box setups) (part 0 items)
    pub passes : KeepsLine c g lists.checker lists.passed (got_box setups)
        (link_of_lists setups.timing.link_rest items)
    pub reads : marks_in items ≤ 2
        → Compares v lists.device lists.read setups.timing.late
        (expected_of setups (link_of_lists setups.timing.link_rest items)) (part 2 items)
    pub nothing : v.reads [] ≡ []
    pub place_is : lists.place ≡ place_after (marks_in items)
    pub timing_is : lists.timing ≡ setups.timing

  -- how many ticks were taken of all recordings
  abbrev pub boxes_taken : SessionLists S C V G → ℕ
  boxes_taken lists = s.taken lists.sealer + c.taken lists.checker + v.taken lists.device

  -- how many ticks were taken of all recordings and of the link's silence, which counts even if it
  -- is still to come
  abbrev pub session_taken : SessionLists S C V G → ℕ
  session_taken lists = boxes_taken lists + rest_left lists.timing.link_rest lists.place

  -- The receiver has taken some link, the list holds the frames that passed, and the guard, if there
  -- is one, has heard what the receiver sent.
  pub record HoldsPassed (lists : SessionLists S C V G) : Type 0 where
    pub origin : BoxSetup
    pub link : List Tick
    pub passes : KeepsLine c g lists.checker lists.passed origin link

  -- Both boxes may take a tick, each list has at most as many frames as its box has taken ticks,
  -- and the device has read at most as many frames as it has heard ticks.
  pub record IsOpenList (lists : SessionLists S C V G) : Type 0 where
    pub sealer : IsOpenBox s g lists.sealer lists.sealed
    pub checker : IsOpenBox c g lists.checker lists.passed
    pub few_sealed : kept_len lists.sealed ≤ s.taken lists.sealer
    pub few_passed : kept_len lists.passed ≤ c.taken lists.checker
    pub few_read : lists.read.read ≤ v.taken lists.device
    pub holds : HoldsPassed lists

  -- What holds for this consumer: it stops only if there is no memory, and writes nothing.
  abbrev pub parting : Consuming (SessionLists S C V G)
  parting = record {
    Origin = SetupsOfLists;
    stands = TakesParts;
    stopped = λ lists stop setups items. stop ≡ NoMemory;
    taken = session_taken;
    able = IsOpenList;
    went = λ old new result. ⊤;
  }
