-- What is kept of two recordings.
use Rattle.std.specs.Prelude.{◌≡◌, ℕ, ◌+◌, List, [], ◌∷◌, ◌++◌, length, map, ⊤}
use Rattle.yasir_ticks.specs.Ticks.{Item, ticks_in}
use Rattle.yasir_ticks.specs.declared.tick.Tick.{Tick}
use Rattle.link_format.specs.Setup.{Setup}
use Rattle.device_model.specs.Frames.{FrameRead}
use Rattle.device_model.specs.declared.device.Device.{Ghosts as Device}
use Rattle.tick_drive.specs.Consumers.{Consuming}
use Rattle.tick_drive.specs.declared.consumer.Stop.TheVariants.{NoMemory}
use Rattle.session_lists.specs.FrameBox.{kept_frames}
use Rattle.session_lists.specs.FrameList.{KeptFrames, Holds}
use Rattle.session_lists.specs.Recordings.{lists_have_mark, before_mark, behind_mark}
use Rattle.session_lists.specs.declared.frame_box.FrameBox.{Ghosts as FrameBox}
use Rattle.session_lists.specs.declared.frame_box.Numbered.{Numbered}
use Rattle.session_lists.specs.declared.frame_list.FrameList.{FrameList}
use Rattle.session_lists.specs.declared.replay_lists.ReplayLists.{ReplayLists}

-- The box has taken this line, and the list holds its frames.
pub record KeepsFrames {B : Type 0} (box : FrameBox B) (value : B) (list : FrameList Numbered)
    (setup : Setup) (line : List Tick) : Type 0 where
  pub steps : box.stands value setup line
  pub holds : Holds list (kept_frames ((box.numbering setup).frames line))

-- Holds if the box has taken this line and then `t`, the list holds its frames, and `tick` is what
-- the box returned for `t`.
pub record StepsInto {B : Type 0} (box : FrameBox B) (value : B) (list : FrameList Numbered)
    (setup : Setup) (line : List Tick) (t tick : Tick) : Type 0 where
  pub keeps : KeepsFrames box value list setup (line ++ t ∷ [])
  pub answers : (box.numbering setup).other_line (line ++ t ∷ [])
      ≡ (box.numbering setup).other_line line ++ tick ∷ []

-- a frame that was read, as a list in memory keeps it
abbrev pub kept_read : FrameRead → KeptFrames ℕ
kept_read f = record { head = f.start; frame = f.frame }

-- these frames that were read, each as a list in memory keeps it
abbrev pub kept_reads : List FrameRead → List (KeptFrames ℕ)
kept_reads reads = map kept_read reads

-- The device has heard this line, and the list holds what it has read.
pub record Listens {V : Type 0} (device : Device V) (value : V) (list : FrameList ℕ)
    (line : List Tick) : Type 0 where
  pub hears : device.stands value line
  pub holds : Holds list (kept_reads (device.reads line))

module _ {S C V : Type 0} (s : FrameBox S) (c : FrameBox C) (v : Device V) where
  -- The receiver has taken this link, and the device has heard the receiver's line.
  pub record ChecksLists (lists : ReplayLists S C V) (setup : Setup) (link : List Tick) : Type 0 where
    pub passes : KeepsFrames c lists.checker lists.passed setup link
    pub reads : Listens v lists.device lists.read ((c.numbering setup).other_line link)

  -- The lists hold what is sealed of this line of a device, and what passes and is read of this
  -- link.
  pub record HasListed (lists : ReplayLists S C V) (setup : Setup) (device link : List Tick) :
      Type 0 where
    pub seals : KeepsFrames s lists.sealer lists.sealed setup device
    pub checks : ChecksLists lists setup link

  -- how many ticks were taken of both recordings
  abbrev pub lists_taken : ReplayLists S C V → ℕ
  lists_taken lists = s.taken lists.sealer + c.taken lists.checker

  -- Both boxes may take a tick, and the device has heard a tick for each one that the receiver has
  -- taken.
  pub record ListsAreReady (lists : ReplayLists S C V) : Type 0 where
    pub sealer : s.able lists.sealer
    pub checker : c.able lists.checker
    pub taken : v.taken lists.device ≡ c.taken lists.checker

  -- The transmitter has taken the ticks of these items that come before the mark, and the receiver
  -- those that come after it.
  pub record ListsItems (lists : ReplayLists S C V) (setup : Setup) (items : List Item) :
      Type 0 where
    pub listed : HasListed lists setup (before_mark items) (behind_mark items)
    pub marked : lists.marked ≡ lists_have_mark items

  -- Holds if the boxes took the items `more`, whatever they had taken before, counted their ticks,
  -- and may take others.
  pub record GoesOnBy (old new : ReplayLists S C V) (more : List Item) : Type 0 where
    pub moved : (setup : Setup) (items : List Item) → ListsItems old setup items
        → ListsItems new setup (items ++ more)
    pub counted : lists_taken new ≡ lists_taken old + length (ticks_in more)
    pub ready : ListsAreReady new

  -- What holds for this consumer: it stops only if there is no memory, and writes nothing.
  abbrev pub listing : Consuming (ReplayLists S C V)
  listing = record {
    Origin = Setup;
    stands = ListsItems;
    stopped = λ lists stop setup items. stop ≡ NoMemory;
    taken = lists_taken;
    able = ListsAreReady;
    went = λ old new result. ⊤;
  }
