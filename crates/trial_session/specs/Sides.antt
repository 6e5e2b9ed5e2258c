-- A box of a session, and what it has counted.
use Rattle.std.specs.Prelude.{◌≡◌, ℕ, ◌+◌, ◌≤◌, List, ◌++◌, length, map, Some}
use Rattle.yasir_io.specs.Steady.{steady_slots}
use Rattle.yasir_ticks.specs.declared.tick.Tick.{Tick}
use Rattle.yasir_ticks.specs.declared.tick.Tick.TheVariants.{Byte}
use Rattle.device_model.specs.declared.device.Device.{Ghosts as Device}
use Rattle.link_box.specs.declared.box_trait.LinkBox.{Ghosts as LinkBox}
use Rattle.sequence_journal.specs.Journal.{journal_link, journal_floor, Fits}
use Rattle.trial_session.specs.Boxes.{trial_setup}
use Rattle.trial_session.specs.Counting.{Counting}
use Rattle.trial_session.specs.declared.listening.Listening.{Listening}
use Rattle.trial_session.specs.declared.receiving.Receiving.{Receiving}
use Rattle.trial_session.specs.declared.side.Side.{Side}

module _ {X N : Type 0} (line_box : LinkBox X N) where
  -- Holds if the box may take a tick: the journal is that of the box's link, the disk fits the
  -- journal, and no more bursts are counted for a fate than the box has taken ticks.
  pub record SideMayTake (side : Side X) : Type 0 where
    pub of_link : journal_link side.journal ≡ line_box.link_of side.line_box
    pub fits : Fits side.journal (Some (steady_slots side.disk))
    pub through_few : side.through ≤ line_box.taken side.line_box
    pub refused_few : side.refused ≤ line_box.taken side.line_box
    pub dropped_few : side.dropped ≤ line_box.taken side.line_box

module _ {X N : Type 0} (line_box : LinkBox X N) (counting : Counting) where
  -- Holds if the box has taken this line, and its bursts are counted.
  pub record HasTaken (side : Side X) (line : List Tick) : Type 0 where
    pub stands : line_box.stands side.line_box (journal_floor side.journal) trial_setup line
    pub through_is : side.through ≡ counting.through line
    pub refused_is : side.refused ≡ counting.refused line
    pub dropped_is : side.dropped ≡ counting.dropped line

  -- Holds if, after this line, the box has taken the ticks `more`, and has answered them with
  -- `answers`.
  pub record SideHasSent (side : Side X) (line more answers : List Tick) : Type 0 where
    pub taken : HasTaken side (line ++ more)
    pub answered : counting.other_line (line ++ more) ≡ counting.other_line line ++ answers

  -- Holds if, after this line, the box has taken a run, and has answered it with as many ticks.
  pub record HasPassed (side : Side X) (line run answer : List Tick) : Type 0 where
    pub sent : SideHasSent side line run answer
    pub long : length answer ≡ length run

-- Holds if a device has heard this line, and the frames that it read are counted.
pub record SideHasHeard {V : Type 0} (device : Device V) (value : Listening V) (line : List Tick)
    : Type 0 where
  pub stands : device.stands value.device line
  pub counts : value.read ≡ length (device.reads line)

-- Holds if a device has heard this line but for the bytes `waiting`, which are at its end.
pub record IsHearing {V : Type 0} (device : Device V) (value : Listening V) (waiting : List ℕ)
    (line : List Tick) : Type 0 where
  pub front : List Tick
  pub is : line ≡ front ++ map Byte waiting
  pub hears : SideHasHeard device value front

-- Holds if the receiver has taken this link, and the device has heard the line that it made of it.
pub record HasReceived {C N V : Type 0} (checks : LinkBox C N) (checking : Counting)
    (device : Device V) (receiving : Receiving C V) (link : List Tick) : Type 0 where
  pub checks_link : HasTaken checks checking receiving.checking link
  pub hears_line : SideHasHeard device receiving.listening (checking.other_line link)

-- Holds if the receiver and the device have taken equally many ticks, and may take more.
pub record MayReceive {C N V : Type 0} (checks : LinkBox C N) (device : Device V)
    (receiving : Receiving C V) : Type 0 where
  pub may_check : SideMayTake checks receiving.checking
  pub read_few : receiving.listening.read ≤ device.taken receiving.listening.device
  pub heard_ticks : device.taken receiving.listening.device
      ≡ checks.taken receiving.checking.line_box

-- Holds if the receiver has taken this link, and the device has heard the line that it made of it,
-- but for the bytes `waiting` at the end.
pub record IsReceiving {C N V : Type 0} (checks : LinkBox C N) (checking : Counting)
    (device : Device V) (receiving : Receiving C V) (waiting : List ℕ) (link : List Tick) : Type 0
  where
    pub checks_link : HasTaken checks checking receiving.checking link
    pub hears_line : IsHearing device receiving.listening waiting (checking.other_line link)

-- Holds if the device has taken fewer ticks than the receiver, by as many as bytes wait, and both
-- may take more.
pub record MayGoOnReceiving {C N V : Type 0} (checks : LinkBox C N) (device : Device V)
    (receiving : Receiving C V) (waiting : List ℕ) : Type 0 where
  pub may_check : SideMayTake checks receiving.checking
  pub read_few : receiving.listening.read ≤ device.taken receiving.listening.device
  pub heard_ticks : device.taken receiving.listening.device + length waiting
      ≡ checks.taken receiving.checking.line_box
