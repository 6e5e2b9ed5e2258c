-- A box at one end of a line: between the wires to its device, and those of the link.
use Rattle.std.specs.Prelude.{◌≡◌, ℕ, List, length}
use Rattle.yasir_ticks.specs.declared.tick.Tick.{Tick}
use Rattle.line_rules.specs.Rules.{Rules}
use Rattle.device_model.specs.Frames.{FrameRead}
use Rattle.link_format.specs.Profile.{Profile}
use Rattle.link_box.specs.Checking.{received_line}
use Rattle.link_box.specs.Sealing.{link_line}
use Rattle.two_wire.specs.Gate.{gated, at_rest}
use Rattle.two_wire.specs.Given.{ReadsSealed}
use Rattle.two_wire.specs.Turns.{OthersInTurn, DeafInTurn, AreWithin, CoversTurns}
use Rattle.two_wire.specs.declared.gate.Side.{Side}
use Rattle.two_wire.specs.declared.gate.Spoken.{Spoken}
use Rattle.two_wire.specs.declared.gate.Waits.{Waits}
use Rattle.two_wire.specs.Wires.{hears, drives, on_wires, AreApart}

-- What a box at one end is set up with: what it sends by and what it gets by, the floors of both
-- journals, how many ticks later its ticks leave than they are decided, how many ticks late its
-- gate hears what others say, for which side it speaks on the device's wires, and how long is
-- waited there.
pub record EndSetup : Type 0 where
  pub outgoing : Profile
  pub incoming : Profile
  pub sent_floor : ℕ
  pub got_floor : ℕ
  pub late : ℕ
  pub lag : ℕ
  pub side : Side
  pub waits : Waits

-- What a box hears of its device and of the link, and the ticks with which it drives the wires to
-- the device and those of the link.
pub record EndLines : Type 0 where
  pub from_device : List Tick
  pub from_link : List Tick
  pub to_device : List Tick
  pub to_link : List Tick

-- Holds if a box that waits so drives the wires with these ticks while it hears those. What its
-- transmitter makes of what it hears of the device leaves on the link `late` ticks later. What its
-- receiver makes of what it hears of the link leaves so much later too, through the gate, which
-- hears the device another `lag` ticks late.
pub record DrivesLines (sends gives : List Tick → List Tick) (late lag : ℕ) (side : Side)
    (waits : Waits) (l : EndLines) : Type 0 where
  pub device_ticks : length l.to_device ≡ length l.from_device
  pub link_ticks : length l.to_link ≡ length l.from_link
  pub same_ticks : length l.from_device ≡ length l.from_link
  pub sent : l.to_link ≡ on_wires late (sends l.from_device)
  pub given : l.to_device ≡ gated side waits at_rest (on_wires late (gives l.from_link))
      (on_wires lag l.from_device)

-- Holds if a box at this end does. On four wires the device drives a pair of its own, and so does
-- the box at the other end, so that the box hears all that they say.
abbrev pub IsFourWire : Rules → EndSetup → EndLines → Type 0
IsFourWire rules end l =
    DrivesLines (link_line end.outgoing rules end.sent_floor)
    (received_line end.incoming rules end.got_floor) end.late end.lag end.side end.waits l

-- What is on both pairs of wires of a box, and the ticks with which the box drives them.
pub record EndWires : Type 0 where
  pub device_wires : List Tick
  pub link_wires : List Tick
  pub to_device : List Tick
  pub to_link : List Tick

-- what a box hears of the device, and of the link
abbrev pub heard_device : EndWires → List Tick
heard_device w = hears w.to_device w.device_wires

abbrev pub heard_link : EndWires → List Tick
heard_link w = hears w.to_link w.link_wires

abbrev pub heard_lines : EndWires → EndLines
heard_lines w = record {
  from_device = heard_device w;
  from_link = heard_link w;
  to_device = w.to_device;
  to_link = w.to_link;
}

-- Holds if a box that waits so drives both pairs of wires with these ticks, while those are on the
-- wires. It hears what is on them while it doesn't drive them.
pub record DrivesWires (sends gives : List Tick → List Tick) (late lag : ℕ) (side : Side)
    (waits : Waits) (w : EndWires) : Type 0 where
  pub device_ticks : length w.to_device ≡ length w.device_wires
  pub link_ticks : length w.to_link ≡ length w.link_wires
  pub drives_lines : DrivesLines sends gives late lag side waits (heard_lines w)

-- Holds if a box at this end does.
abbrev pub IsTwoWire : Rules → EndSetup → EndWires → Type 0
IsTwoWire rules end w =
    DrivesWires (link_line end.outgoing rules end.sent_floor)
    (received_line end.incoming rules end.got_floor) end.late end.lag end.side end.waits w

-- Holds if others keep the turns beside a box that says these ticks, with waits that those of the
-- box fit, whoever spoke last before it began.
pub record KeepTurns (end : EndSetup) (own others : List Tick) : Type 0 where
  pub kept : Waits
  pub covers : CoversTurns end.side end.waits end.lag kept
  pub before : Spoken
  pub same_ticks : length others ≡ length own
  pub in_turn : OthersInTurn end.side kept before own others

-- Holds if, besides, one of them is deaf in these ticks, and only when it may be.
pub record KeepTurnsDeafly (end : EndSetup) (own others deaf : List Tick) : Type 0 where
  pub turns : KeepTurns end own others
  pub deaf_ticks : length deaf ≡ length others
  pub deaf_in_turn : DeafInTurn end.side end.waits end.lag turns.before own others deaf

-- Holds if, besides the box, the wires to the device carry what others say there, and they keep the
-- turns.
pub record SharesInTurn (end : EndSetup) (w : EndWires) (others : List Tick) : Type 0 where
  pub wires_are : w.device_wires ≡ drives w.to_device others
  pub turns : KeepTurns end w.to_device others

-- Holds if, besides, one that hears these wires is deaf in these ticks: in each in which one of the
-- others talks, and otherwise only when it may be.
pub record IsDeafBeside (end : EndSetup) (w : EndWires) (others deaf : List Tick) : Type 0 where
  pub wires_are : w.device_wires ≡ drives w.to_device others
  pub while_they_talk : AreWithin others deaf
  pub deafly : KeepTurnsDeafly end w.to_device others deaf

-- Nobody talks on the device's wires while another does. A device that hears these wires, except
-- while it talks, hears just what the box says, and the box hears all that the others say.
pub record HearEachOther (w : EndWires) (others : List Tick) : Type 0 where
  pub apart : AreApart w.to_device others
  pub device_hears : hears others w.device_wires ≡ w.to_device
  pub box_hears : heard_device w ≡ others

-- What a device beside this box reads, of frames that were sealed elsewhere of this line: of what
-- the box says on its wires, and, if the turns are kept there, of what the device hears on them.
pub record ReadsOnlySealed (rules : Rules) (reads : List Tick → List FrameRead) (end : EndSetup)
    (w : EndWires) (seal_floor : ℕ) (line : List Tick) : Type 0 where
  pub said : ReadsSealed rules reads end.incoming seal_floor end.got_floor line (heard_link w)
      w.to_device
  pub heard : (others : List Tick) → SharesInTurn end w others
      → ReadsSealed rules reads end.incoming seal_floor end.got_floor line (heard_link w)
      (hears others w.device_wires)
  pub deaf_too : (others deaf : List Tick) → IsDeafBeside end w others deaf
      → ReadsSealed rules reads end.incoming seal_floor end.got_floor line (heard_link w)
      (hears deaf w.device_wires)

-- What a device reads on the pair of wires that the box drives, if each drives a pair of its own:
-- one that is never deaf, and one that is only when it may be.
pub record ReadsOnlySealedApart (rules : Rules) (reads : List Tick → List FrameRead)
    (end : EndSetup) (l : EndLines) (seal_floor : ℕ) (line : List Tick) : Type 0 where
  pub said : ReadsSealed rules reads end.incoming seal_floor end.got_floor line l.from_link
      l.to_device
  pub deaf_too : (deaf : List Tick) → KeepTurnsDeafly end l.to_device l.from_device deaf
      → ReadsSealed rules reads end.incoming seal_floor end.got_floor line l.from_link
      (hears deaf l.to_device)
