-- A two-wire box over new journals on disks that never fail, and what it has driven its wires with.
use Rattle.std.specs.Prelude.{◌≡◌, ℕ, List, [], Some}
use Rattle.yasir_io.specs.Steady.{steady_slots}
use Rattle.yasir_io.specs.contracts.steady.SteadySlotsSlotDisk.TheImpl.{ghosts}
use Rattle.yasir_io.specs.declared.steady.SteadySlots.{SteadySlots}
use Rattle.yasir_ticks.specs.declared.tick.Tick.TheVariants.{Silent}
use Rattle.link_format.specs.Tag.{direction_number}
use Rattle.link_format.specs.declared.dir.Dir.{Dir}
use Rattle.link_format.specs.Setup.{Setup}
use Rattle.sequence_journal.specs.Journal.{journal_link, journal_floor, Fits}
use Rattle.sequence_journal.specs.declared.link.LinkId.{LinkId}
use Rattle.link_box.specs.declared.box_trait.LinkBox.{Ghosts as LinkBox}
use Rattle.link_format.specs.Directions.{opposite_of}
use Rattle.duplex_box.specs.Directions.{AreOfLine}
use Rattle.duplex_box.specs.Pairs.{outgoing_direction, outgoing_box, incoming_box, ways_of}
use Rattle.two_wire.specs.Gate.{gate_state, gate_side, gate_waits, gate_ticks, at_rest}
use Rattle.two_wire.specs.declared.gate.Side.{Side}
use Rattle.two_wire.specs.declared.gate.Waits.{Waits}
use Rattle.two_wire_box.specs.Ends.{pair_of, gate_of, for_device, link_now}
use Rattle.two_wire_box.specs.Lines.{WireStep, EndState, TakesSteps}
use Rattle.two_wire_box.specs.declared.steady_end.SteadyEnd.{SteadyEnd}

-- Holds if the links of two boxes are those of one line, with the same protocol and profile: one of
-- its outgoing direction, and one of its incoming one.
pub record AreLinksOfLine (outgoing : Dir) (sent got : LinkId) : Type 0 where
  pub outgoing_is : sent.dir ≡ direction_number outgoing
  pub incoming_is : got ≡ record sent { dir = direction_number (opposite_of outgoing) }

-- the box with its journals and disks, what its gate knows, and the ticks that leave next
abbrev pub steady_state : {S C : Type 0} → SteadyEnd S C → EndState S C SteadySlots SteadySlots
steady_state value = record {
  ways = ways_of (pair_of value.wires) value.sent value.sent_disk value.got value.got_disk;
  gate = gate_state (gate_of value.wires);
  for_device = for_device value.wires;
  for_link = link_now value.wires;
}

-- how many ticks the box has taken
abbrev pub steady_ticks : {S C : Type 0} → SteadyEnd S C → ℕ
steady_ticks value = value.ticks

module _ {S C A B : Type 0} (sends : LinkBox S A) (gets : LinkBox C B) where
  -- Holds if the box may take more ticks: its journals are those of its boxes, each with its disk,
  -- and it counts the ticks that both boxes and the gate have taken.
  pub record MayGoOn (value : SteadyEnd S C) : Type 0 where
    pub of_line : AreOfLine (outgoing_direction (pair_of value.wires)) value.sent value.got
    pub sent_link : journal_link value.sent ≡ sends.link_of (outgoing_box (pair_of value.wires))
    pub got_link : journal_link value.got ≡ gets.link_of (incoming_box (pair_of value.wires))
    pub sent_fits : Fits value.sent (Some (steady_slots value.sent_disk))
    pub got_fits : Fits value.got (Some (steady_slots value.got_disk))
    pub sent_ticks : sends.taken (outgoing_box (pair_of value.wires)) ≡ value.ticks
    pub got_ticks : gets.taken (incoming_box (pair_of value.wires)) ≡ value.ticks
    pub gate_ticks_are : gate_ticks (gate_of value.wires) ≡ value.ticks

  -- Holds if these steps are all that the box has taken, for this side, with these waits.
  pub record HasDriven (side : Side) (waits : Waits) (sent_setup got_setup : Setup)
      (value : SteadyEnd S C) (steps : List (WireStep A B)) : Type 0 where
    pub side_is : gate_side (gate_of value.wires) ≡ side
    pub waits_is : gate_waits (gate_of value.wires) ≡ waits
    pub begun : EndState S C SteadySlots SteadySlots
    pub at_rest_is : begun.gate ≡ at_rest
    pub device_silent : begun.for_device ≡ Silent
    pub link_silent : begun.for_link ≡ Silent
    pub sent_stands : sends.stands begun.ways.outgoing.line_box
        (journal_floor begun.ways.outgoing.journal) sent_setup []
    pub got_stands : gets.stands begun.ways.incoming.line_box
        (journal_floor begun.ways.incoming.journal) got_setup []
    pub taken : TakesSteps sends gets ghosts ghosts side waits begun steps (steady_state value)
