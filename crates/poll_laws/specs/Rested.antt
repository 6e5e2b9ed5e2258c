-- Two-wire boxes that go on after any session whatever, once they have heard silence for long enough.
use Rattle.std.specs.Prelude.{◌≡◌, ◌≤◌, ◌+◌, ℕ, List, ◌++◌, length, map}
use Rattle.yasir_ticks.specs.Bursts.{bursts}
use Rattle.yasir_ticks.specs.Ticks.{silent, AreTicks}
use Rattle.yasir_ticks.specs.declared.tick.Tick.{Tick}
use Rattle.frame_ending.specs.Laid.{later}
use Rattle.line_rules.specs.Rules.{Rules}
use Rattle.link_format.specs.NumberedFrame.{NumberedFrame, last_number}
use Rattle.link_format.specs.Profile.{delay, pause_len, trailer_len}
use Rattle.link_box.specs.Checking.{passed, received_line}
use Rattle.link_box.specs.Sealing.{sealed}
use Rattle.receiver_laws.specs.Untouched.{numbered}
use Rattle.two_wire.specs.Polling.{Polling, all_said, end_a, end_b, wires_a, wires_b}
use Rattle.two_wire.specs.TwoWire.{EndSetup, EndWires, IsTwoWire, HearEachOther}
use Rattle.two_wire.specs.TwoWire.{heard_device, heard_link}
use Rattle.two_wire.specs.Wires.{on_wires}

-- Holds if a line ends with so many silent ticks at least.
pub record EndsSilent (k : ℕ) (line : List Tick) : Type 0 where
  pub front : List Tick
  pub is : line ≡ front ++ silent k

-- these wires, and then those
abbrev pub and_then : EndWires → EndWires → EndWires
and_then before after = record {
  device_wires = before.device_wires ++ after.device_wires;
  link_wires = before.link_wires ++ after.link_wires;
  to_device = before.to_device ++ after.to_device;
  to_link = before.to_link ++ after.to_link;
}

-- What came before at an end: the floors of the journals with which the box began there, and what
-- was on the wires and what it drove since.
pub record Before : Type 0 where
  pub sent_floor : ℕ
  pub got_floor : ℕ
  pub wires : EndWires

-- the set-up of the box when that began
abbrev pub begun : EndSetup → Before → EndSetup
begun end before =
    record end { sent_floor = before.sent_floor; got_floor = before.got_floor }

-- Holds if a box whose journals have the floors of this set-up has driven its wires before, whatever
-- was on them, and has heard silence since for so long that nothing is on its way in it: of the
-- device until a frame may be sealed again, all trailers have left, and its gate has heard the end;
-- and of the link until all has left that its receiver held back. A burst that this refuses lacks at
-- most `most` bytes.
pub record HasRested (rules : Rules) (most : ℕ) (end : EndSetup) (before : Before) : Type 0 where
  pub box : IsTwoWire rules (begun end before) before.wires
  pub free : EndsSilent (delay end.outgoing + 3) (heard_device before.wires)
  pub sent : EndsSilent (pause_len + trailer_len end.outgoing + end.late)
      (heard_device before.wires)
  pub lagged : EndsSilent end.lag (heard_device before.wires)
  pub received : EndsSilent (delay end.incoming + most + end.late) (heard_link before.wires)
  pub link_bytes : AreTicks (heard_link before.wires)
  pub sent_floor : end.sent_floor ≡ last_number before.sent_floor
      (sealed end.outgoing rules before.sent_floor (heard_device before.wires))
  pub got_floor : end.got_floor ≡ last_number before.got_floor
      (passed end.incoming rules before.got_floor (heard_link before.wires))

-- a frame, n ticks later
abbrev pub frame_later : ℕ → NumberedFrame → NumberedFrame
frame_later n f = record { number = f.number; start = n + f.start; frame = f.frame }

-- Holds if a box that has driven its wires before goes on so: what it drives then, it drives as a
-- box that has just begun with the floors that it has reached, and it seals and passes the same
-- frames.
pub record GoesOn (rules : Rules) (end : EndSetup) (before : Before) (w : EndWires) : Type 0 where
  pub box : IsTwoWire rules (begun end before) (and_then before.wires w)
  pub seals : sealed end.outgoing rules before.sent_floor (heard_device (and_then before.wires w))
      ≡ sealed end.outgoing rules before.sent_floor (heard_device before.wires)
      ++ map (frame_later (length (heard_device before.wires)))
      (sealed end.outgoing rules end.sent_floor (heard_device w))
  pub passes : passed end.incoming rules before.got_floor (heard_link (and_then before.wires w))
      ≡ passed end.incoming rules before.got_floor (heard_link before.wires)
      ++ map (frame_later (length (heard_link before.wires)))
      (passed end.incoming rules end.got_floor (heard_link w))

-- Holds if the gate lets all through that the receiver of a box returns that has just begun.
abbrev pub GivesAll : Rules → EndSetup → EndWires → Type 0
GivesAll rules end w =
    w.to_device ≡ on_wires end.late (received_line end.incoming rules end.got_floor (heard_link w))

-- Holds if both boxes have rested before these polls begin, and the gate beside the devices doesn't
-- wait longer behind an answer than for one.
pub record BothHaveRested (rules : Rules) (most : ℕ) (p : Polling) (before_a before_b : Before) :
    Type 0 where
  pub at_a : HasRested rules most (end_a p) before_a
  pub at_b : HasRested rules most (end_b p) before_b
  pub fits : p.waits_b.pause ≤ p.waits_b.window

-- Holds if the two boxes go on so that at both ends nobody talks while another does, all frames of
-- the polls are sealed and pass, and each is heard at the other end whole, later by the delay.
pub record AreDeliveredThen (rules : Rules) (p : Polling) (before_a before_b : Before) : Type 0 where
  pub box_a : IsTwoWire rules (begun (end_a p) before_a) (and_then before_a.wires (wires_a rules p))
  pub box_b : IsTwoWire rules (begun (end_b p) before_b) (and_then before_b.wires (wires_b rules p))
  pub at_a : HearEachOther (wires_a rules p) (all_said p.master)
  pub at_b : HearEachOther (wires_b rules p) (all_said p.devices)
  pub requests_sealed : sealed p.ab rules before_a.sent_floor
      (heard_device (and_then before_a.wires (wires_a rules p)))
      ≡ sealed p.ab rules before_a.sent_floor (heard_device before_a.wires)
      ++ numbered rules p.requests_floor
      (map (later (length (heard_device before_a.wires))) (bursts p.master.line))
  pub answers_sealed : sealed p.ba rules before_b.sent_floor
      (heard_device (and_then before_b.wires (wires_b rules p)))
      ≡ sealed p.ba rules before_b.sent_floor (heard_device before_b.wires)
      ++ numbered rules p.answers_floor
      (map (later (length (heard_device before_b.wires))) (bursts p.devices.line))
  pub requests_pass : passed p.ab rules before_b.got_floor
      (heard_link (and_then before_b.wires (wires_b rules p)))
      ≡ passed p.ab rules before_b.got_floor (heard_link before_b.wires)
      ++ numbered rules p.requests_floor
      (map (later (length (heard_link before_b.wires) + p.late)) (bursts p.master.line))
  pub answers_pass : passed p.ba rules before_a.got_floor
      (heard_link (and_then before_a.wires (wires_a rules p)))
      ≡ passed p.ba rules before_a.got_floor (heard_link before_a.wires)
      ++ numbered rules p.answers_floor
      (map (later (length (heard_link before_a.wires) + p.late)) (bursts p.devices.line))
