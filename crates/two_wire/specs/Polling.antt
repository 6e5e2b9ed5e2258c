-- A master that polls devices over a two-wire line on which nothing is changed.
use Rattle.std.specs.Prelude.{◌≡◌, ◌≤◌, ◌+◌, ℕ, List, ◌++◌, length, map}
use Rattle.yasir_ticks.specs.Bursts.{bursts}
use Rattle.yasir_ticks.specs.Ticks.{silent}
use Rattle.yasir_ticks.specs.declared.tick.Tick.{Tick}
use Rattle.frame_ending.specs.Laid.{later}
use Rattle.line_rules.specs.Rules.{Rules}
use Rattle.link_format.specs.Profile.{Profile, delay}
use Rattle.link_box.specs.Checking.{passed}
use Rattle.receiver_laws.specs.Untouched.{IsUntouchedLink, numbered}
use Rattle.link_box.specs.Sealing.{link_line, sealed}
use Rattle.two_wire.specs.Gate.{gated, at_rest}
use Rattle.two_wire.specs.TwoWire.{EndSetup, EndWires, IsTwoWire, HearEachOther, heard_link}
use Rattle.two_wire.specs.Wires.{drives, on_wires, AreApart}
use Rattle.two_wire.specs.declared.gate.Side.TheVariants.{Asks, Answers}
use Rattle.two_wire.specs.declared.gate.Waits.{Waits}

-- what one side says: a line, and silence after it
pub record Said : Type 0 where
  pub line : List Tick
  pub more : ℕ

abbrev pub all_said : Said → List Tick
all_said said = said.line ++ silent said.more

-- How many ticks later something is heard at the other end, if the receiver has the delay of this
-- profile, and what each box decides leaves `late` ticks later.
abbrev pub lateness : Profile → ℕ → ℕ
lateness profile late = late + (delay profile + late)

-- what was said, as many ticks, as it is heard at the other end
abbrev pub said_later : Profile → ℕ → Said → List Tick
said_later profile late said = on_wires (lateness profile late) (all_said said)

-- What a master and the devices say, and how the box beside the master and the one beside the
-- devices are set up: the profiles of requests and of answers, the floors of the journals for
-- requests sent and got and for answers sent and got, how long is waited at both ends, how many
-- ticks later what a box decides leaves, and how many ticks late both gates hear the others.
pub record Polling : Type 0 where
  pub ab : Profile
  pub ba : Profile
  pub requests_floor : ℕ
  pub requests_behind : ℕ
  pub answers_floor : ℕ
  pub answers_behind : ℕ
  pub waits_a : Waits
  pub waits_b : Waits
  pub late : ℕ
  pub lag : ℕ
  pub master : Said
  pub devices : Said

abbrev pub end_a : Polling → EndSetup
end_a p = record {
  outgoing = p.ab;
  incoming = p.ba;
  sent_floor = p.requests_floor;
  got_floor = p.answers_behind;
  late = p.late;
  lag = p.lag;
  side = Answers;
  waits = p.waits_a;
}

abbrev pub end_b : Polling → EndSetup
end_b p = record {
  outgoing = p.ba;
  incoming = p.ab;
  sent_floor = p.answers_floor;
  got_floor = p.requests_behind;
  late = p.late;
  lag = p.lag;
  side = Asks;
  waits = p.waits_b;
}

module _ (rules : Rules) (p : Polling) where
  -- what each box sends on the link
  abbrev pub requests_sent : List Tick
  requests_sent = link_line p.ab rules p.requests_floor (all_said p.master)

  abbrev pub answers_sent : List Tick
  answers_sent = link_line p.ba rules p.answers_floor (all_said p.devices)

  -- what is on the wires at both ends: each box says what was said at the other end, later, and the
  -- wires of the link carry what both boxes send
  abbrev pub wires_a : EndWires
  wires_a = record {
    device_wires = drives (said_later p.ba p.late p.devices) (all_said p.master);
    link_wires = drives (on_wires p.late requests_sent) (on_wires p.late answers_sent);
    to_device = said_later p.ba p.late p.devices;
    to_link = on_wires p.late requests_sent;
  }

  abbrev pub wires_b : EndWires
  wires_b = record {
    device_wires = drives (said_later p.ab p.late p.master) (all_said p.devices);
    link_wires = drives (on_wires p.late requests_sent) (on_wires p.late answers_sent);
    to_device = said_later p.ab p.late p.master;
    to_link = on_wires p.late answers_sent;
  }

  -- Holds if the frames of both sides are spaced and there are numbers for them, each side is heard
  -- at the other end later by the delay, both gates let all through, and nobody says anything on any
  -- pair of wires while another does.
  pub record PollsInTurn : Type 0 where
    pub same_ticks : length (all_said p.master) ≡ length (all_said p.devices)
    pub requests : IsUntouchedLink p.ab rules p.requests_floor p.requests_behind p.master.line
        p.master.more
    pub answers : IsUntouchedLink p.ba rules p.answers_floor p.answers_behind p.devices.line
        p.devices.more
    pub requests_end : lateness p.ab p.late ≤ p.master.more
    pub answers_end : lateness p.ba p.late ≤ p.devices.more
    pub at_a : gated Answers p.waits_a at_rest (said_later p.ba p.late p.devices)
        (on_wires p.lag (all_said p.master)) ≡ said_later p.ba p.late p.devices
    pub at_b : gated Asks p.waits_b at_rest (said_later p.ab p.late p.master)
        (on_wires p.lag (all_said p.devices)) ≡ said_later p.ab p.late p.master
    pub apart_a : AreApart (said_later p.ba p.late p.devices) (all_said p.master)
    pub apart_b : AreApart (said_later p.ab p.late p.master) (all_said p.devices)
    pub apart_link : AreApart (on_wires p.late requests_sent) (on_wires p.late answers_sent)

  -- Holds if the two boxes do just that: at both ends nobody talks while another does, all frames
  -- are sealed and pass, and each is heard at the other end whole, later by the delay.
  pub record PollsAreDelivered : Type 0 where
    pub box_a : IsTwoWire rules (end_a p) wires_a
    pub box_b : IsTwoWire rules (end_b p) wires_b
    pub at_a : HearEachOther wires_a (all_said p.master)
    pub at_b : HearEachOther wires_b (all_said p.devices)
    pub requests_sealed : sealed p.ab rules p.requests_floor (all_said p.master)
        ≡ numbered rules p.requests_floor (bursts p.master.line)
    pub answers_sealed : sealed p.ba rules p.answers_floor (all_said p.devices)
        ≡ numbered rules p.answers_floor (bursts p.devices.line)
    pub requests_pass : passed p.ab rules p.requests_behind (heard_link wires_b)
        ≡ numbered rules p.requests_floor (map (later p.late) (bursts p.master.line))
    pub answers_pass : passed p.ba rules p.answers_behind (heard_link wires_a)
        ≡ numbered rules p.answers_floor (map (later p.late) (bursts p.devices.line))
