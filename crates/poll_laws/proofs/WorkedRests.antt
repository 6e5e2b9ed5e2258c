-- An answer that comes a tick too late, and what a master's box knows once it has heard silence for
-- long enough; and what a device reads beside another one. The tags are a stand-in for those of
-- HMAC.
use Rattle.frame_ending.specs.Laid.{tick_at}
use Rattle.device_model.specs.{DnpReads.dnp_reads, Frames.FrameRead, Hunt.hunt}
use Rattle.device_model.specs.RtuReads.{has_silence, rtu_reads}
use Rattle.dnp_link_frame.specs.Blocks.{room_by, begins_right, is_good_header, end_in_crcs}
use Rattle.dnp_link_frame.specs.Blocks.{block_start, is_frame as is_dnp_frame}
use Rattle.dnp_link_frame.specs.Blocks.{has_right_ending as has_dnp_ending}
use Rattle.frame_ending.specs.LiveBytes.{before_pause, up_to_byte}
use Rattle.line_rules.specs.Crc.{crc, byte_step, bit_steps, bit_step}
use Rattle.line_rules.specs.Endings.{ends_in_check}
use Rattle.link_box.specs.{Checking.received_line, Emissions.spoiled, Shapes.kept}
use Rattle.link_box.specs.Verdicts.{verdict_of, checked}
use Rattle.link_box.specs.Sealing.{judged}
use Rattle.poll_laws.specs.Rested.{Before, HasRested}
use Rattle.receiver_laws.proofs.Worked.{READ_TEN_REGISTERS, on_line, profile}
use Rattle.rtu_frame.specs.{Frame.is_frame, Frame.has_right_ending, Rules.rtu_rules}
use Rattle.std.proofs.Common.{◌≡◌, ◌&&◌, ℕ, ◌<◌, Bool, true, false, nat_lt, List, [], ◌∷◌, ◌++◌, refl}
use Rattle.std.proofs.Common.{⊎_elim}
use Rattle.std.proofs.lemmas.Bool.{cases_lt, le-ltb}
use Rattle.yasir_ticks.specs.{Bursts.bursts_from, Bursts.with_byte, Ticks.silent, Ticks.AreTicks}
use Rattle.yasir_ticks.specs.declared.tick.Tick.{Tick, TheVariants.Silent, TheVariants.Byte}
use Rattle.two_wire.specs.TwoWire.{EndSetup}
use Rattle.two_wire.specs.Wires.{drives, on_wires}
use Rattle.two_wire.specs.declared.gate.Side.TheVariants.{Answers}

abbrev REGISTERS : List ℕ
REGISTERS = 0x01 ∷ 0x03 ∷ 0x02 ∷ 0x00 ∷ 0x2A ∷ 0x39 ∷ 0x9B ∷ []

-- ---- the master's end: a request at 0 to 7, and the answer on the link from 34 on, so that it would
-- leave from 53 on, when the gate no longer waits for one; and then silence, up to tick 76

abbrev request_packet : List Tick
request_packet = on_line READ_TEN_REGISTERS ++ (silent 3 ++ on_line (0x00 ∷ 0x01 ∷ 0x01 ∷ 0x01 ∷ 0x03
    ∷ 0x00 ∷ 0x00 ∷ 0x00 ∷ 0x0A ∷ 0xC5 ∷ 0xCD ∷ 0xEE ∷ 0xEE ∷ 0xEE ∷ []))

abbrev answer_packet : List Tick
answer_packet = on_line REGISTERS ++ (silent 3 ++ on_line (0x00 ∷ 0x01 ∷ 0x01 ∷ 0x01 ∷ 0x03 ∷ 0x02
    ∷ 0x00 ∷ 0x2A ∷ 0x39 ∷ 0x9B ∷ 0xEE ∷ 0xEE ∷ 0xEE ∷ 0xEE ∷ []))

abbrev asked : List Tick
asked = on_line READ_TEN_REGISTERS ++ silent 69

abbrev asked_on_link : List Tick
asked_on_link = silent 1 ++ (request_packet ++ silent 51)

abbrev answered_on_link : List Tick
answered_on_link = silent 34 ++ (answer_packet ++ silent 19)

abbrev reached : EndSetup
reached = record {
  outgoing = profile;
  incoming = profile;
  sent_floor = 1;
  got_floor = 1;
  late = 1;
  lag = 0;
  side = Answers;
  waits = record { window = 45; pause = 4 };
}

abbrev session : Before
session = record {
  sent_floor = 0;
  got_floor = 0;
  wires = record {
    device_wires = asked;
    link_wires = drives asked_on_link answered_on_link;
    to_device = silent 77;
    to_link = asked_on_link;
  };
}

abbrev are_ticks : List Tick → Bool
are_ticks [] = true
are_ticks (Silent ∷ l) = are_ticks l
are_ticks (Byte b ∷ l) = nat_lt b 256 && are_ticks l

both-true : (b : ℕ) (c d : Bool) → nat_lt b 256 ≡ c → (c && d) ≡ true → (b < 256) × (d ≡ true)
both-true b false d few is = cc
both-true b true d few is =
    (⊎_elim (λ below. below) (λ above. let other = le-ltb b 256 above in cc) (cases_lt b 256), is)

ticks-are : (l : List Tick) → are_ticks l ≡ true → AreTicks l
ticks-are [] is = tt
ticks-are (Silent ∷ l) is = (tt, ticks-are l is)
ticks-are (Byte b ∷ l) is =
    let parts = both-true b (nat_lt b 256) (are_ticks l) refl is in (parts.0, ticks-are l parts.1)

link-ticks : AreTicks answered_on_link
link-ticks = ticks-are answered_on_link refl

-- The gate keeps the answer back, whose number has been used, and both journals have the number 1.
has-rested : HasRested rtu_rules 0 reached session
unfolding bursts_from with_byte before_pause up_to_byte tick_at judged kept spoiled verdict_of checked
    crc byte_step bit_steps bit_step is_frame has_right_ending ends_in_check
has-rested = record {
  box = record {
    device_ticks = refl;
    link_ticks = refl;
    drives_lines = record {
      device_ticks = refl;
      link_ticks = refl;
      same_ticks = refl;
      sent = refl;
      given = refl;
    };
  };
  free = record { front = on_line READ_TEN_REGISTERS ++ silent 48; is = refl };
  sent = record { front = on_line READ_TEN_REGISTERS ++ silent 51; is = refl };
  lagged = record { front = asked; is = refl };
  received = record { front = silent 34 ++ answer_packet; is = refl };
  link_bytes = link-ticks;
  sent_floor = refl;
  got_floor = refl;
}

-- ---- silence that is a tick too short: of seven bytes that no trailer follows the last one leaves
-- in the 20th tick behind them

abbrev LEFT : List ℕ
LEFT = 0x01 ∷ 0x03 ∷ 0x02 ∷ 0x00 ∷ 0x2A ∷ 0x39 ∷ []

too-short : on_wires 1 (received_line profile rtu_rules 0 (on_line REGISTERS ++ silent 18))
    ≡ silent 19 ++ on_line LEFT
unfolding bursts_from with_byte before_pause up_to_byte tick_at kept spoiled verdict_of checked crc
    byte_step bit_steps bit_step is_frame has_right_ending ends_in_check
too-short = refl

-- ---- a device beside another one: a request of the box, and the other's answer behind it

abbrev read_at : ℕ → List ℕ → FrameRead
read_at start frame = record { start = start; frame = frame }

abbrev box_says : List Tick
box_says = on_line READ_TEN_REGISTERS ++ silent 20

abbrev answer_behind : ℕ → ℕ → List Tick
answer_behind gap more = silent 8 ++ (silent gap ++ (on_line REGISTERS ++ silent more))

-- four silent ticks tell the two apart, and three don't
apart : rtu_reads (drives box_says (answer_behind 4 9))
    ≡ read_at 0 READ_TEN_REGISTERS ∷ read_at 12 REGISTERS ∷ []
unfolding bursts_from with_byte has_silence crc byte_step bit_steps bit_step is_frame has_right_ending
    ends_in_check
apart = refl

too-near : rtu_reads (drives box_says (answer_behind 3 10)) ≡ []
unfolding bursts_from with_byte has_silence crc byte_step bit_steps bit_step is_frame has_right_ending
    ends_in_check
too-near = refl

-- the reset of a link, and the header of a frame of 292 bytes
abbrev RESET_LINK : List ℕ
RESET_LINK = 0x05 ∷ 0x64 ∷ 0x05 ∷ 0xC0 ∷ 0x01 ∷ 0x00 ∷ 0x00 ∷ 0x04 ∷ 0xE9 ∷ 0x21 ∷ []

abbrev LONG_HEADER : List ℕ
LONG_HEADER = 0x05 ∷ 0x64 ∷ 0xFF ∷ 0xC4 ∷ 0x01 ∷ 0x00 ∷ 0x00 ∷ 0x04 ∷ 0x27 ∷ 0x27 ∷ []

-- A DNP3 device that ignores silence reads nothing of the box for 282 bytes, if another one has said
-- a header and nothing behind it.
swallowed : dnp_reads (drives (silent 14 ++ on_line RESET_LINK) (on_line LONG_HEADER ++ silent 14))
    ≡ []
unfolding hunt room_by begins_right is_good_header end_in_crcs block_start is_dnp_frame has_dnp_ending
    crc byte_step bit_steps bit_step ends_in_check
swallowed = refl

alone : dnp_reads (silent 14 ++ on_line RESET_LINK) ≡ read_at 14 RESET_LINK ∷ []
unfolding hunt room_by begins_right is_good_header end_in_crcs block_start is_dnp_frame has_dnp_ending
    crc byte_step bit_steps bit_step ends_in_check
alone = refl
