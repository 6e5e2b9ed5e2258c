-- A poll over two wires, tick by tick, and an attack on a device that is deaf while it answers. What
-- a box decides leaves one tick later. The tags are a stand-in for those of HMAC.
use Rattle.frame_ending.specs.Laid.{tick_at}
use Rattle.device_model.specs.{Frames.FrameRead, RtuReads.has_silence, RtuReads.rtu_reads}
use Rattle.frame_ending.specs.LiveBytes.{before_pause, up_to_byte}
use Rattle.line_rules.specs.Crc.{crc, byte_step, bit_steps, bit_step}
use Rattle.line_rules.specs.Endings.{ends_in_check}
use Rattle.link_box.specs.{Checking.received_line, Emissions.spoiled, Shapes.kept}
use Rattle.link_box.specs.Verdicts.{verdict_of, checked}
use Rattle.link_box.specs.Sealing.{link_line, judged}
use Rattle.receiver_laws.proofs.Worked.{READ_TEN_REGISTERS, on_line, profile}
use Rattle.rtu_frame.specs.{Frame.is_frame, Frame.has_right_ending, Rules.rtu_rules}
use Rattle.std.proofs.Common.{◌≡◌, ℕ, List, [], ◌∷◌, ◌++◌, refl}
use Rattle.yasir_ticks.specs.{Bursts.bursts_from, Bursts.with_byte, Ticks.silent}
use Rattle.yasir_ticks.specs.declared.tick.Tick.{Tick}
use Rattle.two_wire.specs.Gate.{gated, at_rest}
use Rattle.two_wire.specs.Wires.{hears, drives, on_wires}
use Rattle.two_wire.specs.declared.gate.Side.{Side}
use Rattle.two_wire.specs.declared.gate.Side.TheVariants.{Asks, Answers}
use Rattle.two_wire.specs.declared.gate.Waits.{Waits}

abbrev waiting : ℕ → Waits
waiting window = record { window = window; pause = 4 }

abbrev REGISTERS : List ℕ
REGISTERS = 0x01 ∷ 0x03 ∷ 0x02 ∷ 0x00 ∷ 0x2A ∷ 0x39 ∷ 0x9B ∷ []

-- 25 ticks: the request, the word of number 1, and its tag; and 24 ticks for the answer
abbrev request_packet : List Tick
request_packet = on_line READ_TEN_REGISTERS ++ (silent 3 ++ on_line (0x00 ∷ 0x01 ∷ 0x01 ∷ 0x01 ∷ 0x03
    ∷ 0x00 ∷ 0x00 ∷ 0x00 ∷ 0x0A ∷ 0xC5 ∷ 0xCD ∷ 0xEE ∷ 0xEE ∷ 0xEE ∷ []))

abbrev answer_packet : List Tick
answer_packet = on_line REGISTERS ++ (silent 3 ++ on_line (0x00 ∷ 0x01 ∷ 0x01 ∷ 0x01 ∷ 0x03 ∷ 0x02
    ∷ 0x00 ∷ 0x2A ∷ 0x39 ∷ 0x9B ∷ 0xEE ∷ 0xEE ∷ 0xEE ∷ 0xEE ∷ []))

-- ---- a poll of 72 ticks, in which a device answers after four silent ones

abbrev master : List Tick
master = on_line READ_TEN_REGISTERS ++ silent 64

abbrev device : List Tick
device = silent 32 ++ (on_line REGISTERS ++ silent 33)

abbrev asked_on_link : List Tick
asked_on_link = silent 1 ++ (request_packet ++ silent 46)

abbrev answered_on_link : List Tick
answered_on_link = silent 33 ++ (answer_packet ++ silent 15)

-- the link: 1 to 8 and 12 to 25 for the request, 33 to 39 and 43 to 56 for the answer
master-sends : on_wires 1 (link_line profile rtu_rules 0 master) ≡ asked_on_link
unfolding bursts_from with_byte before_pause up_to_byte tick_at judged crc byte_step bit_steps
    bit_step is_frame has_right_ending ends_in_check
master-sends = refl

device-sends : on_wires 1 (link_line profile rtu_rules 0 device) ≡ answered_on_link
unfolding bursts_from with_byte before_pause up_to_byte tick_at judged crc byte_step bit_steps
    bit_step is_frame has_right_ending ends_in_check
device-sends = refl

-- the device hears the request at 20 to 27, if the gate has waited for 20 ticks, and not for 21
device-hears : gated Asks (waiting 20) at_rest
    (on_wires 1 (received_line profile rtu_rules 0 asked_on_link)) (on_wires 0 device)
    ≡ silent 20 ++ (on_line READ_TEN_REGISTERS ++ silent 44)
unfolding bursts_from with_byte before_pause up_to_byte tick_at kept spoiled verdict_of checked crc
    byte_step bit_steps bit_step is_frame has_right_ending ends_in_check
device-hears = refl

device-hears-nothing : gated Asks (waiting 21) at_rest
    (on_wires 1 (received_line profile rtu_rules 0 asked_on_link)) (on_wires 0 device) ≡ silent 72
unfolding bursts_from with_byte before_pause up_to_byte tick_at kept spoiled verdict_of checked crc
    byte_step bit_steps bit_step is_frame has_right_ending ends_in_check
device-hears-nothing = refl

-- the master hears the answer at 52 to 58, if it is waited for at least 45 silent ticks; with a gate
-- that hears one tick late 44 do
master-hears : gated Answers (waiting 45) at_rest
    (on_wires 1 (received_line profile rtu_rules 0 answered_on_link)) (on_wires 0 master)
    ≡ silent 52 ++ (on_line REGISTERS ++ silent 13)
unfolding bursts_from with_byte before_pause up_to_byte tick_at kept spoiled verdict_of checked crc
    byte_step bit_steps bit_step is_frame has_right_ending ends_in_check
master-hears = refl

master-hears-nothing : gated Answers (waiting 44) at_rest
    (on_wires 1 (received_line profile rtu_rules 0 answered_on_link)) (on_wires 0 master) ≡ silent 72
unfolding bursts_from with_byte before_pause up_to_byte tick_at kept spoiled verdict_of checked crc
    byte_step bit_steps bit_step is_frame has_right_ending ends_in_check
master-hears-nothing = refl

master-hears-late : gated Answers (waiting 44) at_rest
    (on_wires 1 (received_line profile rtu_rules 0 answered_on_link)) (on_wires 1 master)
    ≡ silent 52 ++ (on_line REGISTERS ++ silent 13)
unfolding bursts_from with_byte before_pause up_to_byte tick_at kept spoiled verdict_of checked crc
    byte_step bit_steps bit_step is_frame has_right_ending ends_in_check
master-hears-late = refl

-- ---- an attack: behind a packet at 0 to 24 a burst comes at 29 to 37, so that its first byte leaves
-- the receiver at 48, in the last tick of an answer, and the rest of it is a frame

abbrev SET_A_REGISTER : List ℕ
SET_A_REGISTER = 0x01 ∷ 0x06 ∷ 0x00 ∷ 0x01 ∷ 0xBE ∷ 0xEF ∷ 0xE8 ∷ 0x26 ∷ []

abbrev attacked_link : List Tick
attacked_link = request_packet ++ (silent 4 ++ (on_line (0x55 ∷ SET_A_REGISTER) ++ silent 34))

abbrev answering : List Tick
answering = silent 42 ++ (on_line REGISTERS ++ silent 23)

abbrev read_at : ℕ → List ℕ → FrameRead
read_at start frame = record { start = start; frame = frame }

-- with no gate the device, deaf while it answers, executes the frame
no-gate : rtu_reads (hears answering (drives (on_wires 1 (received_line profile rtu_rules 0 attacked_link))
    answering)) ≡ read_at 19 READ_TEN_REGISTERS ∷ read_at 49 SET_A_REGISTER ∷ []
unfolding bursts_from with_byte before_pause up_to_byte tick_at kept spoiled verdict_of checked crc
    byte_step bit_steps bit_step is_frame has_right_ending ends_in_check has_silence
no-gate = refl

-- a gate keeps the burst back
with-gate : gated Asks (waiting 19) at_rest
    (on_wires 1 (received_line profile rtu_rules 0 attacked_link)) (on_wires 0 answering)
    ≡ silent 19 ++ (on_line READ_TEN_REGISTERS ++ silent 45)
unfolding bursts_from with_byte before_pause up_to_byte tick_at kept spoiled verdict_of checked crc
    byte_step bit_steps bit_step is_frame has_right_ending ends_in_check
with-gate = refl

-- ---- what a gate lets through behind an answer that ends at 48

abbrev asking_at : ℕ → List Tick
asking_at n = silent 19 ++ (on_line READ_TEN_REGISTERS ++ (silent n ++ on_line READ_TEN_REGISTERS))

-- from 53 on, when four silent ticks have come, and with a lag of five from 58 on
too-soon : gated Asks (waiting 19) at_rest (asking_at 25) (on_wires 0 answering)
    ≡ silent 19 ++ (on_line READ_TEN_REGISTERS ++ silent 33)
too-soon = refl

soon-enough : gated Asks (waiting 19) at_rest (asking_at 26) (on_wires 0 answering) ≡ asking_at 26
soon-enough = refl

too-soon-late : gated Asks (waiting 19) at_rest (asking_at 30) (on_wires 5 answering)
    ≡ silent 19 ++ (on_line READ_TEN_REGISTERS ++ silent 38)
too-soon-late = refl

soon-enough-late : gated Asks (waiting 19) at_rest (asking_at 31) (on_wires 5 answering) ≡ asking_at 31
soon-enough-late = refl
