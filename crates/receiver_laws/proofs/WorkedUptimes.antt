-- Frames of two uptimes of a transmitter, on one link to a receiver. The tags are a stand-in for
-- those of HMAC.
use Rattle.{frame_ending.specs.Laid.tick_at, device_model.specs.RtuReads.has_silence}
use Rattle.{device_model.specs.RtuReads.rtu_reads, frame_ending.specs.LiveBytes.before_pause}
use Rattle.{frame_ending.specs.LiveBytes.up_to_byte, line_rules.specs.Crc.crc}
use Rattle.line_rules.specs.{Crc.byte_step, Crc.bit_steps, Crc.bit_step, Endings.ends_in_check}
use Rattle.link_format.specs.NumberedFrame.{NumberedFrame, numbers_of, last_number}
use Rattle.link_box.specs.{Checking.passed, Checking.received_line, Emissions.spoiled}
use Rattle.link_box.specs.{Shapes.kept, Verdicts.verdict_of, Verdicts.checked}
use Rattle.receiver_laws.proofs.Worked.{READ_TEN_REGISTERS, on_line, profile}
use Rattle.receiver_laws.specs.{Accounted.forged, OverUptimes.BoxUptime, OverUptimes.sealed_over}
use Rattle.receiver_laws.specs.OverUptimes.{passed_over_uptimes, bytes_over, ShareDisk, GoOnFrom}
use Rattle.rtu_frame.specs.{Frame.is_frame, Frame.has_right_ending, Rules.rtu_rules}
use Rattle.link_box.specs.Sealing.{judged, link_line, sealed}
use Rattle.sequence_journal.proofs.{FloorLaws.floor_beside, SlotLemmas.held}
use Rattle.sequence_journal.specs.Slots.{slot_bytes, old_slot_bytes, old_number_held, greater}
use Rattle.sequence_journal.specs.Slots.{own_floor, old_floor, floor_of}
use Rattle.sequence_journal.specs.Uptimes.{IsUptime, IsIdle}
use Rattle.sequence_journal.specs.declared.{link.LinkId.LinkId, numbers.TheConstants.LIMIT}
use Rattle.std.proofs.Common.{◌≡◌, ℕ, ◌<◌, ◌≤◌, List, [], ◌∷◌, ◌++◌, Some, IsSomeAnd, take, ◌∙◌}
use Rattle.std.proofs.Common.{None, refl, sym, ap, subst, arith}
use Rattle.{std.specs.Prelude.max, yasir_io.specs.Disks.Slots, yasir_io.specs.Steady.blank_old}
use Rattle.yasir_ticks.specs.Bursts.{bursts_from, with_byte}
use Rattle.yasir_ticks.specs.{Ticks.silent, declared.tick.Tick.Tick}

-- 36 ticks of a device: its request, and silence that is enough for the trailer
abbrev request : List Tick
request = on_line READ_TEN_REGISTERS ++ silent 28

abbrev numbered_at : ℕ → ℕ → NumberedFrame
numbered_at number start = record { number = number; start = start; frame = READ_TEN_REGISTERS }

-- the link of the journals, and slots that hold these numbers for it
abbrev rtu_link : LinkId
rtu_link = record { label = 1; dir = 0; profile = 18 }

abbrev holding : ℕ → ℕ → Slots
holding a b = record { a = slot_bytes a rtu_link; b = slot_bytes b rtu_link; old = blank_old }

abbrev uptime_of : ℕ → List Tick → Slots → BoxUptime
uptime_of floor line image = record { floor = floor; line = line; image = image }

-- The transmitter seals a request, starts anew, and seals the same request.
abbrev first_seal : BoxUptime
first_seal = uptime_of 0 request (holding 0 1)

abbrev second_seal : BoxUptime
second_seal = uptime_of 1 request (holding 2 1)

abbrev link_of : BoxUptime → List Tick
link_of uptime = link_line profile rtu_rules uptime.floor uptime.line

-- One uptime of the receiver hears both packets.
abbrev both_heard : BoxUptime
both_heard = uptime_of 0 (link_of first_seal ++ link_of second_seal) (holding 2 1)

both-sealed : sealed_over profile rtu_rules (first_seal ∷ second_seal ∷ [])
    ≡ numbered_at 1 0 ∷ numbered_at 2 0 ∷ []
unfolding bursts_from with_byte before_pause up_to_byte tick_at judged crc byte_step bit_steps
    bit_step is_frame has_right_ending ends_in_check
both-sealed = refl

both-passed : passed_over_uptimes profile rtu_rules (both_heard ∷ [])
    ≡ numbered_at 1 0 ∷ numbered_at 2 36 ∷ []
unfolding bursts_from with_byte before_pause up_to_byte tick_at judged kept spoiled verdict_of
    checked crc byte_step bit_steps bit_step is_frame has_right_ending ends_in_check
both-passed = refl

none-forged : forged (sealed_over profile rtu_rules (first_seal ∷ second_seal ∷ []))
    (passed_over_uptimes profile rtu_rules (both_heard ∷ [])) ≡ []
unfolding bursts_from with_byte before_pause up_to_byte tick_at judged kept spoiled verdict_of
    checked crc byte_step bit_steps bit_step is_frame has_right_ending ends_in_check
none-forged = refl

both-read : bytes_over rtu_reads profile rtu_rules (both_heard ∷ [])
    ≡ READ_TEN_REGISTERS ∷ READ_TEN_REGISTERS ∷ []
unfolding bursts_from with_byte before_pause up_to_byte tick_at judged kept spoiled verdict_of
    checked crc byte_step bit_steps bit_step is_frame has_right_ending ends_in_check has_silence
both-read = refl

-- If only the frames of the second uptime counted as sealed, the first one's frame would be forged.
first-unknown : forged (sealed profile rtu_rules second_seal.floor second_seal.line)
    (passed profile rtu_rules both_heard.floor both_heard.line) ≡ numbered_at 1 0 ∷ []
unfolding bursts_from with_byte before_pause up_to_byte tick_at judged kept spoiled verdict_of
    checked crc byte_step bit_steps bit_step is_frame has_right_ending ends_in_check
first-unknown = refl

-- ---- The receiver also starts anew, and hears the first link a second time before it hears the
-- other: what has passed before doesn't pass again.

abbrev first_check : BoxUptime
first_check = uptime_of 0 (link_of first_seal) (holding 0 1)

abbrev second_check : BoxUptime
second_check = uptime_of 1 (link_of first_seal ++ link_of second_seal) (holding 2 1)

anew-passed : passed_over_uptimes profile rtu_rules (first_check ∷ second_check ∷ [])
    ≡ numbered_at 1 0 ∷ numbered_at 2 36 ∷ []
unfolding bursts_from with_byte before_pause up_to_byte tick_at judged kept spoiled verdict_of
    checked crc byte_step bit_steps bit_step is_frame has_right_ending ends_in_check
anew-passed = refl

anew-read : bytes_over rtu_reads profile rtu_rules (first_check ∷ second_check ∷ [])
    ≡ READ_TEN_REGISTERS ∷ READ_TEN_REGISTERS ∷ []
unfolding bursts_from with_byte before_pause up_to_byte tick_at judged kept spoiled verdict_of
    checked crc byte_step bit_steps bit_step is_frame has_right_ending ends_in_check has_silence
anew-read = refl

-- ---- These are uptimes over one disk, which begins with the number 0 in both slots.

no-old-number : old_floor (holding 0 0) ≡ None
unfolding old_number_held old_slot_bytes
no-old-number = refl

floor-is : (a b : ℕ) → a ≤ LIMIT → b ≤ LIMIT → floor_of rtu_link (holding a b) ≡ Some (max a b)
floor-is a b a_within b_within =
    let own : own_floor rtu_link (holding a b) ≡ Some (max a b) =
    rw (held a rtu_link a_within, held b rtu_link b_within) refl in
    floor_beside rtu_link (holding a b) (max a b) own
    ∙ ap (λ o. greater (Some (max a b)) o) no-old-number

-- There is no run in between.
no-run : (slots : Slots) → IsIdle rtu_link slots [] slots
no-run slots = record { answers_none = refl; leaves = λ n below. below }

-- an uptime with one frame, which has this number
one-frame : (floor number : ℕ) (begins image : Slots) (frames : List NumberedFrame)
    → floor < number → floor_of rtu_link begins ≡ Some floor → floor_of rtu_link image ≡ Some number
    → frames ≡ numbered_at number 0 ∷ [] → IsUptime rtu_link begins (numbers_of frames) image
one-frame floor number begins image frames above begins_is image_is is =
    let reached : number ≤ number = omega arith in
    subst (λ l. IsUptime rtu_link begins (numbers_of l) image) (sym is) (record {
      floor = floor;
      loads = begins_is;
      rise = (above, tt);
      leaves = subst (λ o. IsSomeAnd o (λ n. number ≤ n)) (sym image_is) reached;
    })

first-sealed : sealed profile rtu_rules 0 request ≡ numbered_at 1 0 ∷ []
unfolding bursts_from with_byte before_pause up_to_byte tick_at judged crc byte_step bit_steps
    bit_step is_frame has_right_ending ends_in_check
first-sealed = refl

second-sealed : sealed profile rtu_rules 1 request ≡ numbered_at 2 0 ∷ []
unfolding bursts_from with_byte before_pause up_to_byte tick_at judged crc byte_step bit_steps
    bit_step is_frame has_right_ending ends_in_check
second-sealed = refl

shared : ShareDisk (sealed profile rtu_rules) rtu_link (holding 0 0) (first_seal ∷ second_seal ∷ [])
shared =
    let at_first : floor_of rtu_link (holding 0 0) ≡ Some 0 =
    floor-is 0 0 (omega arith) (omega arith) in
    let between : floor_of rtu_link (holding 0 1) ≡ Some 1 =
    floor-is 0 1 (omega arith) (omega arith) in
    let at_last : floor_of rtu_link (holding 2 1) ≡ Some 2 =
    floor-is 2 1 (omega arith) (omega arith) in (
      holding 0 0,
      no-run (holding 0 0),
      at_first,
      one-frame 0 1 (holding 0 0) (holding 0 1) (sealed profile rtu_rules 0 request)
          (omega arith) at_first between first-sealed,
      (
        holding 0 1,
        no-run (holding 0 1),
        between,
        one-frame 1 2 (holding 0 1) (holding 2 1) (sealed profile rtu_rules 1 request)
            (omega arith) between at_last second-sealed,
        tt,
      ),
    )

-- ---- If a journal is set back, its uptimes don't go on from one another: the same number comes
-- twice.

set_back : GoOnFrom (sealed profile rtu_rules) 0 (first_seal ∷ first_seal ∷ []) → ⊥
set_back go_on =
    let again : last_number 0 (sealed profile rtu_rules 0 request) ≤ 0 = go_on.1.0 in
    let above : 1 ≤ 0 = subst (λ l. last_number 0 l ≤ 0) first-sealed again in
    absurd (omega (arith, above))

-- ---- Why the device must be at rest when an uptime of the receiver begins: a frame that a byte
-- follows at once, without a trailer, doesn't pass, and the byte leaves with another value. If the
-- receiver stops just before that byte leaves, the device hears silence there, and reads the frame.

abbrev with_byte_behind : List Tick
with_byte_behind = on_line (READ_TEN_REGISTERS ++ 0x00 ∷ []) ++ silent 40

abbrev stopped : List Tick
stopped = received_line profile rtu_rules 0 (take 26 with_byte_behind)

cut_short-passed : passed profile rtu_rules 0 with_byte_behind ≡ []
unfolding bursts_from with_byte before_pause up_to_byte tick_at kept spoiled verdict_of checked crc
    byte_step bit_steps bit_step is_frame has_right_ending ends_in_check
cut_short-passed = refl

cut_short-unread : rtu_reads (received_line profile rtu_rules 0 with_byte_behind) ≡ []
unfolding bursts_from with_byte before_pause up_to_byte tick_at kept spoiled verdict_of checked crc
    byte_step bit_steps bit_step is_frame has_right_ending ends_in_check has_silence
cut_short-unread = refl

cut_short-read : rtu_reads (stopped ++ silent 4)
    ≡ record { start = 18; frame = READ_TEN_REGISTERS } ∷ []
unfolding bursts_from with_byte before_pause up_to_byte tick_at kept spoiled verdict_of checked crc
    byte_step bit_steps bit_step is_frame has_right_ending ends_in_check has_silence
cut_short-read = refl
