-- When a receiver works again, on links of Modbus RTU. The tags are a stand-in for those of HMAC. A
-- burst lacks nothing there, so packets are due from 18 ticks after the first of the silent ticks
-- on.
use Rattle.frame_ending.specs.{Laid.tick_at, Walk.Noted}
use Rattle.device_model.specs.RtuReads.{has_silence, rtu_reads}
use Rattle.frame_ending.specs.LiveBytes.{before_pause, up_to_byte}
use Rattle.line_rules.specs.Crc.{crc, byte_step, bit_steps, bit_step}
use Rattle.line_rules.specs.Endings.{ends_in_check}
use Rattle.link_format.specs.{NumberedFrame.NumberedFrame, Profile.Profile}
use Rattle.link_box.specs.Checking.{FullNote, check_notes, received_line}
use Rattle.link_box.specs.Checking.FullNote.{passed_note, refused_note, dropped_note}
use Rattle.link_box.specs.{Emissions.spoiled, Shapes.kept, Verdicts.verdict_of}
use Rattle.link_box.specs.Verdicts.{checked}
use Rattle.link_box.specs.declared.check_note.DroppedWhy.TheVariants.{Busy}
use Rattle.link_box.specs.declared.check_note.RefusedWhy.TheVariants.{Trailer}
use Rattle.receiver_laws.proofs.Packing.{contiguous-bytes}
use Rattle.receiver_laws.specs.Recovery.{all_sealed, floor_after, BeginsPacket, IsLeftAlone, IsDue}
use Rattle.rtu_frame.specs.{Frame.is_frame, Frame.has_right_ending, Rules.rtu_rules}
use Rattle.link_box.specs.Sealing.{judged, link_line}
use Rattle.std.proofs.Common.{◌≡◌, ◌≤◌, ◌<◌, ℕ, List, [], ◌∷◌, ◌++◌, map, take, drop, replicate}
use Rattle.std.proofs.Common.{refl, sym, ap, subst, arith, get_or, ◌∙◌}
use Rattle.std.proofs.lemmas.List.{get_or_past, Elements.All-nil, Elements.All-cons}
use Rattle.std.specs.List.{All, Contains}
use Rattle.yasir_ticks.{proofs.SilenceLaws.get_or-silence, specs.Bursts.Burst, specs.Bursts.bursts}
use Rattle.yasir_ticks.specs.{Bursts.bursts_from, Bursts.with_byte, BurstsOf.one, Ticks.silent}
use Rattle.yasir_ticks.specs.declared.tick.Tick.{Tick, TheVariants.Silent, TheVariants.Byte}

-- the stand-in for a tag: twelve bytes made of the number and the frame
abbrev stand_in : ℕ → List ℕ → List ℕ
stand_in number frame = take 12 (number ∷ frame ++ replicate 12 0xEE)

abbrev profile : Profile
profile = record { word_len = 2; tag_len = 12; tag = stand_in; limit = 281474976710655 }

abbrev on_line : List ℕ → List Tick
on_line x = map (λ b. Byte b) x

-- a request to read ten registers, and three bytes of another one
abbrev READ_TEN_REGISTERS : List ℕ
READ_TEN_REGISTERS = 0x01 ∷ 0x03 ∷ 0x00 ∷ 0x00 ∷ 0x00 ∷ 0x0A ∷ 0xC5 ∷ 0xCD ∷ []

abbrev BEGUN_REQUEST : List ℕ
BEGUN_REQUEST = 0x01 ∷ 0x06 ∷ 0x00 ∷ []

-- 17 ticks: a pause, and the trailer of the request with a number below 256
abbrev trailing : ℕ → List Tick
trailing number =
    silent 3 ++ on_line (0x00 ∷ number ∷ number ∷ 0x01 ∷ 0x03 ∷ 0x00 ∷ 0x00 ∷ 0x00 ∷ 0x0A ∷ 0xC5
    ∷ 0xCD ∷ 0xEE ∷ 0xEE ∷ 0xEE ∷ [])

abbrev packet : ℕ → List Tick
packet number = on_line READ_TEN_REGISTERS ++ trailing number

abbrev sealed_at : ℕ → ℕ → NumberedFrame
sealed_at number start = record { number = number; start = start; frame = READ_TEN_REGISTERS }

abbrev noted_at : ℕ → FullNote → Noted FullNote
noted_at tick entry = record { tick = tick; note = entry }

-- what the transmitter seals of a line and what it sends, with floor 0 at the start
abbrev seals : List Tick → List NumberedFrame
seals line = all_sealed profile rtu_rules 0 line

abbrev sends : List Tick → List Tick
sends line = link_line profile rtu_rules 0 line

-- A link whose first three ticks are replaced by the first bytes of a request. Its other bytes
-- never come: from then on the link is left alone. If ticks 3 to 6 are silent, packets are due from
-- tick 21 on.
abbrev behind_bytes : List Tick → List Tick
behind_bytes link = on_line BEGUN_REQUEST ++ drop 3 link

abbrev notes_behind : List Tick → List (Noted FullNote)
notes_behind link = check_notes profile rtu_rules 0 (behind_bytes link)

abbrev cut_off : Noted FullNote
cut_off = noted_at 6 (refused_note 0 Trailer)

-- ---- the three bytes leave up to tick 20, with the last of them spoiled: a packet in that tick is
-- dropped, and a packet in tick 21, the first in which one is due, passes

abbrev frame_at : ℕ → List Tick
frame_at n = silent n ++ on_line READ_TEN_REGISTERS ++ silent 24

due-sealed : seals (frame_at 21) ≡ sealed_at 1 21 ∷ []
unfolding bursts_from with_byte before_pause up_to_byte tick_at judged crc byte_step bit_steps
    bit_step is_frame has_right_ending ends_in_check
due-sealed = refl

due-sent : sends (frame_at 21) ≡ silent 21 ++ packet 1 ++ silent 7
unfolding bursts_from with_byte before_pause up_to_byte tick_at judged crc byte_step bit_steps
    bit_step is_frame has_right_ending ends_in_check
due-sent = refl

due-notes : notes_behind (sends (frame_at 21))
    ≡ cut_off ∷ noted_at 45 (passed_note 1 21 READ_TEN_REGISTERS) ∷ []
unfolding bursts_from with_byte before_pause up_to_byte tick_at judged crc byte_step bit_steps
    bit_step is_frame has_right_ending ends_in_check kept spoiled verdict_of checked
due-notes = refl

too_soon-notes : notes_behind (sends (frame_at 20))
    ≡ cut_off ∷ noted_at 20 (dropped_note 20 Busy) ∷ []
unfolding bursts_from with_byte before_pause up_to_byte tick_at judged crc byte_step bit_steps
    bit_step is_frame has_right_ending ends_in_check kept spoiled verdict_of checked
too_soon-notes = refl

-- ---- a device reads the packet that passes, 18 ticks later, and nothing else

due-read : rtu_reads (received_line profile rtu_rules 0 (behind_bytes (sends (frame_at 21))))
    ≡ record { start = 39; frame = READ_TEN_REGISTERS } ∷ []
unfolding bursts_from with_byte before_pause up_to_byte tick_at judged crc byte_step bit_steps
    bit_step is_frame has_right_ending ends_in_check kept spoiled verdict_of checked has_silence
due-read = refl

-- ---- all conditions of the law together hold for this link

abbrev their_link : List Tick
their_link = behind_bytes (sends (frame_at 21))

abbrev the_burst : Burst
the_burst = record { start = 21; body = packet 1 }

due-bursts : bursts (sends (frame_at 21)) ≡ the_burst ∷ []
unfolding bursts_from with_byte before_pause up_to_byte tick_at judged crc byte_step bit_steps
    bit_step is_frame has_right_ending ends_in_check
due-bursts = refl

abbrev behind_silence : List Tick
behind_silence = packet 1 ++ silent 7

due-link : their_link ≡ on_line BEGUN_REQUEST ++ (silent 18 ++ behind_silence)
unfolding bursts_from with_byte before_pause up_to_byte tick_at judged crc byte_step bit_steps
    bit_step is_frame has_right_ending ends_in_check
due-link = refl

due-quiet : (i : ℕ) → 3 ≤ i → i ≤ 6 → get_or their_link i Silent ≡ Silent
due-quiet i after before =
    ap (λ l. get_or l i Silent) due-link
    ∙ (get_or-silence (on_line BEGUN_REQUEST) 18 i behind_silence (omega arith)
    ∙ get_or_past (on_line BEGUN_REQUEST) i Silent (omega arith))

due-floor : floor_after profile rtu_rules 0 (take 7 their_link) ≡ 0
unfolding bursts_from with_byte before_pause up_to_byte tick_at judged crc byte_step bit_steps
    bit_step is_frame has_right_ending ends_in_check kept spoiled verdict_of checked
due-floor = refl

due-begins : BeginsPacket (seals (frame_at 21)) the_burst
due-begins =
    let P : List NumberedFrame → Type 0 = λ l. Contains l (sealed_at 1 21) in
    record {
      frame = sealed_at 1 21;
      is_sealed = subst P (sym due-sealed) (0, omega arith, refl);
      starts = refl;
    }

pub due-alone : IsLeftAlone profile rtu_rules 0 0 (frame_at 21) their_link 6
due-alone =
    let P : Burst → Type 0 = λ d. 6 < d.start → BeginsPacket (seals (frame_at 21)) d in
    let Q : NumberedFrame → Type 0 = λ f. 6 < f.start
    → floor_after profile rtu_rules 0 (take 7 their_link) < f.number in
    let none = due-floor in
    record {
      untouched = refl;
      quiet = due-quiet;
      packets = subst (λ l. All P l) (sym due-bursts)
          (All-cons P the_burst [] (λ late. due-begins) (All-nil P));
      new = subst (λ l. All Q l) (sym due-sealed)
          (All-cons Q (sealed_at 1 21) [] (λ late. omega arith) (All-nil Q));
    }

pub due-due : IsDue profile rtu_rules 0 0 (frame_at 21) their_link 6 0 (sealed_at 1 21)
due-due = record {
  late = omega arith;
  whole = record {
    front = silent 21;
    body = on_line READ_TEN_REGISTERS;
    back = silent 7;
    is = due-sent;
    begins = refl;
    spells = refl;
    contiguous = contiguous-bytes 2 (drop 1 READ_TEN_REGISTERS) (Byte 0x01 ∷ []) (omega arith)
        (one 0x01);
  };
  near = omega arith;
}
