-- When a receiver works again, on links of DNP3. The tags are a stand-in for those of HMAC. A burst
-- can lack 282 bytes, so packets are due from 300 ticks after the first of the silent ticks on. For
-- each condition of the law there is a line on which only that condition doesn't hold, and the
-- packet doesn't pass.
use Rattle.frame_ending.specs.{Laid.tick_at, Walk.Noted}
use Rattle.device_model.specs.{DnpReads.dnp_reads, Hunt.hunt}
use Rattle.dnp_link_frame.specs.Blocks.{room_by, begins_right, is_good_header, end_in_crcs}
use Rattle.dnp_link_frame.specs.Blocks.{block_start, is_frame, has_right_ending}
use Rattle.{dnp_link_frame.specs.Rules.dnp_rules, frame_ending.specs.LiveBytes.before_pause}
use Rattle.{frame_ending.specs.LiveBytes.up_to_byte, line_rules.specs.Crc.crc}
use Rattle.line_rules.specs.{Crc.byte_step, Crc.bit_steps, Crc.bit_step, Endings.ends_in_check}
use Rattle.link_format.specs.{NumberedFrame.NumberedFrame, Profile.Profile}
use Rattle.link_box.specs.Checking.{FullNote, check_notes, received_line}
use Rattle.link_box.specs.Checking.FullNote.{passed_note, refused_note, dropped_note}
use Rattle.link_box.specs.{Emissions.spoiled, Shapes.kept, Verdicts.verdict_of}
use Rattle.link_box.specs.Verdicts.{checked}
use Rattle.link_box.specs.declared.check_note.DroppedWhy.TheVariants.{Busy}
use Rattle.link_box.specs.declared.check_note.RefusedWhy.TheVariants.{Trailer, Form, Number}
use Rattle.link_box.specs.declared.check_note.RefusedWhy.TheVariants.{Tag}
use Rattle.receiver_laws.proofs.Packing.{contiguous-bytes}
use Rattle.receiver_laws.specs.Recovery.{all_sealed, floor_after, BeginsPacket, IsLeftAlone, IsDue}
use Rattle.link_box.specs.Sealing.{judged, link_line}
use Rattle.std.proofs.Common.{◌≡◌, ◌≤◌, ◌<◌, ℕ, List, [], ◌∷◌, ◌++◌, map, take, drop, replicate}
use Rattle.std.proofs.Common.{refl, sym, ap, subst, arith, get_or, ◌∙◌}
use Rattle.std.proofs.lemmas.List.{get_or_past, Elements.All-nil, Elements.All-cons}
use Rattle.std.specs.List.{All, Contains}
use Rattle.yasir_ticks.{proofs.SilenceLaws.get_or-silence, specs.Bursts.Burst, specs.Bursts.bursts}
use Rattle.yasir_ticks.specs.{Bursts.bursts_from, Bursts.with_byte, BurstsOf.one, Ticks.silent}
use Rattle.yasir_ticks.specs.declared.tick.Tick.{Tick, TheVariants.Silent, TheVariants.Byte}

-- the stand-in for a tag: twelve bytes made of the number and the frame
abbrev stand_in : ℕ → List ℕ → List ℕ
stand_in number frame = take 12 (number ∷ frame ++ replicate 12 0xEE)

abbrev profile : Profile
profile = record { word_len = 2; tag_len = 12; tag = stand_in; limit = 281474976710655 }

abbrev on_line : List ℕ → List Tick
on_line x = map (λ b. Byte b) x

-- the reset of a link, and the header of a frame of 292 bytes
abbrev RESET_LINK : List ℕ
RESET_LINK = 0x05 ∷ 0x64 ∷ 0x05 ∷ 0xC0 ∷ 0x01 ∷ 0x00 ∷ 0x00 ∷ 0x04 ∷ 0xE9 ∷ 0x21 ∷ []

abbrev LONG_HEADER : List ℕ
LONG_HEADER = 0x05 ∷ 0x64 ∷ 0xFF ∷ 0xC4 ∷ 0x01 ∷ 0x00 ∷ 0x00 ∷ 0x04 ∷ 0x27 ∷ 0x27 ∷ []

-- 17 ticks: a pause, and the trailer of the reset with a number below 256
abbrev trailing : ℕ → List Tick
trailing number =
    silent 3 ++ on_line (0x00 ∷ number ∷ number ∷ 0x05 ∷ 0x64 ∷ 0x05 ∷ 0xC0 ∷ 0x01 ∷ 0x00 ∷ 0x00
    ∷ 0x04 ∷ 0xE9 ∷ 0x21 ∷ 0xEE ∷ [])

abbrev packet : ℕ → List Tick
packet number = on_line RESET_LINK ++ trailing number

abbrev sealed_at : ℕ → ℕ → NumberedFrame
sealed_at number start = record { number = number; start = start; frame = RESET_LINK }

abbrev noted_at : ℕ → FullNote → Noted FullNote
noted_at tick entry = record { tick = tick; note = entry }

-- what the transmitter seals of a line and what it sends, with this floor at the start
abbrev seals : ℕ → List Tick → List NumberedFrame
seals floor line = all_sealed profile dnp_rules floor line

abbrev sends : ℕ → List Tick → List Tick
sends floor line = link_line profile dnp_rules floor line

-- A link whose first ten ticks are replaced by a long header. The frame of that header never comes:
-- from then on the link is left alone. If ticks 10 to 13 are silent, packets are due from tick 310
-- on.
abbrev behind_header : List Tick → List Tick
behind_header link = on_line LONG_HEADER ++ drop 10 link

-- the receiver's notes of a link, and of a link with a long header at its start
abbrev notes : ℕ → List Tick → List (Noted FullNote)
notes floor link = check_notes profile dnp_rules floor link

abbrev notes_behind : ℕ → List Tick → List (Noted FullNote)
notes_behind floor link = notes floor (behind_header link)

abbrev cut_off : Noted FullNote
cut_off = noted_at 13 (refused_note 0 Trailer)

-- ---- the receiver is busy up to tick 309 with what the burst lacks: a packet in tick 100 is
-- dropped for that reason, and a packet in tick 310, the first in which one is due, passes

abbrev two_frames : List Tick
two_frames =
    silent 100 ++ on_line RESET_LINK ++ silent 200 ++ on_line RESET_LINK ++ silent 24

two_frames-sealed : seals 0 two_frames ≡ sealed_at 1 100 ∷ sealed_at 2 310 ∷ []
unfolding bursts_from with_byte before_pause up_to_byte tick_at judged crc byte_step bit_steps
    bit_step room_by begins_right is_good_header end_in_crcs block_start is_frame has_right_ending
    ends_in_check
two_frames-sealed = refl

two_frames-sent : sends 0 two_frames
    ≡ silent 100 ++ packet 1 ++ silent 183 ++ packet 2 ++ silent 7
unfolding bursts_from with_byte before_pause up_to_byte tick_at judged crc byte_step bit_steps
    bit_step room_by begins_right is_good_header end_in_crcs block_start is_frame has_right_ending
    ends_in_check
two_frames-sent = refl

two_frames-notes : notes_behind 0 (sends 0 two_frames)
    ≡ cut_off ∷ noted_at 100 (dropped_note 100 Busy)
    ∷ noted_at 336 (passed_note 2 310 RESET_LINK) ∷ []
unfolding bursts_from with_byte before_pause up_to_byte tick_at judged crc byte_step bit_steps
    bit_step room_by begins_right is_good_header end_in_crcs block_start is_frame has_right_ending
    ends_in_check kept spoiled verdict_of checked
two_frames-notes = refl

-- ---- a packet that comes 200 ticks later also passes

abbrev long_wait : List Tick
long_wait =
    silent 100 ++ on_line RESET_LINK ++ silent 400 ++ on_line RESET_LINK ++ silent 24

long_wait-notes : notes_behind 0 (sends 0 long_wait)
    ≡ cut_off ∷ noted_at 100 (dropped_note 100 Busy)
    ∷ noted_at 536 (passed_note 2 510 RESET_LINK) ∷ []
unfolding bursts_from with_byte before_pause up_to_byte tick_at judged crc byte_step bit_steps
    bit_step room_by begins_right is_good_header end_in_crcs block_start is_frame has_right_ending
    ends_in_check kept spoiled verdict_of checked
long_wait-notes = refl

-- ---- a device reads the packet that passes, 18 ticks later, and nothing else

two_frames-read : dnp_reads
    (received_line profile dnp_rules 0 (behind_header (sends 0 two_frames)))
    ≡ record { start = 328; frame = RESET_LINK } ∷ []
unfolding bursts_from with_byte before_pause up_to_byte tick_at judged crc byte_step bit_steps
    bit_step room_by begins_right is_good_header end_in_crcs block_start is_frame has_right_ending
    ends_in_check kept spoiled verdict_of checked hunt
two_frames-read = refl

-- ---- one tick earlier no packet is due

abbrev frame_at : ℕ → List Tick
frame_at n = silent n ++ on_line RESET_LINK ++ silent 24

frame_at-sealed : seals 0 (frame_at 310) ≡ sealed_at 1 310 ∷ []
unfolding bursts_from with_byte before_pause up_to_byte tick_at judged crc byte_step bit_steps
    bit_step room_by begins_right is_good_header end_in_crcs block_start is_frame has_right_ending
    ends_in_check
frame_at-sealed = refl

frame_at-sent : sends 0 (frame_at 310) ≡ silent 310 ++ packet 1 ++ silent 7
unfolding bursts_from with_byte before_pause up_to_byte tick_at judged crc byte_step bit_steps
    bit_step room_by begins_right is_good_header end_in_crcs block_start is_frame has_right_ending
    ends_in_check
frame_at-sent = refl

too_soon-notes : notes_behind 0 (sends 0 (frame_at 309))
    ≡ cut_off ∷ noted_at 309 (dropped_note 309 Busy) ∷ []
unfolding bursts_from with_byte before_pause up_to_byte tick_at judged crc byte_step bit_steps
    bit_step room_by begins_right is_good_header end_in_crcs block_start is_frame has_right_ending
    ends_in_check kept spoiled verdict_of checked
too_soon-notes = refl

-- ---- the packet isn't whole when the link ends

abbrev ends_early : List Tick
ends_early = silent 310 ++ on_line RESET_LINK ++ silent 16

ends_early-sealed : seals 0 ends_early ≡ sealed_at 1 310 ∷ []
unfolding bursts_from with_byte before_pause up_to_byte tick_at judged crc byte_step bit_steps
    bit_step room_by begins_right is_good_header end_in_crcs block_start is_frame has_right_ending
    ends_in_check
ends_early-sealed = refl

ends_early-notes : notes_behind 0 (sends 0 ends_early) ≡ cut_off ∷ []
unfolding bursts_from with_byte before_pause up_to_byte tick_at judged crc byte_step bit_steps
    bit_step room_by begins_right is_good_header end_in_crcs block_start is_frame has_right_ending
    ends_in_check kept spoiled verdict_of checked
ends_early-notes = refl

-- ---- the number is 65537 above the receiver's floor, so its word is that of number 1

far-sealed : seals 65536 (frame_at 310) ≡ sealed_at 65537 310 ∷ []
unfolding bursts_from with_byte before_pause up_to_byte tick_at judged crc byte_step bit_steps
    bit_step room_by begins_right is_good_header end_in_crcs block_start is_frame has_right_ending
    ends_in_check
far-sealed = refl

far-notes : notes_behind 0 (sends 65536 (frame_at 310))
    ≡ cut_off ∷ noted_at 336 (refused_note 310 Tag) ∷ []
unfolding bursts_from with_byte before_pause up_to_byte tick_at judged crc byte_step bit_steps
    bit_step room_by begins_right is_good_header end_in_crcs block_start is_frame has_right_ending
    ends_in_check kept spoiled verdict_of checked
far-notes = refl

-- ---- the transmitter's floor is above the greatest number

spent-sealed : seals 281474976710656 (frame_at 310) ≡ sealed_at 281474976710657 310 ∷ []
unfolding bursts_from with_byte before_pause up_to_byte tick_at judged crc byte_step bit_steps
    bit_step room_by begins_right is_good_header end_in_crcs block_start is_frame has_right_ending
    ends_in_check
spent-sealed = refl

spent-notes : notes_behind 281474976710655 (sends 281474976710656 (frame_at 310))
    ≡ cut_off ∷ noted_at 336 (refused_note 310 Number) ∷ []
unfolding bursts_from with_byte before_pause up_to_byte tick_at judged crc byte_step bit_steps
    bit_step room_by begins_right is_good_header end_in_crcs block_start is_frame has_right_ending
    ends_in_check kept spoiled verdict_of checked
spent-notes = refl

-- ---- the receiver has passed this number before

used-notes : notes_behind 1 (sends 0 (frame_at 310))
    ≡ cut_off ∷ noted_at 336 (refused_note 310 Tag) ∷ []
unfolding bursts_from with_byte before_pause up_to_byte tick_at judged crc byte_step bit_steps
    bit_step room_by begins_right is_good_header end_in_crcs block_start is_frame has_right_ending
    ends_in_check kept spoiled verdict_of checked
used-notes = refl

-- ---- a byte of the packet is changed

abbrev changed : List Tick
changed =
    silent 310 ++ on_line RESET_LINK ++ silent 3 ++ on_line (0x00 ∷ 0x01 ∷ 0x01 ∷ 0x05 ∷ 0x64 ∷ 0x05
    ∷ 0xC0 ∷ 0x01 ∷ 0x00 ∷ 0x00 ∷ 0x04 ∷ 0xE9 ∷ 0x21 ∷ 0xEF ∷ []) ++ silent 7

changed-notes : notes_behind 0 changed ≡ cut_off ∷ noted_at 336 (refused_note 310 Tag) ∷ []
unfolding bursts_from with_byte before_pause up_to_byte tick_at judged crc byte_step bit_steps
    bit_step room_by begins_right is_good_header end_in_crcs block_start is_frame has_right_ending
    ends_in_check kept spoiled verdict_of checked
changed-notes = refl

-- ---- no silence when the link is left alone: a packet is sent from tick 2 on, and its last two
-- bytes join the header, one tick later than they might. So the receiver is busy for one more tick

abbrev no_silence : List Tick
no_silence =
    silent 2 ++ on_line (take 8 RESET_LINK) ++ silent 1 ++ on_line (drop 8 RESET_LINK)
    ++ silent 297 ++ on_line RESET_LINK ++ silent 24

no_silence-sealed : seals 0 no_silence ≡ sealed_at 1 2 ∷ sealed_at 2 310 ∷ []
unfolding bursts_from with_byte before_pause up_to_byte tick_at judged crc byte_step bit_steps
    bit_step room_by begins_right is_good_header end_in_crcs block_start is_frame has_right_ending
    ends_in_check
no_silence-sealed = refl

no_silence-notes : notes_behind 0 (sends 0 no_silence)
    ≡ noted_at 29 (refused_note 0 Form) ∷ noted_at 310 (dropped_note 310 Busy) ∷ []
unfolding bursts_from with_byte before_pause up_to_byte tick_at judged crc byte_step bit_steps
    bit_step room_by begins_right is_good_header end_in_crcs block_start is_frame has_right_ending
    ends_in_check kept spoiled verdict_of checked
no_silence-notes = refl

-- ---- a burst that isn't a packet: the device itself sends a long header and stops. Nobody touches
-- the link, from tick 0 on

abbrev device_stops : List Tick
device_stops =
    silent 296 ++ on_line LONG_HEADER ++ silent 4 ++ on_line RESET_LINK ++ silent 24

device_stops-sent : sends 0 device_stops
    ≡ silent 296 ++ on_line LONG_HEADER ++ silent 4 ++ packet 1 ++ silent 7
unfolding bursts_from with_byte before_pause up_to_byte tick_at judged crc byte_step bit_steps
    bit_step room_by begins_right is_good_header end_in_crcs block_start is_frame has_right_ending
    ends_in_check
device_stops-sent = refl

device_stops-notes : notes 0 (sends 0 device_stops)
    ≡ noted_at 309 (refused_note 296 Trailer) ∷ noted_at 310 (dropped_note 310 Busy) ∷ []
unfolding bursts_from with_byte before_pause up_to_byte tick_at judged crc byte_step bit_steps
    bit_step room_by begins_right is_good_header end_in_crcs block_start is_frame has_right_ending
    ends_in_check kept spoiled verdict_of checked
device_stops-notes = refl

-- ---- all conditions of the law together hold for the first of these lines

abbrev their_link : List Tick
their_link = behind_header (sends 0 two_frames)

abbrev burst_of : ℕ → ℕ → Burst
burst_of number start = record { start = start; body = packet number }

two_frames-bursts : bursts (sends 0 two_frames) ≡ burst_of 1 100 ∷ burst_of 2 310 ∷ []
unfolding bursts_from with_byte before_pause up_to_byte tick_at judged crc byte_step bit_steps
    bit_step room_by begins_right is_good_header end_in_crcs block_start is_frame has_right_ending
    ends_in_check
two_frames-bursts = refl

abbrev behind_silence : List Tick
behind_silence = packet 1 ++ silent 183 ++ packet 2 ++ silent 7

two_frames-link : their_link ≡ on_line LONG_HEADER ++ (silent 90 ++ behind_silence)
unfolding bursts_from with_byte before_pause up_to_byte tick_at judged crc byte_step bit_steps
    bit_step room_by begins_right is_good_header end_in_crcs block_start is_frame has_right_ending
    ends_in_check
two_frames-link = refl

two_frames-quiet : (i : ℕ) → 10 ≤ i → i ≤ 13 → get_or their_link i Silent ≡ Silent
two_frames-quiet i after before =
    ap (λ l. get_or l i Silent) two_frames-link
    ∙ (get_or-silence (on_line LONG_HEADER) 90 i behind_silence (omega arith)
    ∙ get_or_past (on_line LONG_HEADER) i Silent (omega arith))

two_frames-floor : floor_after profile dnp_rules 0 (take 14 their_link) ≡ 0
unfolding bursts_from with_byte before_pause up_to_byte tick_at judged crc byte_step bit_steps
    bit_step room_by begins_right is_good_header end_in_crcs block_start is_frame has_right_ending
    ends_in_check kept spoiled verdict_of checked
two_frames-floor = refl

two_frames-begins : (k number start : ℕ) → k < 2
    → get_or (sealed_at 1 100 ∷ sealed_at 2 310 ∷ []) k (sealed_at number start)
    ≡ sealed_at number start
    → BeginsPacket (seals 0 two_frames) (burst_of number start)
two_frames-begins k number start within same =
    let P : List NumberedFrame → Type 0 = λ l. Contains l (sealed_at number start) in
    record {
      frame = sealed_at number start;
      is_sealed = subst P (sym two_frames-sealed) (k, within, same);
      starts = refl;
    }

pub two_frames-alone : IsLeftAlone profile dnp_rules 0 0 two_frames their_link 13
two_frames-alone =
    let P : Burst → Type 0 = λ d. 13 < d.start → BeginsPacket (seals 0 two_frames) d in
    let Q : NumberedFrame → Type 0 = λ f. 13 < f.start
    → floor_after profile dnp_rules 0 (take 14 their_link) < f.number in
    let none = two_frames-floor in
    record {
      untouched = refl;
      quiet = two_frames-quiet;
      packets = subst (λ l. All P l) (sym two_frames-bursts)
          (All-cons P (burst_of 1 100) (burst_of 2 310 ∷ [])
          (λ late. two_frames-begins 0 1 100 (omega arith) refl)
          (All-cons P (burst_of 2 310) []
          (λ late. two_frames-begins 1 2 310 (omega arith) refl) (All-nil P)));
      new = subst (λ l. All Q l) (sym two_frames-sealed)
          (All-cons Q (sealed_at 1 100) (sealed_at 2 310 ∷ []) (λ late. omega arith)
          (All-cons Q (sealed_at 2 310) [] (λ late. omega arith) (All-nil Q)));
    }

pub two_frames-due : IsDue profile dnp_rules 0 0 two_frames their_link 13 282 (sealed_at 2 310)
two_frames-due = record {
  late = omega arith;
  whole = record {
    front = silent 100 ++ packet 1 ++ silent 183;
    body = on_line RESET_LINK;
    back = silent 7;
    is = two_frames-sent;
    begins = refl;
    spells = refl;
    contiguous = contiguous-bytes 2 (drop 1 RESET_LINK) (Byte 0x05 ∷ []) (omega arith) (one 0x05);
  };
  near = omega arith;
}
