-- Worked rows of the definitions: at 1,000 baud and 10 bits a character is 10 ms.
use Rattle.line_rules.specs.Crc.{crc, byte_step, bit_steps, bit_step}
use Rattle.line_rules.specs.Endings.{ends_in_check}
use Rattle.line_stamps.specs.{Parts.character, Places.PlacedByte, Places.placed}
use Rattle.line_stamps.specs.declared.capture.{CaptureByte.CaptureByte, Way.TheVariants.A}
use Rattle.line_stamps.specs.declared.{rate.Rate.Rate, timing.Spacing.Spacing}
use Rattle.line_stamps.specs.declared.timing.Spacing.TheVariants.{ByTime, ByRecord}
use Rattle.rtu_frame.specs.Frame.{is_frame, has_right_ending}
use Rattle.stamp_laws.specs.{Cuts.bytes_of_cut, RecordFrames.records_that_are_frames}
use Rattle.stamp_laws.specs.TimedFrames.{frames_by_time}
use Rattle.std.proofs.Common.{◌≡◌, ℕ, ◌*◌, List, [], ◌∷◌, ◌++◌, map, refl, true, false, lit≤}

abbrev slow : Rate
slow = record {
  baud = 1000;
  bits = 10;
  slowest = lit≤ tt;
  fastest = lit≤ tt;
  fewest_bits = lit≤ tt;
  most_bits = lit≤ tt;
}

abbrev further : List ℕ → List CaptureByte
further bytes = map (λ b. record { way = A; start = 0; first = false; byte = b }) bytes

-- a record, at a time in microseconds
abbrev begun : ℕ → ℕ → List ℕ → List CaptureByte
begun time byte bytes =
    record { way = A; start = 1000 * time; first = true; byte = byte } ∷ further bytes

abbrev places : Spacing → List CaptureByte → List PlacedByte
places spacing cs = placed (record { rate = slow; spacing = spacing; origin = 0 }) cs

abbrev read : List CaptureByte → List (List ℕ)
read cs = map bytes_of_cut (frames_by_time (character slow) (places ByTime cs))

-- a request to read ten registers
abbrev REQUEST : List ℕ
REQUEST = 0x01 ∷ 0x03 ∷ 0x00 ∷ 0x00 ∷ 0x00 ∷ 0x0A ∷ 0xC5 ∷ 0xCD ∷ []

abbrev request : ℕ → List CaptureByte
request time = begun time 0x01 (0x03 ∷ 0x00 ∷ 0x00 ∷ 0x00 ∷ 0x0A ∷ 0xC5 ∷ 0xCD ∷ [])

-- the same request in two records, the second one at this time
abbrev parts : ℕ → List CaptureByte
parts time = begun 0 0x01 (0x03 ∷ 0x00 ∷ []) ++ begun time 0x00 (0x00 ∷ 0x0A ∷ 0xC5 ∷ 0xCD ∷ [])

-- Both the end of the capture and a silence of 3.5 characters end a frame. The first request ends
-- after 80 ms.
rows-end : read (request 0 ++ request 115000) ≡ REQUEST ∷ REQUEST ∷ []
unfolding is_frame has_right_ending ends_in_check crc byte_step bit_steps bit_step
rows-end = refl

-- If the silence is shorter, the two are one part, which isn't a frame.
rows-no-end : read (request 0 ++ request 114999) ≡ []
unfolding is_frame has_right_ending ends_in_check crc byte_step bit_steps bit_step
rows-no-end = refl

-- A silence of 1.5 characters may be inside a frame. The first part ends after 30 ms.
rows-inside : read (parts 45000) ≡ REQUEST ∷ []
unfolding is_frame has_right_ending ends_in_check crc byte_step bit_steps bit_step
rows-inside = refl

-- A silence of more than 1.5 characters inside a frame spoils it.
rows-broken : read (parts 45001) ≡ []
unfolding is_frame has_right_ending ends_in_check crc byte_step bit_steps bit_step
rows-broken = refl

-- Records that are taken for frames are read even if their times overlap.
rows-records : map bytes_of_cut (records_that_are_frames (places ByRecord (request 0 ++ request 70000)))
    ≡ REQUEST ∷ REQUEST ∷ []
unfolding is_frame has_right_ending ends_in_check crc byte_step bit_steps bit_step
rows-records = refl

-- A frame in two records isn't read if each record is taken for a frame.
rows-parts : map bytes_of_cut (records_that_are_frames (places ByRecord (parts 30000))) ≡ []
unfolding is_frame has_right_ending ends_in_check crc byte_step bit_steps bit_step
rows-parts = refl
