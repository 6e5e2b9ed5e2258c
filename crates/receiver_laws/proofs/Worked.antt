-- What Modbus RTU devices read of small lines of the receiver. The tags are a stand-in for those of
-- HMAC.
use Rattle.frame_ending.specs.Laid.{tick_at}
use Rattle.device_model.specs.{Frames.FrameRead, RtuReads.has_silence, RtuReads.rtu_reads}
use Rattle.frame_ending.specs.LiveBytes.{before_pause, up_to_byte}
use Rattle.line_rules.specs.Crc.{crc, byte_step, bit_steps, bit_step}
use Rattle.{line_rules.specs.Endings.ends_in_check, link_format.specs.Profile.Profile}
use Rattle.link_box.specs.{Checking.received_line, Emissions.spoiled, Shapes.kept}
use Rattle.link_box.specs.Verdicts.{verdict_of, checked}
use Rattle.receiver_laws.proofs.Settled.{reads_with}
use Rattle.rtu_frame.specs.{Frame.is_frame, Frame.has_right_ending, Rules.rtu_rules}
use Rattle.std.proofs.Common.{◌≡◌, ℕ, List, [], ◌∷◌, ◌++◌, map, take, replicate, refl}
use Rattle.yasir_ticks.specs.{Bursts.bursts_from, Bursts.with_byte, Ticks.silent}
use Rattle.yasir_ticks.specs.declared.tick.Tick.{Tick, TheVariants.Byte}

-- the stand-in for a tag: twelve bytes made of the number and the frame
abbrev stand_in : ℕ → List ℕ → List ℕ
stand_in number frame = take 12 (number ∷ frame ++ replicate 12 0xEE)

abbrev pub profile : Profile
profile = record { word_len = 2; tag_len = 12; tag = stand_in; limit = 281474976710655 }

abbrev pub on_line : List ℕ → List Tick
on_line x = map (λ b. Byte b) x

-- a request to read ten registers
abbrev pub READ_TEN_REGISTERS : List ℕ
READ_TEN_REGISTERS = 0x01 ∷ 0x03 ∷ 0x00 ∷ 0x00 ∷ 0x00 ∷ 0x0A ∷ 0xC5 ∷ 0xCD ∷ []

-- 25 ticks: the request, the word of number 1, and a tag whose last byte is this one
abbrev packet_ending : ℕ → List Tick
packet_ending last =
    on_line READ_TEN_REGISTERS ++ silent 3
    ++ on_line (0x00 ∷ 0x01 ∷ 0x01 ∷ 0x01 ∷ 0x03 ∷ 0x00 ∷ 0x00 ∷ 0x00 ∷ 0x0A ∷ 0xC5 ∷ 0xCD ∷ 0xEE
    ∷ 0xEE ∷ last ∷ [])

-- what the device is sent for a whole packet and `more` silent ticks of the link, and for a packet
-- with a tag that is wrong in its last bit
abbrev of_packet : ℕ → List Tick
of_packet more = received_line profile rtu_rules 0 (packet_ending 0xEE ++ silent more)

abbrev of_wrong : ℕ → List Tick
of_wrong more = received_line profile rtu_rules 0 (packet_ending 0xEF ++ silent more)

abbrev the_request : List FrameRead
the_request = record { start = 18; frame = READ_TEN_REGISTERS } ∷ []

-- ---- the last byte of the request leaves in tick 25

not_yet : rtu_reads (of_packet 4) ≡ []
unfolding bursts_from with_byte before_pause up_to_byte tick_at kept spoiled verdict_of checked crc
    byte_step bit_steps bit_step is_frame has_right_ending ends_in_check has_silence
not_yet = refl

is_read-now : rtu_reads (of_packet 5) ≡ the_request
unfolding bursts_from with_byte before_pause up_to_byte tick_at kept spoiled verdict_of checked crc
    byte_step bit_steps bit_step is_frame has_right_ending ends_in_check has_silence
is_read-now = refl

-- ---- a device for which two silent ticks end a burst, and two that wait for 18

soon_not_yet : reads_with 2 2 (of_packet 2) ≡ []
unfolding bursts_from with_byte before_pause up_to_byte tick_at kept spoiled verdict_of checked crc
    byte_step bit_steps bit_step is_frame has_right_ending ends_in_check has_silence
soon_not_yet = refl

soon : reads_with 2 2 (of_packet 3) ≡ the_request
unfolding bursts_from with_byte before_pause up_to_byte tick_at kept spoiled verdict_of checked crc
    byte_step bit_steps bit_step is_frame has_right_ending ends_in_check has_silence
soon = refl

late_not_yet : reads_with 18 2 (of_packet 18) ≡ []
unfolding bursts_from with_byte before_pause up_to_byte tick_at kept spoiled verdict_of checked crc
    byte_step bit_steps bit_step is_frame has_right_ending ends_in_check has_silence
late_not_yet = refl

late : reads_with 18 2 (of_packet 19) ≡ the_request
unfolding bursts_from with_byte before_pause up_to_byte tick_at kept spoiled verdict_of checked crc
    byte_step bit_steps bit_step is_frame has_right_ending ends_in_check has_silence
late = refl

late_patient : reads_with 18 18 (of_packet 19) ≡ the_request
unfolding bursts_from with_byte before_pause up_to_byte tick_at kept spoiled verdict_of checked crc
    byte_step bit_steps bit_step is_frame has_right_ending ends_in_check has_silence
late_patient = refl

-- ---- if the tag is wrong, none of these devices reads anything

wrong-unread : rtu_reads (of_wrong 24) ≡ []
unfolding bursts_from with_byte before_pause up_to_byte tick_at kept spoiled verdict_of checked crc
    byte_step bit_steps bit_step is_frame has_right_ending ends_in_check has_silence
wrong-unread = refl

wrong-unread_soon : reads_with 2 2 (of_wrong 24) ≡ []
unfolding bursts_from with_byte before_pause up_to_byte tick_at kept spoiled verdict_of checked crc
    byte_step bit_steps bit_step is_frame has_right_ending ends_in_check has_silence
wrong-unread_soon = refl

wrong-unread_late : reads_with 18 18 (of_wrong 24) ≡ []
unfolding bursts_from with_byte before_pause up_to_byte tick_at kept spoiled verdict_of checked crc
    byte_step bit_steps bit_step is_frame has_right_ending ends_in_check has_silence
wrong-unread_late = refl
