-- The parts of small worked lines: frames of Modbus RTU, and a tag that takes the place of HMAC.
use Rattle.line_rules.specs.{Crc.crc, Headerless.headerless, Rules.Rules}
use Rattle.{link_format.specs.Profile.Profile, std.proofs.Common.ℕ, std.proofs.Common.◌==◌}
use Rattle.std.proofs.Common.{◌&&◌, ◌%◌, nat_le, List, [], ◌∷◌, ◌++◌, length, map, take, replicate}
use Rattle.yasir_ticks.specs.declared.tick.Tick.{Tick, TheVariants.Byte}

-- frames of at most 256 bytes that end in their CRC, which leaves the register at 0
abbrev pub rtu : Rules
rtu = headerless 1 256 (λ x. nat_le 4 (length x) && crc 0xA001 0xFFFF x == 0)
    (λ x. nat_le 2 (length x) && crc 0xA001 0xFFFF x == 0)

-- a tag of this many bytes, made of the number and the frame. The number is taken modulo a prime,
-- so that numbers with the same word have different tags.
abbrev pub stand_in : ℕ → ℕ → List ℕ → List ℕ
stand_in size number frame = take size (number % 251 ∷ frame ++ replicate size 0xEE)

-- a profile with words and tags of this many bytes
abbrev pub profile_with : ℕ → ℕ → Profile
profile_with word_len tag_len = record {
  word_len = word_len;
  tag_len = tag_len;
  tag = stand_in tag_len;
  limit = 281474976710655;
}

abbrev pub on_line : List ℕ → List Tick
on_line x = map (λ b. Byte b) x

-- a request to read ten registers, the same with a wrong last byte, and one to read one register
abbrev pub READ_TEN_REGISTERS : List ℕ
READ_TEN_REGISTERS = 0x01 ∷ 0x03 ∷ 0x00 ∷ 0x00 ∷ 0x00 ∷ 0x0A ∷ 0xC5 ∷ 0xCD ∷ []

abbrev pub SPOILED_REQUEST : List ℕ
SPOILED_REQUEST = 0x01 ∷ 0x03 ∷ 0x00 ∷ 0x00 ∷ 0x00 ∷ 0x0A ∷ 0xC5 ∷ 0xCC ∷ []

abbrev pub READ_ONE_REGISTER : List ℕ
READ_ONE_REGISTER = 0x01 ∷ 0x03 ∷ 0x00 ∷ 0x00 ∷ 0x00 ∷ 0x01 ∷ 0x84 ∷ 0x0A ∷ []
