-- What a list of bytes shows of the frame that it begins: its size, its header, its blocks.
use Rattle.std.specs.Prelude.{ℕ, zero, suc, ◌+◌, ◌-◌, ◌*◌, ◌/◌, ◌==◌, ◌&&◌, nat_le}
use Rattle.std.specs.Prelude.{Bool, true, List, length, take, drop, get_or, if◌then◌else◌}
use Rattle.dnp_link_frame.specs.Crc.{crc_dnp}
use Rattle.line_rules.specs.Endings.{ends_in_check}
use Rattle.dnp_link_frame.specs.Frame.{blocks_for}

-- ---- sizes

-- LEN, the third byte, or 0 if it isn't there
abbrev pub length_byte : List ℕ → ℕ
length_byte x = get_or x 2 0

-- how many bytes the user data has
abbrev pub user_len_by : ℕ → ℕ
user_len_by len = len - 5

-- how many bytes a frame with this LEN has: header, user data, and the CRC of each block
abbrev pub size_by : ℕ → ℕ
size_by len = 10 + user_len_by len + 2 * blocks_for (user_len_by len)

-- for how many bytes there is room: as many as LEN says, or as many as the longest frame has, if
-- LEN isn't there or is below 5
unfoldable pub room_by : ℕ → ℕ
room_by len = if nat_le 5 len then size_by len else 292

-- for how many bytes there is room in a burst that begins with these
abbrev pub room_of : List ℕ → ℕ
room_of x = room_by (length_byte x)

-- ---- the header

abbrev pub ends_in_crc : List ℕ → Bool
ends_in_crc x = ends_in_check crc_dnp x

-- whether the first three bytes, as far as they are there, are 05 64 and a LEN of at least 5
unfoldable pub begins_right : List ℕ → Bool
begins_right x = get_or x 0 0x05 == 0x05 && get_or x 1 0x64 == 0x64 && nat_le 5 (get_or x 2 5)

unfoldable pub is_good_header : List ℕ → Bool
is_good_header x = length x == 10 && begins_right x && ends_in_crc x

-- ---- the blocks after the header

-- whether each of the first `n` blocks of 18 bytes, of which the last may be shorter, ends in its
-- CRC
unfoldable pub end_in_crcs : ℕ → List ℕ → Bool
end_in_crcs zero x = true
end_in_crcs (suc n) x = ends_in_crc (take 18 x) && end_in_crcs n (drop 18 x)

-- where the block of the last of `n` bytes begins; the header counts as a block here
unfoldable pub block_start : ℕ → ℕ
block_start n = if nat_le n 10 then 0 else 10 + 18 * ((n - 11) / 18)

-- the bytes of the block that the last byte belongs to
abbrev pub running_block : List ℕ → List ℕ
running_block x = drop (block_start (length x)) x

-- ---- frames

-- whether the bytes are a frame: a good header, as many bytes as LEN says, and blocks that each end
-- in their CRC
unfoldable pub is_frame : List ℕ → Bool
is_frame x =
    is_good_header (take 10 x)
    && length x == size_by (length_byte x)
    && end_in_crcs (blocks_for (user_len_by (length_byte x))) (drop 10 x)

-- whether there are as many bytes as LEN says, and the last two are the CRC of their block
unfoldable pub has_right_ending : List ℕ → Bool
has_right_ending x =
    nat_le 5 (length_byte x)
    && length x == size_by (length_byte x)
    && ends_in_crc (running_block x)
