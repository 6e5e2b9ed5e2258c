-- How many bytes at the beginning of a list are right: as a part with its CRC, as the blocks of
-- user data, or as a frame.
use Rattle.std.specs.Prelude.{ℕ, zero, suc, ◌+◌, ◌-◌, ◌*◌, ◌/◌, ◌%◌, ◌==◌, ◌&&◌, nat_le, nat_lt}
use Rattle.std.specs.Prelude.{List, [], ◌++◌, length, take, drop, get_or, min}
use Rattle.std.specs.Prelude.{if◌then◌else◌}
use Rattle.dnp_link_frame.specs.Crc.{crc_dnp}
use Rattle.dnp_link_frame.specs.Frame.{blocks_for}
use Rattle.dnp_link_frame.specs.Blocks.{length_byte, user_len_by}
use Rattle.dnp_link_frame.specs.declared.header.Header.{Header}

-- how many of the first three bytes are right, as 05 64 and a LEN of at least 5
unfoldable pub right_in_start : List ℕ → ℕ
right_in_start x =
    if get_or x 0 0 == 0x05 then
    (if get_or x 1 0 == 0x64 then (if nat_le 5 (length_byte x) then 3 else 2) else 1)
    else 0

-- how many of the first bytes are right, as `n` bytes of any value and then their CRC
unfoldable pub right_in_part : ℕ → List ℕ → ℕ
right_in_part n x =
    if nat_le (length x) n then length x
    else if get_or x n 0 == crc_dnp (take n x) % 256 then
    (if nat_lt (n + 1) (length x) && get_or x (n + 1) 0 == crc_dnp (take n x) / 256
    then n + 2 else n + 1)
    else n

-- how many of the first bytes are right, as `n` blocks with `user_len` bytes of user data and a CRC
-- for each block
unfoldable pub right_in_blocks : ℕ → ℕ → List ℕ → ℕ
right_in_blocks zero user_len x = 0
right_in_blocks (suc n) user_len x =
    if right_in_part (min 16 user_len) x == min 16 user_len + 2
    then min 16 user_len + 2 + right_in_blocks n (user_len - 16) (drop 18 x)
    else right_in_part (min 16 user_len) x

-- how many of the first bytes are right, as a frame
unfoldable pub right_in_frame : List ℕ → ℕ
right_in_frame x =
    if nat_lt (right_in_start x) 3 then right_in_start x
    else if right_in_part 8 x == 10
    then 10 + right_in_blocks (blocks_for (user_len_by (length_byte x)))
    (user_len_by (length_byte x)) (drop 10 x)
    else right_in_part 8 x

-- the user data of `n` blocks: each block of up to 18 bytes without its CRC
unfoldable pub user_in_blocks : ℕ → List ℕ → List ℕ
user_in_blocks zero x = []
user_in_blocks (suc n) x = take (min 18 (length x) - 2) x ++ user_in_blocks n (drop 18 x)

-- the user data of a frame
abbrev pub user_in : List ℕ → List ℕ
user_in x = user_in_blocks (blocks_for (user_len_by (length_byte x))) (drop 10 x)

-- the header of a frame
abbrev pub header_in : List ℕ → Header
header_in x = record {
  control = get_or x 3 0;
  destination = get_or x 4 0 + 256 * get_or x 5 0;
  source = get_or x 6 0 + 256 * get_or x 7 0;
}
