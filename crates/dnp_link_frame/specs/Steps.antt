-- What one more byte does to what is kept of the bytes so far. The functions take how many bytes
-- came before it (`n`), what was kept, and the byte.
use Rattle.std.specs.Prelude.{ℕ, ◌-◌, ◌%◌, ◌==◌, ◌&&◌, nat_le, nat_lt, Bool, true}
use Rattle.std.specs.Prelude.{if◌then◌else◌}
use Rattle.line_rules.specs.Crc.{byte_step}
use Rattle.line_rules.specs.declared.head.Head.{Head}
use Rattle.line_rules.specs.declared.head.Head.TheVariants.{Short, Good, Bad}
use Rattle.dnp_link_frame.specs.Blocks.{size_by}

-- the register after bytes that end in their CRC
abbrev pub residue : ℕ
residue = 0x66C5

-- whether the byte after the first `n` is the first of a block of user data
abbrev pub begins_block : ℕ → Bool
begins_block n = nat_le 10 n && (n - 10) % 18 == 0

-- how many more bytes, after the first `n`, belong to the block of user data that has begun
abbrev pub left_in_block : ℕ → ℕ
left_in_block n = (18 - (n - 10) % 18) % 18

-- the register, before the byte, of the block that the byte belongs to
abbrev pub register_before : ℕ → ℕ → ℕ
register_before n register = if begins_block n then 0 else register

-- the register, after the byte, of the block that the byte belongs to
abbrev pub register_after : ℕ → ℕ → ℕ → ℕ
register_after n register byte =
    if begins_block n then byte_step 0xA6BC 0 byte else byte_step 0xA6BC register byte

-- whether a header may have this byte after the first `n`; `register` is the one after the byte
abbrev pub fits_header : ℕ → ℕ → ℕ → Bool
fits_header n register byte =
    if n == 0 then byte == 0x05
    else if n == 1 then byte == 0x64
    else if n == 2 then nat_le 5 byte
    else if n == 9 then register == residue
    else true

-- whether a header is right: `first` says whether its first byte is, `second` and `len` are the
-- next two bytes, and `register` is the one after all ten
abbrev pub is_header : Bool → ℕ → ℕ → ℕ → Bool
is_header first second len register =
    first && second == 0x64 && nat_le 5 len && register == residue

-- what is known of a header after `n` bytes; `right` says whether it is right so far
abbrev pub head_by : ℕ → Bool → Head
head_by n right = if nat_lt n 10 then Short else if right then Good else Bad

-- whether each block of user data before the one of the byte ends in its CRC; `register` is the one
-- before the byte
abbrev pub blocks_after : ℕ → Bool → ℕ → Bool
blocks_after n right register =
    if begins_block n && nat_lt 10 n then right && register == residue else right

-- what `blocks_after` is if the byte begins a block
abbrev pub blocks_at_beginning : ℕ → Bool → ℕ → Bool
blocks_at_beginning n right register = if nat_lt 10 n then right && register == residue else right

-- LEN after the byte; the byte itself is LEN if two bytes came before it
abbrev pub len_byte_after : ℕ → ℕ → ℕ → ℕ
len_byte_after n len byte = if n == 2 then byte else len

-- whether `n` bytes are a frame: `len` is their LEN, `header_right` says whether the header is
-- right, `blocks_right` whether each block before the one of the last byte is, and `register` is
-- that of the last byte's block
abbrev pub is_whole : ℕ → ℕ → Bool → Bool → ℕ → Bool
is_whole n len header_right blocks_right register =
    n == size_by len && header_right && blocks_right && register == residue

-- whether `n` bytes have a right ending: `len` is their LEN, and `register` that of the last byte's
-- block
abbrev pub ends_right : ℕ → ℕ → ℕ → Bool
ends_right n len register = nat_le 5 len && n == size_by len && register == residue
