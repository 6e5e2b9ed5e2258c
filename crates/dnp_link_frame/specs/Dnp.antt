-- Which bytes a value of the rules of the DNP3 link layer represents.
use Rattle.std.specs.Prelude.{◌≡◌, ℕ, ◌+◌, ◌-◌, ◌/◌, ◌≤◌, ◌==◌, ◌&&◌, ◌||◌, nat_le, nat_lt}
use Rattle.std.specs.Prelude.{Bool, List, ◌++◌, length, take, drop}
use Rattle.std.proofs.Common.{arith, ◌∙◌, sym, ⊎_elim}
use Rattle.std.proofs.lemmas.Bool.{cases_lt, le-leb, lt-leb, eq-eqb, ne_eqb}
use Rattle.line_rules.specs.Bytes.{AreBytes}
use Rattle.dnp_link_frame.specs.Crc.{register_of}
use Rattle.dnp_link_frame.specs.Blocks.{length_byte, room_of, ends_in_crc, begins_right}
use Rattle.dnp_link_frame.specs.Blocks.{end_in_crcs, running_block}
use Rattle.dnp_link_frame.specs.Steps.{left_in_block}
use Rattle.dnp_link_frame.specs.declared.dnp.Dnp.{Dnp}

-- whether the header is right as far as it is there
unfoldable pub header_so_far : List ℕ → Bool
header_so_far x = begins_right x && (nat_lt (length x) 10 || ends_in_crc (take 10 x))

-- whether each block of user data after which another byte came ends in its CRC
abbrev pub blocks_so_far : List ℕ → Bool
blocks_so_far x = end_in_crcs ((length x - 11) / 18) (drop 10 x)

-- Holds if `value` keeps, of the bytes `x`: how many there are, LEN, the room, what the block of
-- the last byte lacks and its register, whether the header is right as far as it is there, and
-- whether each block of user data before that of the last byte is.
pub record DnpStandsFor (value : Dnp) (x : List ℕ) : Type 0 where
  pub count : value.len ≡ length x
  pub tells : value.len_byte ≡ length_byte x
  pub room_is : value.room ≡ room_of x
  pub lacks : value.block_left ≡ left_in_block (length x)
  pub check : value.register ≡ register_of (running_block x)
  pub header : value.header_right ≡ header_so_far x
  pub blocks : value.blocks_right ≡ blocks_so_far x
  pub short : length x ≤ room_of x
  pub bytes : AreBytes x

-- Holds if `new` represents the bytes that `old` does, followed by `run`, and has the same room.
pub record Appends (old new : Dnp) (run : List ℕ) : Type 0 where
  pub stands : (x : List ℕ) → DnpStandsFor old x → DnpStandsFor new (x ++ run)
  pub count : new.len ≡ old.len + length run
  pub same_room : new.room ≡ old.room

-- whether the value says that its room is full
abbrev pub is_full_dnp : Dnp → Bool
is_full_dnp value = nat_le value.room value.len

-- the value says that its room is full exactly if there are as many bytes as have room
pub dnp_fullness : (value : Dnp) (x : List ℕ) → DnpStandsFor value x
    → is_full_dnp value ≡ (length x == room_of x)
dnp_fullness value x stands =
    let count = stands.count in
    let room = stands.room_is in
    let short = stands.short in
    ⊎_elim
    (λ below. lt-leb value.room value.len below
    ∙ sym (ne_eqb (length x) (room_of x) (λ all. omega arith)))
    (λ full. le-leb value.room value.len full
    ∙ sym (eq-eqb (length x) (room_of x) (omega arith)))
    (cases_lt value.len value.room)

pub dnp_bytes : (value : Dnp) (x : List ℕ) → DnpStandsFor value x → AreBytes x
dnp_bytes value x stands = stands.bytes

pub dnp_within : (value : Dnp) (x : List ℕ) → DnpStandsFor value x → length x ≤ room_of x
dnp_within value x stands = stands.short
