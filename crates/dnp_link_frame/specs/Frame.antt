-- Frames of the DNP3 link layer (IEEE 1815): a header, and the user data in blocks. The header and
-- each block end in their CRC.
use Rattle.std.specs.Prelude.{◌≡◌, ℕ, zero, suc, ◌+◌, ◌/◌, ◌^◌, ◌<◌, ◌≤◌, List, [], ◌∷◌, ◌++◌}
use Rattle.std.specs.Prelude.{length, take, drop}
use Rattle.line_rules.specs.Bytes.{AreBytes, low_first}
use Rattle.dnp_link_frame.specs.Crc.{crc_dnp}
use Rattle.dnp_link_frame.specs.declared.header.Header.{Header}

-- bytes, and then their CRC, low byte first
abbrev pub with_crc : List ℕ → List ℕ
with_crc x = x ++ low_first (crc_dnp x)

-- how many blocks of 16 bytes this many bytes of user data take, the last of which may be shorter
abbrev pub blocks_for : ℕ → ℕ
blocks_for user_len = (user_len + 15) / 16

-- user data in this many blocks, each with its CRC
unfoldable pub in_blocks : ℕ → List ℕ → List ℕ
in_blocks zero user = []
in_blocks (suc n) user = with_crc (take 16 user) ++ in_blocks n (drop 16 user)

-- 05 64, LEN, control, destination and source. LEN counts the bytes from control on, without CRCs.
abbrev pub header_fields : Header → ℕ → List ℕ
header_fields header user_len =
    (0x05 ∷ 0x64 ∷ (user_len + 5) ∷ header.control ∷ low_first header.destination)
    ++ low_first header.source

-- the frame of this header and this user data
abbrev pub frame_of : Header → List ℕ → List ℕ
frame_of header user =
    with_crc (header_fields header (length user)) ++ in_blocks (blocks_for (length user)) user

-- Holds if each field of the header fits in its bits.
pub record IsHeader (header : Header) : Type 0 where
  pub control_fits : header.control < 2 ^ 8
  pub destination_fits : header.destination < 2 ^ 16
  pub source_fits : header.source < 2 ^ 16

-- Holds if `frame` is the frame of this header and of this user data, of which there are up to 250
-- bytes.
pub record IsFrameOf (header : Header) (user frame : List ℕ) : Type 0 where
  pub header_fits : IsHeader header
  pub user_bytes : AreBytes user
  pub user_fits : length user ≤ 250
  pub is : frame ≡ frame_of header user

-- Holds if these bytes are the frame of some header and some user data.
pub record IsDnpFrame (frame : List ℕ) : Type 0 where
  pub header : Header
  pub user : List ℕ
  pub of : IsFrameOf header user frame

-- Holds if some frame begins with these bytes.
pub record BeginsFrame (x : List ℕ) : Type 0 where
  pub rest : List ℕ
  pub whole : IsDnpFrame (x ++ rest)

-- Holds if the first `place` bytes are the longest front of `x` with which some frame begins.
pub record IsLongestBeginning (x : List ℕ) (place : ℕ) : Type 0 where
  pub within : place ≤ length x
  pub begins : BeginsFrame (take place x)
  pub longest : (n : ℕ) → place < n → n ≤ length x → BeginsFrame (take n x) → ⊥
