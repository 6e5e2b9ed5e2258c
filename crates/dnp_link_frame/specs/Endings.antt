-- Good headers and right endings, in the words of the standard.
use Rattle.std.specs.Prelude.{◌≡◌, ℕ, zero, suc, ◌+◌, ◌*◌, ◌≤◌, List, length, drop}
use Rattle.line_rules.specs.Endings.{EndsInCheck}
use Rattle.dnp_link_frame.specs.Crc.{crc_dnp}
use Rattle.dnp_link_frame.specs.Frame.{with_crc, blocks_for, header_fields, IsHeader}
use Rattle.dnp_link_frame.specs.Blocks.{length_byte, user_len_by, size_by}
use Rattle.dnp_link_frame.specs.declared.header.Header.{Header}

-- Holds if the bytes are the header of some frame.
pub record IsGoodHeader (x : List ℕ) : Type 0 where
  pub header : Header
  pub header_fits : IsHeader header
  pub user_len : ℕ
  pub user_fits : user_len ≤ 250
  pub is : x ≡ with_crc (header_fields header user_len)

-- the last block of user data of a frame with this many blocks, or its header if it has none
abbrev pub last_part : ℕ → List ℕ → List ℕ
last_part zero x = x
last_part (suc n) x = drop (10 + 18 * n) x

-- Holds if there are as many bytes as LEN says, and the last two are the CRC of the last block or,
-- if there is none, of the header.
pub record HasRightDnpEnding (x : List ℕ) : Type 0 where
  pub len_is_right : 5 ≤ length_byte x
  pub size_is : length x ≡ size_by (length_byte x)
  pub ends_in_crc : EndsInCheck crc_dnp (last_part (blocks_for (user_len_by (length_byte x))) x)
