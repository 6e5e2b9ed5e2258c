-- Every case of the tables is right: the definitions are computed at each of them.
use Rattle.dnp_link_frame.specs.Beginnings.{user_in_blocks}
use Rattle.rtu_frame.specs.Crc.{bit_step, bit_steps, byte_step, crc}
use Rattle.rtu_frame.specs.Frame.{is_frame, has_right_ending}
use Rattle.std.proofs.Common.{◌≡◌, Ok, length, refl}
use Rattle.dnp_link_frame.specs.Blocks as dnp
use Rattle.link_format.proofs.StandardFacts.{hmac_of_hi_there, hmac_of_jefe, hmac_of_fifty_bytes}
use Rattle.link_format.proofs.StandardFacts.{tag_of_test_with_truncation, hmac_under_a_long_key}
use Rattle.link_format.proofs.StandardFacts.{hmac_256_of_hi_there, hmac_256_of_jefe}
use Rattle.{line_rules.specs.Endings.ends_in_check, vectors.specs.Cases.answer}
use Rattle.vectors.specs.Tables.{crc_cases, hmac_cases, frames_cases, user_cases}

pub crc_rows : (length crc_cases ≡ 4) × (answer crc_cases ≡ Ok tt)
unfolding bit_step bit_steps byte_step crc answer crc_cases
crc_rows = (refl, refl)

pub hmac_rows : (length hmac_cases ≡ 7) × (answer hmac_cases ≡ Ok tt)
unfolding answer hmac_cases
hmac_rows = (
  refl,
  rw (
    hmac_of_hi_there,
    hmac_of_jefe,
    hmac_of_fifty_bytes,
    tag_of_test_with_truncation,
    hmac_under_a_long_key,
    hmac_256_of_hi_there,
    hmac_256_of_jefe,
  ),
)

pub frames_rows : (length frames_cases ≡ 7) × (answer frames_cases ≡ Ok tt)
unfolding bit_step bit_steps byte_step crc is_frame has_right_ending ends_in_check dnp.begins_right
    dnp.is_good_header dnp.end_in_crcs dnp.is_frame answer frames_cases
frames_rows = (refl, refl)

pub user_rows : (length user_cases ≡ 2) × (answer user_cases ≡ Ok tt)
unfolding bit_step bit_steps byte_step crc ends_in_check dnp.begins_right dnp.is_good_header
    dnp.end_in_crcs dnp.is_frame user_in_blocks answer user_cases
user_rows = (refl, refl)
