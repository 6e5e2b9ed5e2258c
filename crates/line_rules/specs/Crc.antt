-- The cyclic redundancy check of 16 bits whose register is shifted right, for a polynomial and a
-- first register. Modbus over Serial Line V1.02 has the polynomial A001 and the first register
-- FFFF. IEEE 1815 (DNP3) has the polynomial A6BC and the first register 0.
use Rattle.std.specs.Prelude.{ℕ, zero, suc, ◌/◌, ◌%◌, ◌==◌, bit_xor, List, [], ◌∷◌, if◌then◌else◌}

-- The register is shifted right by one bit, and then xored with the polynomial if the bit that was
-- shifted out was 1.
unfoldable pub bit_step : ℕ → ℕ → ℕ
bit_step polynomial register =
    if register % 2 == 1 then bit_xor (register / 2) polynomial else register / 2

-- the register after this many bit steps
unfoldable pub bit_steps : ℕ → ℕ → ℕ → ℕ
bit_steps polynomial zero register = register
bit_steps polynomial (suc n) register = bit_steps polynomial n (bit_step polynomial register)

-- A byte is xored into the low byte of the register, which then takes eight steps.
unfoldable pub byte_step : ℕ → ℕ → ℕ → ℕ
byte_step polynomial register byte = bit_steps polynomial 8 (bit_xor register byte)

-- the register after these bytes
unfoldable pub crc : ℕ → ℕ → List ℕ → ℕ
crc polynomial register [] = register
crc polynomial register (byte ∷ bytes) = crc polynomial (byte_step polynomial register byte) bytes
