-- Which bytes a value of the rules of Modbus RTU represents.
use Rattle.std.specs.Prelude.{◌≡◌, ℕ, ◌≤◌, ◌==◌, nat_le, Bool, List, length}
use Rattle.std.proofs.Common.{arith, ◌∙◌, sym, ⊎_elim}
use Rattle.std.proofs.lemmas.Bool.{cases_lt, le-leb, lt-leb, eq-eqb, ne_eqb}
use Rattle.line_rules.specs.Bytes.{AreBytes}
use Rattle.rtu_frame.specs.Crc.{crc_rtu}
use Rattle.rtu_frame.specs.declared.rtu.Rtu.{Rtu}

-- Holds if `value` keeps the number of the bytes `x`, of which there are at most 256, and their
-- CRC.
pub record RtuStandsFor (value : Rtu) (x : List ℕ) : Type 0 where
  pub count : value.len ≡ length x
  pub check : value.register ≡ crc_rtu x
  pub short : length x ≤ 256
  pub bytes : AreBytes x

-- whether the value says that its room is full
abbrev pub is_full_rtu : Rtu → Bool
is_full_rtu value = nat_le 256 value.len

-- the value says that its room is full exactly if there are 256 bytes
pub rtu_fullness : (value : Rtu) (x : List ℕ) → RtuStandsFor value x
    → is_full_rtu value ≡ (length x == 256)
rtu_fullness value x stands =
    let count = stands.count in
    let short = stands.short in
    ⊎_elim
    (λ below. lt-leb 256 value.len below ∙ sym (ne_eqb (length x) 256 (λ all. omega arith)))
    (λ full. le-leb 256 value.len full ∙ sym (eq-eqb (length x) 256 (omega arith)))
    (cases_lt value.len 256)

pub rtu_bytes : (value : Rtu) (x : List ℕ) → RtuStandsFor value x → AreBytes x
rtu_bytes value x stands = stands.bytes

pub rtu_within : (value : Rtu) (x : List ℕ) → RtuStandsFor value x → length x ≤ 256
rtu_within value x stands = stands.short
