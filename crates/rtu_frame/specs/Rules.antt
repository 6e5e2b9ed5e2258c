-- Modbus RTU as the rules of a line: any burst has room for 256 bytes, and there is no header.
use Rattle.std.specs.Prelude.{◌≡◌, ℕ, ◌≤◌, ◌&&◌, nat_le, true, false, List, [], ◌∷◌, ◌++◌}
use Rattle.std.specs.Prelude.{length, bit_xor, refl}
use Rattle.std.proofs.Common.{arith}
use Rattle.std.proofs.lemmas.Bool.{and_parts, and_right, leb-true}
use Rattle.line_rules.specs.Rules.{Rules}
use Rattle.line_rules.specs.RulesLaws.{IsLawful, IsHeaded, IsFramed, IsFilling, HasNumbers}
use Rattle.line_rules.specs.Headerless.{headerless, headerless-lawful, headerless-headed}
use Rattle.line_rules.specs.Headerless.{headerless-framed, headerless-filling}
use Rattle.line_rules.specs.Endings.{ends_in_check-turned}
use Rattle.line_rules.specs.Spoiling.{IsSpoiling, spoiling_by_ending}
use Rattle.rtu_frame.specs.Crc.{crc_rtu}
use Rattle.rtu_frame.specs.Frame.{is_frame, has_right_ending}

-- the rules of Modbus RTU: the label is 1, a frame has up to 256 bytes, and no header
abbrev pub rtu_rules : Rules
rtu_rules = headerless 1 256 is_frame has_right_ending

-- a frame has 4 to 256 bytes
is_frame-length : (frame : List ℕ) → is_frame frame ≡ true
    → (4 ≤ length frame) × (length frame ≤ 256)
unfolding is_frame
is_frame-length frame framed =
    let ends = and_parts _ _ framed in
    let lengths = and_parts _ _ ends.0 in
    (leb-true 4 (length frame) lengths.0, leb-true (length frame) 256 lengths.1)

-- bytes with a wrong ending are no frame
is_frame-wrong : (x : List ℕ) → has_right_ending x ≡ false → is_frame x ≡ false
unfolding is_frame
is_frame-wrong x wrong =
    and_right (nat_le 4 (length x) && nat_le (length x) 256) (has_right_ending x) wrong

-- a right ending whose last byte has its lowest bit turned is no right ending any more
has_right_ending-turned : (h : List ℕ) (c : ℕ) → has_right_ending (h ++ c ∷ []) ≡ true
    → has_right_ending (h ++ bit_xor c 1 ∷ []) ≡ false
unfolding has_right_ending
has_right_ending-turned h c right = ends_in_check-turned crc_rtu h c right

pub rtu_lawful : IsLawful rtu_rules
rtu_lawful = headerless-lawful 1 256 is_frame has_right_ending (omega arith)

pub rtu_headed : IsHeaded rtu_rules
rtu_headed = headerless-headed 1 256 is_frame has_right_ending

pub rtu_framed : IsFramed rtu_rules
rtu_framed = headerless-framed 1 256 is_frame has_right_ending
    (λ frame framed. let lengths = is_frame-length frame framed in (omega arith, lengths.1))

pub rtu_filling : IsFilling rtu_rules
rtu_filling = headerless-filling 1 256 is_frame has_right_ending

pub rtu_spoiling : IsSpoiling rtu_rules
rtu_spoiling = spoiling_by_ending rtu_rules (λ h c. refl) is_frame-wrong has_right_ending-turned

pub rtu_numbers : HasNumbers rtu_rules 256 1
rtu_numbers = record { longest_is = refl; label_is = refl }
