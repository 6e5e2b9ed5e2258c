-- A device can hunt by the rules of the DNP3 link layer.
use Rattle.std.specs.Prelude.{◌≡◌, ℕ, suc, ◌≤◌, ◌==◌, ◌&&◌, nat_le, true, false, List, []}
use Rattle.std.specs.Prelude.{◌∷◌, ◌++◌, length, get_or}
use Rattle.std.proofs.Common.{arith, ◌∙◌, sym, ap, refl}
use Rattle.std.proofs.lemmas.Bool.{and_parts, and_from, eq-eqb, le-leb, eqb-true}
use Rattle.std.proofs.lemmas.Bool.{false_from_ne_true, false≢true}
use Rattle.dnp_link_frame.specs.Blocks.{length_byte, size_by, room_by, room_of, ends_in_crc}
use Rattle.dnp_link_frame.specs.Blocks.{begins_right, is_good_header, running_block}
use Rattle.dnp_link_frame.specs.Blocks.{has_right_ending}
use Rattle.dnp_link_frame.specs.BlockLaws.{room_by-right, length_byte-append}
use Rattle.dnp_link_frame.specs.BlockLaws.{is_good_header-begins, running_block-header}
use Rattle.dnp_link_frame.specs.Rules.{dnp_rules}
use Rattle.dnp_link_frame.specs.RulesLaws.{dnp_spoiling}
use Rattle.device_model.specs.Hunt.{begins}
use Rattle.device_model.specs.HuntLaws.{IsHunted}

-- a good header begins with 05 64
begins-by : (x : List ℕ) → length x ≡ 10 → begins_right x ≡ true → begins 0x05 0x64 x ≡ true
unfolding begins_right
begins-by [] ten right = absurd (omega arith)
begins-by (a ∷ []) ten right = absurd (omega arith)
begins-by (a ∷ b ∷ x) ten right =
    (and_parts (a == 0x05 && b == 0x64) (nat_le 5 (get_or (a ∷ b ∷ x) 2 5)) right).0

good-begins : (x : List ℕ) → is_good_header x ≡ true → begins 0x05 0x64 x ≡ true
unfolding is_good_header
good-begins x good =
    let front = (and_parts (length x == 10 && begins_right x) (ends_in_crc x) good).0 in
    let both = and_parts (length x == 10) (begins_right x) front in
    begins-by x (eqb-true (length x) 10 both.0) both.1

says-size : (x more : List ℕ) → length x ≡ 10 → is_good_header x ≡ true
    → size_by (length_byte (x ++ more)) ≡ size_by (length_byte x)
says-size x more ten good = ap size_by (length_byte-append x more (omega arith))

says-room : (x more : List ℕ) → length x ≡ 10 → is_good_header x ≡ true
    → room_of (x ++ more) ≡ size_by (length_byte x)
says-room x more ten good =
    ap room_by (length_byte-append x more (omega arith))
    ∙ room_by-right (length_byte x) (is_good_header-begins x good).1

-- a good header that is a frame by itself has a right ending
header-ends : (x : List ℕ) → is_good_header x ≡ true → size_by (length_byte x) ≡ 10
    → has_right_ending x ≡ true
unfolding has_right_ending
header-ends x good bare =
    let begin = is_good_header-begins x good in
    let ten : length x ≡ 10 = begin.0 in
    and_from (nat_le 5 (length_byte x) && length x == size_by (length_byte x))
    (ends_in_crc (running_block x))
    (and_from (nat_le 5 (length_byte x)) (length x == size_by (length_byte x))
    (le-leb 5 (length_byte x) begin.1)
    (eq-eqb (length x) (size_by (length_byte x)) (ten ∙ sym bare)))
    (ap ends_in_crc (running_block-header x (omega arith)) ∙ begin.2)

-- a good header that is a frame by itself isn't good any more if its last byte is spoiled
spoiled-header : (h : List ℕ) (c : ℕ) → suc (length h) ≡ 10
    → is_good_header (h ++ c ∷ []) ≡ true → size_by (length_byte (h ++ c ∷ [])) ≡ 10
    → is_good_header (h ++ dnp_rules.spoil h c ∷ []) ≡ false
spoiled-header h c nine good bare =
    let spoiled : ℕ = dnp_rules.spoil h c in
    let third : 3 ≤ length h = omega arith in
    let same : length_byte (h ++ spoiled ∷ []) ≡ length_byte (h ++ c ∷ []) =
    length_byte-append h (spoiled ∷ []) third ∙ sym (length_byte-append h (c ∷ []) third) in
    false_from_ne_true (is_good_header (h ++ spoiled ∷ []))
    (λ still. false≢true (sym (dnp_spoiling.no_right_ending h c)
    ∙ header-ends (h ++ spoiled ∷ []) still (ap size_by same ∙ bare)))

pub dnp_hunted : IsHunted 0x05 0x64 dnp_rules
dnp_hunted = record {
  start_within = omega arith;
  starts = good-begins;
  says_size = says-size;
  says_room = says-room;
  spoils = spoiled-header;
  readable = omega arith;
}

pub dnp_header : dnp_rules.header_len ≡ 10
dnp_header = refl
