-- `is_frame` decides `IsFrame`, and a frame has one header and one user data.
use Rattle.dnp_link_frame.proofs.BlockParts.{in_blocks-none, in_blocks-next, in_blocks-first}
use Rattle.dnp_link_frame.proofs.BlockParts.{user_in_blocks-none, user_in_blocks-next}
use Rattle.dnp_link_frame.proofs.FrameParts.{length-frame_of, user_in-frame_of, header_in-frame_of}
use Rattle.dnp_link_frame.proofs.FrameParts.{fields_are, header_in-fits, user_fits}
use Rattle.dnp_link_frame.specs.Beginnings.{user_in_blocks, header_in, user_in}
use Rattle.dnp_link_frame.specs.BlockLaws.{is_frame-true, is_frame-from, end_in_crcs-none}
use Rattle.dnp_link_frame.specs.BlockLaws.{end_in_crcs-next, length_byte-good}
use Rattle.dnp_link_frame.specs.BlockLaws.{is_good_header-begins, blocks_for-last, block_start-user}
use Rattle.dnp_link_frame.specs.{BlockLaws.running_block-header, Blocks.length_byte}
use Rattle.dnp_link_frame.specs.Blocks.{user_len_by, size_by, ends_in_crc, begins_right}
use Rattle.dnp_link_frame.specs.Blocks.{is_good_header, end_in_crcs, is_frame, running_block}
use Rattle.dnp_link_frame.specs.{Blocks.has_right_ending, Crc.crc_dnp}
use Rattle.dnp_link_frame.specs.Endings.{IsGoodHeader, HasRightDnpEnding, last_part}
use Rattle.dnp_link_frame.specs.Frame.{with_crc, blocks_for, in_blocks, header_fields, frame_of}
use Rattle.dnp_link_frame.specs.Frame.{IsFrameOf, IsDnpFrame}
use Rattle.dnp_link_frame.specs.{RulesLaws.has_right_ending-true, declared.header.Header.Header}
use Rattle.line_rules.proofs.EndingLaws.{ending, ends_in_check-true, ends_in_check-from}
use Rattle.line_rules.specs.{Bytes.AreBytes, Bytes.low_first, Endings.body_of}
use Rattle.std.proofs.Common.{◌≡◌, ℕ, zero, suc, ◌+◌, ◌-◌, ◌*◌, ◌/◌, ◌<◌, ◌≤◌, ◌&&◌, ◌==◌, true}
use Rattle.std.proofs.Common.{List, [], ◌++◌, length, take, drop, get_or, min, refl, arith, sym}
use Rattle.std.proofs.Common.{◌∙◌, ap, subst, ⊎_elim, length-append, append-nil}
use Rattle.std.proofs.lemmas.Bool.{cases_lt, and_parts, and_from, eqb-true, eq-eqb, le-leb}
use Rattle.std.proofs.lemmas.List.{take_all, take_at, drop_at, length-take, length-drop}
use Rattle.std.proofs.lemmas.List.{nil_from_length, take-append-drop, take-take, length-take-le}
use Rattle.std.proofs.lemmas.List.{get_or-take, get_or_default}
use Rattle.std.proofs.lemmas.List.Elements.{All-append, All-take, All-drop, All-nil}

-- ---- one header and one user data

pub one_header : (header other : Header) (user more frame : List ℕ) → IsFrameOf header user frame
    → IsFrameOf other more frame → header ≡ other
one_header header other user more frame first second =
    sym (header_in-frame_of header user first.header_fits)
    ∙ (ap header_in (sym first.is ∙ second.is)
    ∙ header_in-frame_of other more second.header_fits)

pub one_user_data : (header other : Header) (user more frame : List ℕ)
    → IsFrameOf header user frame → IsFrameOf other more frame → user ≡ more
one_user_data header other user more frame first second =
    sym (user_in-frame_of header user)
    ∙ (ap user_in (sym first.is ∙ second.is) ∙ user_in-frame_of other more)

-- ---- a part that ends in its CRC

part_is : (x : List ℕ) → ends_in_crc x ≡ true → x ≡ with_crc (body_of x)
part_is x right =
    let ends = ends_in_check-true crc_dnp x right in
    let body = (ending x ends.body _ _ ends.ends).0 in
    ends.ends ∙ ap with_crc (sym body)

part_ends : (body : List ℕ) → ends_in_crc (with_crc body) ≡ true
part_ends body = ends_in_check-from crc_dnp (with_crc body) (record { body = body; ends = refl })

-- ---- blocks

blocks_are : (n : ℕ) (x : List ℕ) (user_len : ℕ) → n ≡ blocks_for user_len
    → length x ≡ user_len + 2 * n → end_in_crcs n x ≡ true → x ≡ in_blocks n (user_in_blocks n x)
blocks_are zero x user_len is len right =
    nil_from_length x (omega arith) ∙ sym (in_blocks-none (user_in_blocks 0 x))
blocks_are (suc n) x user_len is len right =
    let both = and_parts (ends_in_crc (take 18 x)) (end_in_crcs n (drop 18 x))
    (sym (end_in_crcs-next n x) ∙ right) in
    let front : length (take 18 x) ≡ min 18 (length x) = length-take 18 x in
    let after : length (drop 18 x) ≡ length x - 18 = length-drop 18 x in
    let count : length (take 18 x) - 2 ≡ min 18 (length x) - 2 = omega arith in
    let body : body_of (take 18 x) ≡ take (min 18 (length x) - 2) x =
    ap (λ k. take k (take 18 x)) count
    ∙ take-take (min 18 (length x) - 2) 18 x (omega arith) in
    let block : take 18 x ≡ with_crc (take (min 18 (length x) - 2) x) =
    part_is (take 18 x) both.0 ∙ ap with_crc body in
    let block_len : length (take (min 18 (length x) - 2) x) ≡ min 18 (length x) - 2 =
    omega (arith, length-take (min 18 (length x) - 2) x) in
    ⊎_elim
    (λ last.
    let none : n ≡ 0 = omega arith in
    let nothing : user_in_blocks n (drop 18 x) ≡ [] =
    ap (λ k. user_in_blocks k (drop 18 x)) none ∙ user_in_blocks-none (drop 18 x) in
    let rest : drop 18 x ≡ in_blocks n (user_in_blocks n (drop 18 x)) =
    nil_from_length (drop 18 x) (omega arith)
    ∙ sym (ap (λ k. in_blocks k (user_in_blocks n (drop 18 x))) none
    ∙ in_blocks-none (user_in_blocks n (drop 18 x))) in
    sym (take-append-drop 18 x)
    ∙ (ap (λ y. y ++ drop 18 x) block
    ∙ (ap (λ y. with_crc (take (min 18 (length x) - 2) x) ++ y) rest
    ∙ (sym (in_blocks-first n (take (min 18 (length x) - 2) x) (user_in_blocks n (drop 18 x))
    (omega arith) (λ less. ap length nothing))
    ∙ ap (in_blocks (suc n)) (sym (user_in_blocks-next n x))))))
    (λ more.
    let rest = blocks_are n (drop 18 x) (user_len - 16) (omega arith) (omega arith) both.1 in
    sym (take-append-drop 18 x)
    ∙ (ap (λ y. y ++ drop 18 x) block
    ∙ (ap (λ y. with_crc (take (min 18 (length x) - 2) x) ++ y) rest
    ∙ (sym (in_blocks-first n (take (min 18 (length x) - 2) x) (user_in_blocks n (drop 18 x))
    (omega arith) (λ less. absurd (omega arith)))
    ∙ ap (in_blocks (suc n)) (sym (user_in_blocks-next n x))))))
    (cases_lt user_len 17)

blocks_end : (n : ℕ) (user : List ℕ) → n ≡ blocks_for (length user)
    → end_in_crcs n (in_blocks n user) ≡ true
blocks_end zero user is = end_in_crcs-none (in_blocks 0 user)
blocks_end (suc n) user is =
    let first : length (take 16 user) ≡ min 16 (length user) = length-take 16 user in
    let after : length (drop 16 user) ≡ length user - 16 = length-drop 16 user in
    let part_len : length (with_crc (take 16 user)) ≡ min 16 (length user) + 2 =
    omega (arith, length-append (take 16 user) (low_first (crc_dnp (take 16 user)))) in
    ap (end_in_crcs (suc n)) (in_blocks-next n user)
    ∙ (end_in_crcs-next n (with_crc (take 16 user) ++ in_blocks n (drop 16 user))
    ∙ ⊎_elim
    (λ last.
    let none : n ≡ 0 = omega arith in
    let alone : with_crc (take 16 user) ++ in_blocks n (drop 16 user) ≡ with_crc (take 16 user) =
    ap (λ y. with_crc (take 16 user) ++ y)
    (ap (λ k. in_blocks k (drop 16 user)) none ∙ in_blocks-none (drop 16 user))
    ∙ append-nil (with_crc (take 16 user)) in
    and_from _ _
    (ap (λ y. ends_in_crc (take 18 y)) alone
    ∙ (ap ends_in_crc (take_all 18 (with_crc (take 16 user)) (omega arith))
    ∙ part_ends (take 16 user)))
    (ap (λ k. end_in_crcs k (drop 18 (with_crc (take 16 user) ++ in_blocks n (drop 16 user)))) none
    ∙ end_in_crcs-none _))
    (λ more.
    and_from _ _
    (ap ends_in_crc
    (take_at (with_crc (take 16 user)) (in_blocks n (drop 16 user)) 18 (omega arith))
    ∙ part_ends (take 16 user))
    (ap (end_in_crcs n) (drop_at (with_crc (take 16 user)) (in_blocks n (drop 16 user)) 18
    (omega arith))
    ∙ blocks_end n (drop 16 user) (omega arith)))
    (cases_lt (length user) 17))

-- ---- frames

-- The parts of a good header: its first two bytes and its CRC are right.
good_header : (x : List ℕ) → is_good_header x ≡ true
    → (get_or x 0 0x05 ≡ 0x05) × (get_or x 1 0x64 ≡ 0x64) × (ends_in_crc x ≡ true)
unfolding is_good_header begins_right
good_header x good =
    let both = and_parts (length x == 10 && begins_right x) (ends_in_crc x) good in
    let front = and_parts (length x == 10) (begins_right x) both.0 in
    let start = and_parts (get_or x 0 0x05 == 0x05 && get_or x 1 0x64 == 0x64) _ front.1 in
    let two = and_parts (get_or x 0 0x05 == 0x05) (get_or x 1 0x64 == 0x64) start.0 in
    (eqb-true _ _ two.0, eqb-true _ _ two.1, both.1)

length-user_in_blocks : (n : ℕ) (x : List ℕ) (user_len : ℕ) → n ≡ blocks_for user_len
    → length x ≡ user_len + 2 * n → length (user_in_blocks n x) ≡ user_len
length-user_in_blocks zero x user_len is len =
    let e = ap length (user_in_blocks-none x) in omega arith
length-user_in_blocks (suc n) x user_len is len =
    let after = length-drop 18 x in
    let rest = length-user_in_blocks n (drop 18 x) (user_len - 16) (omega arith) (omega arith) in
    let parts = ap length (user_in_blocks-next n x)
    ∙ length-append (take (min 18 (length x) - 2) x) (user_in_blocks n (drop 18 x)) in
    omega (arith, length-take (min 18 (length x) - 2) x)

user_in_blocks-bytes : (n : ℕ) (x : List ℕ) → AreBytes x → AreBytes (user_in_blocks n x)
user_in_blocks-bytes zero x bytes =
    let P : List ℕ → Type 0 = AreBytes in
    subst P (sym (user_in_blocks-none x)) (All-nil (λ b. b < 256))
user_in_blocks-bytes (suc n) x bytes =
    let P : List ℕ → Type 0 = AreBytes in
    subst P (sym (user_in_blocks-next n x))
    (All-append (λ b. b < 256) (take (min 18 (length x) - 2) x) (user_in_blocks n (drop 18 x))
    (All-take (λ b. b < 256) (min 18 (length x) - 2) x bytes)
    (user_in_blocks-bytes n (drop 18 x) (All-drop (λ b. b < 256) 18 x bytes)))

-- The header of the bytes of a frame is made of its fields and their CRC.
header_is : (x : List ℕ) → AreBytes x → is_good_header (take 10 x) ≡ true
    → take 10 x ≡ with_crc (header_fields (header_in (take 8 x)) (user_len_by (length_byte x)))
header_is x bytes good =
    let long : 10 ≤ length x = (length_byte-good x good).0 in
    let five : 5 ≤ length_byte x = (length_byte-good x good).1 in
    let parts = good_header (take 10 x) good in
    let first : get_or x 0 0x05 ≡ 0x05 = sym (get_or-take 10 x 0 0x05 (omega arith)) ∙ parts.0 in
    let second : get_or x 1 0x64 ≡ 0x64 = sym (get_or-take 10 x 1 0x64 (omega arith)) ∙ parts.1 in
    let ten : length (take 10 x) ≡ 10 = length-take-le 10 x long in
    let body : body_of (take 10 x) ≡ take 8 x =
    ap (λ n. take (n - 2) (take 10 x)) ten ∙ take-take 8 10 x (omega arith) in
    let at = λ (i : ℕ) (early : i < 8). get_or-take 8 x i 0 early in
    part_is (take 10 x) parts.2
    ∙ (ap with_crc body
    ∙ ap with_crc (fields_are (take 8 x) (user_len_by (length_byte x))
    (length-take-le 8 x (omega arith)) (All-take (λ b. b < 256) 8 x bytes)
    (at 0 (omega arith) ∙ (get_or_default x 0 0 0x05 (omega arith) ∙ first))
    (at 1 (omega arith) ∙ (get_or_default x 1 0 0x64 (omega arith) ∙ second))
    (at 2 (omega arith)
    ∙ (let e : length_byte x ≡ user_len_by (length_byte x) + 5 = omega arith in e))))

pub is_frame-frame : (x : List ℕ) → AreBytes x → is_frame x ≡ true → IsDnpFrame x
is_frame-frame x bytes decided =
    let framed = is_frame-true x decided in
    let long = (length_byte-good x framed.header_is_good).0 in
    let five = (length_byte-good x framed.header_is_good).1 in
    let n : ℕ = blocks_for (user_len_by (length_byte x)) in
    let size : length x ≡ size_by (length_byte x) = framed.size_is in
    let rest : length (drop 10 x)
    ≡ user_len_by (length_byte x) + 2 * blocks_for (user_len_by (length_byte x)) =
    omega (arith, length-drop 10 x) in
    let len : length (user_in x) ≡ user_len_by (length_byte x) =
    length-user_in_blocks (blocks_for (user_len_by (length_byte x))) (drop 10 x)
    (user_len_by (length_byte x)) refl rest in
    let blocks : drop 10 x ≡ in_blocks (blocks_for (length (user_in x))) (user_in x) =
    blocks_are (blocks_for (user_len_by (length_byte x))) (drop 10 x)
    (user_len_by (length_byte x)) refl rest framed.blocks_are_right
    ∙ ap (λ k. in_blocks (blocks_for k) (user_in x)) (sym len) in
    let fit = user_fits x bytes in
    record {
      header = header_in (take 8 x);
      user = user_in x;
      of = record {
        header_fits = header_in-fits (take 8 x) (omega (arith, length-take 8 x))
            (All-take (λ b. b < 256) 8 x bytes);
        user_bytes = user_in_blocks-bytes (blocks_for (user_len_by (length_byte x))) (drop 10 x)
            (All-drop (λ b. b < 256) 10 x bytes);
        user_fits = omega arith;
        is = sym (take-append-drop 10 x)
            ∙ (ap (λ y. y ++ drop 10 x) (header_is x bytes framed.header_is_good
            ∙ ap (λ k. with_crc (header_fields (header_in (take 8 x)) k)) (sym len))
            ∙ ap (λ y. with_crc (header_fields (header_in (take 8 x)) (length (user_in x))) ++ y)
            blocks);
      };
    }

fields_are_good : (header : Header) (user_len : ℕ)
    → is_good_header (with_crc (header_fields header user_len)) ≡ true
unfolding is_good_header begins_right
fields_are_good header user_len =
    and_from _ _ (le-leb 5 (user_len + 5) (omega arith))
    (part_ends (header_fields header user_len))

pub frame-is_frame : (x : List ℕ) → IsDnpFrame x → is_frame x ≡ true
frame-is_frame x framed =
    let header = framed.header in
    let user = framed.user in
    let fields : List ℕ = header_fields framed.header (length framed.user) in
    let blocks : List ℕ = in_blocks (blocks_for (length framed.user)) framed.user in
    let len : user_len_by (length_byte (frame_of framed.header framed.user)) ≡ length framed.user =
    omega arith in
    ap is_frame framed.of.is
    ∙ is_frame-from (frame_of framed.header framed.user) (record {
      header_is_good =
          ap is_good_header (take_at (with_crc fields) blocks 10 refl)
          ∙ fields_are_good framed.header (length framed.user);
      size_is = length-frame_of framed.header framed.user;
      blocks_are_right =
          ap (λ k. end_in_crcs (blocks_for k) (drop 10 (frame_of framed.header framed.user))) len
          ∙ (ap (end_in_crcs (blocks_for (length framed.user)))
          (drop_at (with_crc fields) blocks 10 refl)
          ∙ blocks_end (blocks_for (length framed.user)) framed.user refl);
    })

-- ---- good headers and right endings

pub good_header-true : (x : List ℕ) → AreBytes x → is_good_header x ≡ true → IsGoodHeader x
good_header-true x bytes good =
    let ten = (is_good_header-begins x good).0 in
    let whole : take 10 x ≡ x = take_all 10 x (omega arith) in
    let fit = user_fits x bytes in
    record {
      header = header_in (take 8 x);
      header_fits = header_in-fits (take 8 x) (omega (arith, length-take 8 x))
          (All-take (λ b. b < 256) 8 x bytes);
      user_len = user_len_by (length_byte x);
      user_fits = omega arith;
      is = sym whole ∙ header_is x bytes (ap is_good_header whole ∙ good);
    }

pub good_header-from : (x : List ℕ) → IsGoodHeader x → is_good_header x ≡ true
good_header-from x good =
    ap is_good_header good.is ∙ fields_are_good good.header good.user_len

last_part-running : (x : List ℕ) → length x ≡ size_by (length_byte x)
    → last_part (blocks_for (user_len_by (length_byte x))) x ≡ running_block x
last_part-running x size =
    ⊎_elim
    (λ user.
    let blocks : blocks_for (user_len_by (length_byte x)) ≡ suc ((length x - 11) / 18) =
    blocks_for-last (length_byte x) (omega arith)
    ∙ ap (λ n. suc ((n - 11) / 18)) (sym size) in
    ap (λ n. last_part n x) blocks
    ∙ ap (λ n. drop n x) (sym (block_start-user (length x) user)))
    (λ header.
    let none : blocks_for (user_len_by (length_byte x)) ≡ 0 = omega arith in
    ap (λ n. last_part n x) none ∙ sym (running_block-header x header))
    (cases_lt 10 (length x))

pub right_ending-true : (x : List ℕ) → has_right_ending x ≡ true → HasRightDnpEnding x
right_ending-true x decided =
    let right = has_right_ending-true x decided in
    record {
      len_is_right = right.len_is_right;
      size_is = right.size_is;
      ends_in_crc = ends_in_check-true crc_dnp _
          (ap ends_in_crc (last_part-running x right.size_is) ∙ right.block_ends);
    }

pub right_ending-from : (x : List ℕ) → HasRightDnpEnding x → has_right_ending x ≡ true
unfolding has_right_ending
right_ending-from x right =
    and_from _ _
    (and_from _ _ (le-leb 5 (length_byte x) right.len_is_right) (eq-eqb _ _ right.size_is))
    (ap ends_in_crc (sym (last_part-running x right.size_is))
    ∙ ends_in_check-from crc_dnp _ right.ends_in_crc)
