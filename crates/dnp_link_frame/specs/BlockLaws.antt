-- Laws of sizes and blocks that the rules of a line need.
use Rattle.std.specs.Prelude.{◌≡◌, ℕ, zero, suc, ◌+◌, ◌-◌, ◌*◌, ◌/◌, ◌<◌, ◌≤◌, ◌==◌, ◌&&◌}
use Rattle.std.specs.Prelude.{nat_le, Bool, true, false, List, ◌++◌, length, take}
use Rattle.std.specs.Prelude.{drop, get_or, refl}
use Rattle.std.proofs.Common.{arith, ◌∙◌, sym, ap, ⊎_elim, length-take}
use Rattle.std.proofs.lemmas.List.{length-drop, get_or_append_left, get_or_past}
use Rattle.std.proofs.lemmas.List.{get_or-take, get_or_default, take_all, drop-drop}
use Rattle.std.proofs.lemmas.List.{take-append-le, drop-append-le}
use Rattle.std.proofs.lemmas.Bool.{and_parts, and_from, eqb-true, eq-eqb, leb-true, le-leb, lt-leb}
use Rattle.std.proofs.lemmas.Bool.{cond-true, cond-false, cases_lt}
use Rattle.dnp_link_frame.specs.Frame.{blocks_for}
use Rattle.dnp_link_frame.specs.Blocks.{length_byte, size_by, room_by, ends_in_crc}
use Rattle.dnp_link_frame.specs.Blocks.{begins_right, is_good_header, end_in_crcs, block_start}
use Rattle.dnp_link_frame.specs.Blocks.{running_block, is_frame, has_right_ending, user_len_by}

-- ---- room

pub room_by-right : (len : ℕ) → 5 ≤ len → room_by len ≡ size_by len
unfolding room_by
room_by-right len right = cond-true (nat_le 5 len) _ _ (le-leb 5 len right)

pub room_by-wrong : (len : ℕ) → len < 5 → room_by len ≡ 292
unfolding room_by
room_by-wrong len wrong = cond-false (nat_le 5 len) _ _ (lt-leb 5 len wrong)

-- there is room for a header
pub room_by-least : (len : ℕ) → 10 ≤ room_by len
room_by-least len =
    ⊎_elim
    (λ wrong. let e = room_by-wrong len wrong in omega arith)
    (λ right. let e = room_by-right len right in omega arith)
    (cases_lt len 5)

pub room_by-most : (len : ℕ) → len < 256 → room_by len ≤ 292
room_by-most len byte =
    ⊎_elim
    (λ wrong. let e = room_by-wrong len wrong in omega arith)
    (λ right. let e = room_by-right len right in omega arith)
    (cases_lt len 5)

-- ---- the third byte

-- LEN doesn't change when more bytes follow
pub length_byte-append : (x more : List ℕ) → 3 ≤ length x
    → length_byte (x ++ more) ≡ length_byte x
length_byte-append x more there = get_or_append_left x more 0 2 there

-- LEN counts as 0 while there are fewer than three bytes
pub length_byte-none : (x : List ℕ) → length x ≤ 2 → length_byte x ≡ 0
length_byte-none x short = get_or_past x 2 0 short

-- ---- headers

pub is_good_header-begins : (x : List ℕ) → is_good_header x ≡ true
    → (length x ≡ 10) × (5 ≤ length_byte x) × (ends_in_crc x ≡ true)
unfolding is_good_header begins_right
is_good_header-begins x good =
    let both = and_parts (length x == 10 && begins_right x) (ends_in_crc x) good in
    let front = and_parts (length x == 10) (begins_right x) both.0 in
    let start = and_parts (get_or x 0 0x05 == 0x05 && get_or x 1 0x64 == 0x64)
    (nat_le 5 (get_or x 2 5)) front.1 in
    let ten : length x ≡ 10 = eqb-true (length x) 10 front.0 in
    let third : 5 ≤ get_or x 2 5 = leb-true 5 (get_or x 2 5) start.1 in
    let same = get_or_default x 2 5 0 (omega arith) in
    (ten, omega arith, both.1)

-- ---- blocks

pub end_in_crcs-none : (x : List ℕ) → end_in_crcs 0 x ≡ true
unfolding end_in_crcs
end_in_crcs-none x = refl

pub end_in_crcs-next : (n : ℕ) (x : List ℕ)
    → end_in_crcs (suc n) x ≡ (ends_in_crc (take 18 x) && end_in_crcs n (drop 18 x))
unfolding end_in_crcs
end_in_crcs-next n x = refl

and_true : (a : Bool) → (a && true) ≡ (true && a)
and_true true = refl
and_true false = refl

and_assoc : (a b c : Bool) → ((a && b) && c) ≡ (a && (b && c))
and_assoc true b c = refl
and_assoc false b c = refl

-- one more block, at the end
pub end_in_crcs-last : (n : ℕ) (x : List ℕ)
    → end_in_crcs (suc n) x ≡ (end_in_crcs n x && ends_in_crc (take 18 (drop (18 * n) x)))
end_in_crcs-last zero x =
    end_in_crcs-next 0 x
    ∙ (ap (λ b. ends_in_crc (take 18 x) && b) (end_in_crcs-none (drop 18 x))
    ∙ (and_true (ends_in_crc (take 18 x))
    ∙ ap (λ b. b && ends_in_crc (take 18 x)) (sym (end_in_crcs-none x))))
end_in_crcs-last (suc n) x =
    let place : 18 + 18 * n ≡ 18 * suc n = omega arith in
    end_in_crcs-next (suc n) x
    ∙ (ap (λ b. ends_in_crc (take 18 x) && b)
    (end_in_crcs-last n (drop 18 x)
    ∙ ap (λ y. end_in_crcs n (drop 18 x) && ends_in_crc (take 18 y))
    (drop-drop (18 * n) 18 x ∙ ap (λ k. drop k x) place))
    ∙ (sym (and_assoc (ends_in_crc (take 18 x)) (end_in_crcs n (drop 18 x)) _)
    ∙ ap (λ b. b && ends_in_crc (take 18 (drop (18 * suc n) x))) (sym (end_in_crcs-next n x))))

-- what follows `n` whole blocks doesn't change whether these end in their CRCs
pub end_in_crcs-append : (n : ℕ) (x more : List ℕ) → 18 * n ≤ length x
    → end_in_crcs n (x ++ more) ≡ end_in_crcs n x
end_in_crcs-append zero x more whole =
    end_in_crcs-none (x ++ more) ∙ sym (end_in_crcs-none x)
end_in_crcs-append (suc n) x more whole =
    let first : 18 ≤ length x = omega arith in
    let rest : 18 * n ≤ length (drop 18 x) = omega (arith, length-drop 18 x) in
    end_in_crcs-next n (x ++ more)
    ∙ (ap (λ y. ends_in_crc y && end_in_crcs n (drop 18 (x ++ more)))
    (take-append-le 18 x more first)
    ∙ (ap (λ y. ends_in_crc (take 18 x) && end_in_crcs n y) (drop-append-le 18 x more first)
    ∙ (ap (λ b. ends_in_crc (take 18 x) && b) (end_in_crcs-append n (drop 18 x) more rest)
    ∙ sym (end_in_crcs-next n x))))

-- ---- the block of the last byte

pub block_start-header : (n : ℕ) → n ≤ 10 → block_start n ≡ 0
unfolding block_start
block_start-header n header = cond-true (nat_le n 10) _ _ (le-leb n 10 header)

pub block_start-user : (n : ℕ) → 10 < n → block_start n ≡ 10 + 18 * ((n - 11) / 18)
unfolding block_start
block_start-user n user = cond-false (nat_le n 10) _ _ (lt-leb n 10 user)

-- up to ten bytes are one block, the header
pub running_block-header : (x : List ℕ) → length x ≤ 10 → running_block x ≡ x
running_block-header x header = ap (λ k. drop k x) (block_start-header (length x) header)

-- after the header, the block of the last byte is the last of the blocks that have begun
pub running_block-user : (x : List ℕ) (n : ℕ) → 10 < length x → n ≡ (length x - 11) / 18
    → take 18 (drop (18 * n) (drop 10 x)) ≡ running_block x
running_block-user x n user is =
    let start : block_start (length x) ≡ 10 + 18 * n =
    block_start-user (length x) user ∙ ap (λ k. 10 + 18 * k) (sym is) in
    ap (take 18) (drop-drop (18 * n) 10 x ∙ ap (λ k. drop k x) (sym start))
    ∙ take_all 18 (running_block x)
    (omega (arith, length-drop (block_start (length x)) x))

-- ---- frames

-- what `is_frame` asks for, part by part
pub record Framed (x : List ℕ) : Type 0 where
  pub header_is_good : is_good_header (take 10 x) ≡ true
  pub size_is : length x ≡ size_by (length_byte x)
  pub blocks_are_right : end_in_crcs (blocks_for (user_len_by (length_byte x))) (drop 10 x) ≡ true

pub is_frame-true : (x : List ℕ) → is_frame x ≡ true → Framed x
unfolding is_frame
is_frame-true x framed =
    let both = and_parts _ _ framed in
    let front = and_parts _ _ both.0 in
    record {
      header_is_good = front.0;
      size_is = eqb-true _ _ front.1;
      blocks_are_right = both.1;
    }

pub is_frame-from : (x : List ℕ) → Framed x → is_frame x ≡ true
unfolding is_frame
is_frame-from x framed =
    and_from _ _ (and_from _ _ framed.header_is_good (eq-eqb _ _ framed.size_is))
    framed.blocks_are_right

-- bytes that begin with a good header are at least ten, and have a LEN of at least 5
pub length_byte-good : (x : List ℕ) → is_good_header (take 10 x) ≡ true
    → (10 ≤ length x) × (5 ≤ length_byte x)
length_byte-good x good =
    let begins = is_good_header-begins (take 10 x) good in
    let ten : length (take 10 x) ≡ 10 = begins.0 in
    let five : 5 ≤ length_byte (take 10 x) = begins.1 in
    let same : length_byte (take 10 x) ≡ length_byte x = get_or-take 10 x 2 0 (omega arith) in
    (omega (arith, length-take 10 x), omega arith)

-- a frame without user data is a header, and ends in its CRC
is_frame-header : (x : List ℕ) → Framed x → length x ≤ 10 → ends_in_crc (running_block x) ≡ true
is_frame-header x framed header =
    ap ends_in_crc (running_block-header x header ∙ sym (take_all 10 x header))
    ∙ (is_good_header-begins (take 10 x) framed.header_is_good).2

-- how many blocks a frame with user data has, by its size
pub blocks_for-last : (len : ℕ) → 10 < size_by len
    → blocks_for (user_len_by len) ≡ suc ((size_by len - 11) / 18)
blocks_for-last len user = omega arith

-- a frame with user data ends in the CRC of its last block
is_frame-user : (x : List ℕ) → Framed x → 10 < length x → ends_in_crc (running_block x) ≡ true
is_frame-user x framed user =
    let size : length x ≡ size_by (length_byte x) = framed.size_is in
    let k : ℕ = (length x - 11) / 18 in
    let blocks : blocks_for (user_len_by (length_byte x)) ≡ suc ((length x - 11) / 18) =
    blocks_for-last (length_byte x) (omega arith)
    ∙ ap (λ n. suc ((n - 11) / 18)) (sym size) in
    ap ends_in_crc (sym (running_block-user x ((length x - 11) / 18) user refl))
    ∙ (and_parts (end_in_crcs ((length x - 11) / 18) (drop 10 x)) _
    (sym (end_in_crcs-last ((length x - 11) / 18) (drop 10 x))
    ∙ (ap (λ n. end_in_crcs n (drop 10 x)) (sym blocks) ∙ framed.blocks_are_right))).1

-- a frame has a right ending
pub is_frame-ending : (x : List ℕ) → is_frame x ≡ true → has_right_ending x ≡ true
unfolding has_right_ending
is_frame-ending x decided =
    let framed = is_frame-true x decided in
    let header = length_byte-good x framed.header_is_good in
    and_from _ _
    (and_from _ _ (le-leb 5 (length_byte x) header.1) (eq-eqb _ _ framed.size_is))
    (⊎_elim
    (λ user. is_frame-user x framed user)
    (λ header_alone. is_frame-header x framed header_alone)
    (cases_lt 10 (length x)))
