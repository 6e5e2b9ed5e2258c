-- What a loop over blocks has done so far, and what it does with the next block.
use Rattle.dnp_link_frame.proofs.BlockParts.{in_blocks-none, in_blocks-next, length-in_blocks}
use Rattle.dnp_link_frame.proofs.BlockParts.{right_in_blocks-none, right_in_blocks-on}
use Rattle.dnp_link_frame.proofs.BlockParts.{right_in_blocks-stop, user_in_blocks-none}
use Rattle.dnp_link_frame.proofs.{BlockParts.user_in_blocks-next, Parts.part_bounds}
use Rattle.dnp_link_frame.specs.Beginnings.{right_in_part, right_in_blocks, user_in_blocks}
use Rattle.dnp_link_frame.specs.{Crc.crc_dnp, Frame.with_crc, Frame.blocks_for, Frame.in_blocks}
use Rattle.line_rules.specs.Bytes.{low_first}
use Rattle.std.proofs.Common.{◌≡◌, ℕ, zero, suc, ◌+◌, ◌-◌, ◌*◌, ◌<◌, ◌≤◌, List, [], ◌++◌, length}
use Rattle.std.proofs.Common.{take, drop, min, arith, sym, ◌∙◌, ap, add-one, length-append}
use Rattle.std.proofs.Common.{append_assoc, append-nil, refl}
use Rattle.std.proofs.lemmas.List.{length-take, length-drop, drop-drop, take_all}

-- ---- blocks that are built

-- Holds if `items`, followed by the blocks of `following`, are the header followed by the blocks of
-- all user data.
pub record IsBuilt (header user items following : List ℕ) : Type 0 where
  pub is : items ++ in_blocks (blocks_for (length following)) following
      ≡ with_crc header ++ in_blocks (blocks_for (length user)) user

-- It holds before the first block, when there is only the header.
pub is_built-first : (header fields items before user : List ℕ) → before ≡ []
    → items ≡ before ++ with_crc fields → fields ≡ header → IsBuilt header user items user
is_built-first header fields items before user none pushed is = record {
  is = ap (λ y. y ++ in_blocks (blocks_for (length user)) user)
      (pushed ∙ (ap (λ y. y ++ with_crc fields) none ∙ ap with_crc is));
}

-- It still holds when a whole block has been added.
pub is_built-next : (header user items next following block more : List ℕ)
    → 16 ≤ length following → block ≡ take 16 following → more ≡ drop 16 following
    → next ≡ items ++ with_crc block → IsBuilt header user items following
    → IsBuilt header user next more
is_built-next header user items next following block more whole front behind pushed before =
    let n : ℕ = blocks_for (length more) in
    let fewer : length more ≡ length (drop 16 following) = ap length behind in
    let one_more : blocks_for (length following) ≡ suc (blocks_for (length more)) =
    omega (arith, length-drop 16 following) in
    let parts : in_blocks (blocks_for (length following)) following
    ≡ with_crc block ++ in_blocks (blocks_for (length more)) more =
    ap (λ k. in_blocks k following) one_more
    ∙ (in_blocks-next n following
    ∙ (ap (λ y. with_crc y ++ in_blocks n (drop 16 following)) (sym front)
    ∙ ap (λ y. with_crc block ++ in_blocks n y) (sym behind))) in
    record {
      is = ap (λ y. y ++ in_blocks n more) pushed
          ∙ (append_assoc items (with_crc block) (in_blocks n more)
          ∙ (ap (λ y. items ++ y) (sym parts) ∙ before.is));
    }

-- With the last block, which may be shorter, what is there is the header and all blocks.
pub is_built-last : (header user items next following : List ℕ) → 0 < length following
    → length following ≤ 16 → next ≡ items ++ with_crc following
    → IsBuilt header user items following
    → next ≡ with_crc header ++ in_blocks (blocks_for (length user)) user
is_built-last header user items next following some short pushed before =
    let one : blocks_for (length following) ≡ suc 0 = omega arith in
    let alone : in_blocks (blocks_for (length following)) following ≡ with_crc following =
    ap (λ k. in_blocks k following) one
    ∙ (in_blocks-next 0 following
    ∙ (ap (λ y. with_crc y ++ in_blocks 0 (drop 16 following)) (take_all 16 following short)
    ∙ (ap (λ y. with_crc following ++ y) (in_blocks-none (drop 16 following))
    ∙ append-nil (with_crc following)))) in
    pushed ∙ (ap (λ y. items ++ y) (sym alone) ∙ before.is)

-- If nothing follows, what is there is the header and all blocks.
pub is_built-whole : (header user items following : List ℕ) → following ≡ []
    → IsBuilt header user items following
    → items ≡ with_crc header ++ in_blocks (blocks_for (length user)) user
is_built-whole header user items following none before =
    let nothing : in_blocks (blocks_for (length following)) following ≡ [] =
    ap (λ y. in_blocks (blocks_for (length y)) y) none ∙ in_blocks-none [] in
    sym (append-nil items) ∙ (ap (λ y. items ++ y) (sym nothing) ∙ before.is)

-- The next block and its CRC have room.
pub is_built-room : (header user items following block : List ℕ) → length header ≡ 8
    → length user ≤ 250 → 0 < length following → length block ≤ 16
    → length block ≤ length following → IsBuilt header user items following
    → length items + length block + 2 ≤ 292
is_built-room header user items following block eight fits some short part before =
    let all : length items + length (in_blocks (blocks_for (length following)) following)
    ≡ length (with_crc header) + length (in_blocks (blocks_for (length user)) user) =
    sym (length-append items (in_blocks (blocks_for (length following)) following))
    ∙ (ap length before.is
    ∙ length-append (with_crc header) (in_blocks (blocks_for (length user)) user)) in
    let follows = length-in_blocks (blocks_for (length following)) following refl in
    let size = length-in_blocks (blocks_for (length user)) user refl in
    omega (arith, length-append header (low_first (crc_dnp header)))

-- ---- blocks that are taken apart

user_in_blocks-suc : (n : ℕ) (x : List ℕ)
    → user_in_blocks (suc n) x
    ≡ user_in_blocks n x ++ take (min 18 (length (drop (18 * n) x)) - 2) (drop (18 * n) x)
user_in_blocks-suc zero x =
    user_in_blocks-next 0 x
    ∙ (ap (λ y. take (min 18 (length x) - 2) x ++ y) (user_in_blocks-none (drop 18 x))
    ∙ (append-nil (take (min 18 (length x) - 2) x)
    ∙ ap (λ y. y ++ take (min 18 (length x) - 2) x) (sym (user_in_blocks-none x))))
user_in_blocks-suc (suc n) x =
    let place : 18 + 18 * n ≡ 18 * suc n = omega arith in
    user_in_blocks-next (suc n) x
    ∙ (ap (λ y. take (min 18 (length x) - 2) x ++ y)
    (user_in_blocks-suc n (drop 18 x)
    ∙ ap (λ y. user_in_blocks n (drop 18 x) ++ take (min 18 (length y) - 2) y)
    (drop-drop (18 * n) 18 x ∙ ap (λ k. drop k x) place))
    ∙ (sym (append_assoc (take (min 18 (length x) - 2) x) (user_in_blocks n (drop 18 x)) _)
    ∙ ap (λ y. y ++ take (min 18 (length (drop (18 * suc n) x)) - 2) (drop (18 * suc n) x))
    (sym (user_in_blocks-next n x))))

pub user_in_blocks-start : (x : List ℕ) → [] ≡ user_in_blocks 0 x
user_in_blocks-start x = sym (user_in_blocks-none x)

pub user_in_blocks-more : (n to : ℕ) (x items next : List ℕ)
    → to ≡ min (length x) (n * 18 + 18) → items ≡ user_in_blocks n x
    → next ≡ items ++ take (to - 2 - n * 18) (drop (n * 18) x)
    → next ≡ user_in_blocks (n + 1) x
user_in_blocks-more n to x items next is before pushed =
    let rest = length-drop (n * 18) x in
    let some : to - 2 - n * 18 ≡ min 18 (length (drop (n * 18) x)) - 2 = omega arith in
    let place : n * 18 ≡ 18 * n = omega arith in
    pushed
    ∙ (ap (λ k. items ++ take k (drop (n * 18) x)) some
    ∙ (ap (λ k. items ++ take (min 18 (length (drop k x)) - 2) (drop k x)) place
    ∙ (ap (λ y. y ++ take (min 18 (length (drop (18 * n) x)) - 2) (drop (18 * n) x)) before
    ∙ (sym (user_in_blocks-suc n x) ∙ ap (λ k. user_in_blocks k x) (sym (add-one n))))))

user_in_blocks-most : (n : ℕ) (x : List ℕ) → length (user_in_blocks n x) ≤ 16 * n
user_in_blocks-most zero x = let e = ap length (user_in_blocks-none x) in omega arith
user_in_blocks-most (suc n) x =
    let rest = user_in_blocks-most n (drop 18 x) in
    let parts = ap length (user_in_blocks-next n x)
    ∙ length-append (take (min 18 (length x) - 2) x) (user_in_blocks n (drop 18 x)) in
    omega (arith, length-take (min 18 (length x) - 2) x)

pub user_in_blocks-room : (n blocks to : ℕ) (x items : List ℕ) → length x ≤ 250 + 2 * blocks
    → 18 * blocks ≤ length x + 15 → n < blocks → to ≡ min (length x) (n * 18 + 18)
    → items ≡ user_in_blocks n x
    → length items + length (take (to - 2 - n * 18) (drop (n * 18) x)) ≤ 250
user_in_blocks-room n blocks to x items fit whole left is before =
    let most = user_in_blocks-most n x in
    let rest = length-drop (n * 18) x in
    let block = length-take (to - 2 - n * 18) (drop (n * 18) x) in
    let all = ap length before in
    omega arith

-- ---- blocks that are judged

-- where the block after the first `n` ones begins, counted from the first block
abbrev pub place_of : ℕ → ℕ → ℕ
place_of n user_len = min (16 * n) user_len + 2 * n

-- Holds if the first `n` blocks are right.
pub record AreRight (n user_len : ℕ) (x : List ℕ) : Type 0 where
  pub within : place_of n user_len ≤ length x
  pub is : right_in_blocks (blocks_for user_len) user_len x
      ≡ place_of n user_len
      + right_in_blocks (blocks_for user_len - n) (user_len - 16 * n) (drop (18 * n) x)

pub none_are_right : (user_len : ℕ) (x : List ℕ) → AreRight 0 user_len x
none_are_right user_len x =
    let same : right_in_blocks (blocks_for user_len) user_len x
    ≡ right_in_blocks (blocks_for user_len - 0) (user_len - 16 * 0) x =
    ap (λ k. right_in_blocks k user_len x)
    (let e : blocks_for user_len ≡ blocks_for user_len - 0 = omega arith in e)
    ∙ ap (λ k. right_in_blocks (blocks_for user_len - 0) k x)
    (let e : user_len ≡ user_len - 16 * 0 = omega arith in e) in
    record { within = omega arith; is = omega arith }

-- The number of right bytes of the next block is the same when written as the code has it.
next_right : (n len user_len : ℕ) (x : List ℕ) → len ≡ min (user_len - n * 16) 16
    → right_in_part len (take (length x - n * 18) (drop (n * 18) x))
    ≡ right_in_part (min 16 (user_len - 16 * n)) (drop (18 * n) x)
next_right n len user_len x is =
    let same : len ≡ min 16 (user_len - 16 * n) = omega arith in
    let place : n * 18 ≡ 18 * n = omega arith in
    ap (right_in_part len) (take_all (length x - n * 18) (drop (n * 18) x)
    (omega (arith, length-drop (n * 18) x)))
    ∙ (ap (λ k. right_in_part k (drop (n * 18) x)) same
    ∙ ap (λ k. right_in_part (min 16 (user_len - 16 * n)) (drop k x)) place)

module _ (n len right user_len : ℕ) (x : List ℕ) (left : n < blocks_for user_len)
    (len_is : len ≡ min (user_len - n * 16) 16)
    (right_is : right ≡ right_in_part len (take (length x - n * 18) (drop (n * 18) x)))
    (before : AreRight n user_len x) where
  one_more_block : blocks_for user_len - n ≡ suc (blocks_for user_len - (n + 1))
  one_more_block = omega arith

  here : right ≡ right_in_part (min 16 (user_len - 16 * n)) (drop (18 * n) x)
  here = right_is ∙ next_right n len user_len x len_is

  all_so_far : right_in_blocks (blocks_for user_len) user_len x
      ≡ place_of n user_len
      + right_in_blocks (suc (blocks_for user_len - (n + 1))) (user_len - 16 * n) (drop (18 * n) x)
  all_so_far =
      before.is
      ∙ ap (λ k. place_of n user_len + right_in_blocks k (user_len - 16 * n) (drop (18 * n) x))
      one_more_block

  pub next_is_right : right ≡ len + 2 → AreRight (n + 1) user_len x
  next_is_right whole =
      let rest = right_in_blocks-on (blocks_for user_len - (n + 1)) (user_len - 16 * n)
      (drop (18 * n) x) (let h = here in let l = len_is in omega arith) in
      let after : drop 18 (drop (18 * n) x) ≡ drop (18 * (n + 1)) x =
      drop-drop 18 (18 * n) x
      ∙ ap (λ k. drop k x) (let e : 18 * n + 18 ≡ 18 * (n + 1) = omega arith in e) in
      let fewer : user_len - 16 * n - 16 ≡ user_len - 16 * (n + 1) = omega arith in
      let same : right_in_blocks (blocks_for user_len - (n + 1)) (user_len - 16 * n - 16)
      (drop 18 (drop (18 * n) x))
      ≡ right_in_blocks (blocks_for user_len - (n + 1)) (user_len - 16 * (n + 1))
      (drop (18 * (n + 1)) x) =
      ap (λ k. right_in_blocks (blocks_for user_len - (n + 1)) k (drop 18 (drop (18 * n) x))) fewer
      ∙ ap (right_in_blocks (blocks_for user_len - (n + 1)) (user_len - 16 * (n + 1))) after in
      let all = all_so_far in
      let h = here in
      let bounds = (part_bounds (min 16 (user_len - 16 * n)) (drop (18 * n) x)).within in
      let within = before.within in
      record {
        within = omega (arith, length-drop (18 * n) x);
        is = omega arith;
      }

  pub next_is_wrong : (right ≡ len + 2 → ⊥)
      → n * 18 + right ≡ right_in_blocks (blocks_for user_len) user_len x
  next_is_wrong short =
      let rest = right_in_blocks-stop (blocks_for user_len - (n + 1)) (user_len - 16 * n)
      (drop (18 * n) x) (λ whole. short (let h = here in omega arith)) in
      let all = all_so_far in
      let h = here in
      omega arith

pub all_are_right : (n blocks user_len : ℕ) (x : List ℕ) → blocks ≡ blocks_for user_len
    → n ≡ blocks → AreRight n user_len x
    → user_len + 2 * blocks ≡ right_in_blocks (blocks_for user_len) user_len x
all_are_right n blocks user_len x is last before =
    let none : blocks_for user_len - n ≡ 0 = omega arith in
    let rest = ap (λ k. right_in_blocks k (user_len - 16 * n) (drop (18 * n) x)) none
    ∙ right_in_blocks-none (user_len - 16 * n) (drop (18 * n) x) in
    let all = before.is in
    omega arith
