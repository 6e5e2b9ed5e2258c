-- How many bytes of blocks of user data are right.
use Rattle.dnp_link_frame.proofs.Parts.{Starts, part_data, length-part_data, part_data-bytes}
use Rattle.dnp_link_frame.proofs.Parts.{part_starts, part_bounds, part_longest}
use Rattle.dnp_link_frame.specs.Beginnings.{right_in_part, right_in_blocks, user_in_blocks}
use Rattle.dnp_link_frame.specs.{Crc.crc_dnp, Frame.with_crc, Frame.blocks_for, Frame.in_blocks}
use Rattle.line_rules.specs.Bytes.{AreBytes, low_first}
use Rattle.std.proofs.Common.{◌≡◌, ℕ, zero, suc, ◌+◌, ◌-◌, ◌*◌, ◌<◌, ◌≤◌, ◌==◌, List, [], ◌++◌}
use Rattle.std.proofs.Common.{length, take, drop, min, refl, arith, sym, ◌∙◌, ap, ⊎_elim}
use Rattle.std.proofs.Common.{length-append, append_assoc, append-nil, replicate}
use Rattle.std.proofs.lemmas.Bool.{cases_lt, cases_eq, cond-true, cond-false, eq-eqb, ne_eqb}
use Rattle.std.proofs.lemmas.List.{take_all, drop_all, take_at, drop_at, length-take, length-drop}
use Rattle.std.proofs.lemmas.List.{length-replicate, nil_from_length, take-append-le}
use Rattle.std.proofs.lemmas.List.{drop-append-le, take-append-drop, length-take-le, drop-take}
use Rattle.std.proofs.lemmas.List.{take-take}
use Rattle.std.proofs.lemmas.List.Elements.{All-append, All-take, All-drop, All-replicate, All-nil}

pub in_blocks-none : (user : List ℕ) → in_blocks 0 user ≡ []
unfolding in_blocks
in_blocks-none user = refl

pub in_blocks-next : (n : ℕ) (user : List ℕ)
    → in_blocks (suc n) user ≡ with_crc (take 16 user) ++ in_blocks n (drop 16 user)
unfolding in_blocks
in_blocks-next n user = refl

-- the blocks of user data whose first block is given; only a last block may be shorter than 16
-- bytes
pub in_blocks-first : (n : ℕ) (block rest : List ℕ) → length block ≤ 16
    → (length block < 16 → length rest ≡ 0)
    → in_blocks (suc n) (block ++ rest) ≡ with_crc block ++ in_blocks n rest
in_blocks-first n block rest short last =
    in_blocks-next n (block ++ rest)
    ∙ ⊎_elim
    (λ less.
    let none : rest ≡ [] = nil_from_length rest (last less) in
    let alone : block ++ rest ≡ block = ap (λ y. block ++ y) none ∙ append-nil block in
    ap (λ y. with_crc (take 16 y) ++ in_blocks n (drop 16 y)) alone
    ∙ (ap (λ y. with_crc y ++ in_blocks n (drop 16 block)) (take_all 16 block short)
    ∙ ap (λ y. with_crc block ++ in_blocks n y) (drop_all 16 block short ∙ sym none)))
    (λ full.
    ap (λ y. with_crc y ++ in_blocks n (drop 16 (block ++ rest)))
    (take_at block rest 16 (omega arith))
    ∙ ap (λ y. with_crc block ++ in_blocks n y) (drop_at block rest 16 (omega arith)))
    (cases_lt (length block) 16)

-- ---- the walk over the blocks

pub right_in_blocks-none : (user_len : ℕ) (x : List ℕ) → right_in_blocks 0 user_len x ≡ 0
unfolding right_in_blocks
right_in_blocks-none user_len x = refl

pub right_in_blocks-on : (n user_len : ℕ) (x : List ℕ)
    → right_in_part (min 16 user_len) x ≡ min 16 user_len + 2
    → right_in_blocks (suc n) user_len x
    ≡ min 16 user_len + 2 + right_in_blocks n (user_len - 16) (drop 18 x)
unfolding right_in_blocks
right_in_blocks-on n user_len x whole =
    cond-true (right_in_part (min 16 user_len) x == min 16 user_len + 2) _ _ (eq-eqb _ _ whole)

pub right_in_blocks-stop : (n user_len : ℕ) (x : List ℕ)
    → (right_in_part (min 16 user_len) x ≡ min 16 user_len + 2 → ⊥)
    → right_in_blocks (suc n) user_len x ≡ right_in_part (min 16 user_len) x
unfolding right_in_blocks
right_in_blocks-stop n user_len x short =
    cond-false (right_in_part (min 16 user_len) x == min 16 user_len + 2) _ _ (ne_eqb _ _ short)

-- There are no more right bytes than bytes.
pub right_in_blocks-within : (n user_len : ℕ) (x : List ℕ) → right_in_blocks n user_len x ≤ length x
right_in_blocks-within zero user_len x = let e = right_in_blocks-none user_len x in omega arith
right_in_blocks-within (suc n) user_len x =
    let bounds = part_bounds (min 16 user_len) x in
    let within = bounds.within in
    ⊎_elim
    (λ whole.
    let e = right_in_blocks-on n user_len x whole in
    let rest = right_in_blocks-within n (user_len - 16) (drop 18 x) in
    omega (arith, length-drop 18 x))
    (λ short. let e = right_in_blocks-stop n user_len x short in omega arith)
    (cases_eq (right_in_part (min 16 user_len) x) (min 16 user_len + 2))

-- ---- what is right begins blocks of some user data

-- user data of `user_len` bytes, whose blocks begin with `x`
pub record SomeUser (n user_len : ℕ) (x : List ℕ) : Type 0 where
  pub user : List ℕ
  pub bytes : AreBytes user
  pub len : length user ≡ user_len
  pub starts : Starts x (in_blocks n user)

pub blocks_start : (n user_len : ℕ) (x : List ℕ) → n ≡ blocks_for user_len → AreBytes x
    → SomeUser n user_len (take (right_in_blocks n user_len x) x)
blocks_start zero user_len x is bytes = record {
  user = [];
  bytes = All-nil (λ b. b < 256);
  len = omega arith;
  starts = record {
    rest = [];
    is = in_blocks-none [] ∙ ap (λ k. take k x ++ []) (sym (right_in_blocks-none user_len x));
  };
}
blocks_start (suc n) user_len x is bytes =
    let bounds = part_bounds (min 16 user_len) x in
    ⊎_elim
    (λ whole.
    let rest = blocks_start n (user_len - 16) (drop 18 x) (omega arith)
    (All-drop (λ b. b < 256) 18 x bytes) in
    let first : length (take (min 16 user_len) x) ≡ min 16 user_len =
    length-take-le (min 16 user_len) x (let w = bounds.within in omega arith) in
    let rest_len = rest.len in
    record {
      user = take (min 16 user_len) x ++ rest.user;
      bytes = All-append (λ b. b < 256) (take (min 16 user_len) x) rest.user
          (All-take (λ b. b < 256) (min 16 user_len) x bytes) rest.bytes;
      len = omega (arith, length-append (take (min 16 user_len) x) rest.user);
      starts = record {
        rest = rest.starts.rest;
        is = in_blocks-first n (take (min 16 user_len) x) rest.user (omega arith)
            (λ less. omega arith)
            ∙ (ap (λ y. y ++ in_blocks n rest.user) (sym (bounds.whole whole))
            ∙ (ap (λ y. take (min 16 user_len + 2) x ++ y) rest.starts.is
            ∙ (sym (append_assoc (take (min 16 user_len + 2) x) _ rest.starts.rest)
            ∙ ap (λ y. y ++ rest.starts.rest)
            (joined n user_len x (right_in_blocks n (user_len - 16) (drop 18 x))
            is (λ none. ap (λ k. right_in_blocks k (user_len - 16) (drop 18 x)) none
            ∙ right_in_blocks-none (user_len - 16) (drop 18 x))
            ∙ ap (λ k. take k x) (sym (right_in_blocks-on n user_len x whole))))));
      };
    })
    (λ short.
    let part = part_starts (min 16 user_len) x in
    let first = length-part_data (min 16 user_len) x in
    record {
      user = part_data (min 16 user_len) x ++ replicate (user_len - 16) 0;
      bytes = All-append (λ b. b < 256) (part_data (min 16 user_len) x)
          (replicate (user_len - 16) 0)
          (part_data-bytes (min 16 user_len) x bytes)
          (All-replicate (λ b. b < 256) (user_len - 16) 0 (omega arith));
      len = omega (
        arith,
        length-append (part_data (min 16 user_len) x)
            (replicate (user_len - 16) 0),
        length-replicate {A = ℕ} (user_len - 16) 0,
      );
      starts = record {
        rest = part.rest ++ in_blocks n (replicate (user_len - 16) 0);
        is = in_blocks-first n (part_data (min 16 user_len) x) (replicate (user_len - 16) 0)
            (omega arith) (λ less. omega (arith, length-replicate {A = ℕ} (user_len - 16) 0))
            ∙ (ap (λ y. y ++ in_blocks n (replicate (user_len - 16) 0)) part.is
            ∙ (append_assoc (take (right_in_part (min 16 user_len) x) x) part.rest
            (in_blocks n (replicate (user_len - 16) 0))
            ∙ ap (λ k. take k x ++ (part.rest ++ in_blocks n (replicate (user_len - 16) 0)))
            (sym (right_in_blocks-stop n user_len x short))));
      };
    })
    (cases_eq (right_in_part (min 16 user_len) x) (min 16 user_len + 2))
  where
    -- The whole blocks so far, followed by the first bytes of the next one, are the first bytes of
    -- all.
    joined : (n user_len : ℕ) (x : List ℕ) (k : ℕ) → suc n ≡ blocks_for user_len
        → (n ≡ 0 → k ≡ 0)
        → take (min 16 user_len + 2) x ++ take k (drop 18 x) ≡ take (min 16 user_len + 2 + k) x
    joined n user_len x k is last =
        ⊎_elim
        (λ none.
        let stop : k ≡ 0 = last (omega arith) in
        ap (λ i. take (min 16 user_len + 2) x ++ take i (drop 18 x)) stop
        ∙ (append-nil (take (min 16 user_len + 2) x)
        ∙ ap (λ i. take i x)
        (let e : min 16 user_len + 2 ≡ min 16 user_len + 2 + k = omega arith in e)))
        (λ some.
        let full : min 16 user_len + 2 ≡ 18 = omega arith in
        ap (λ i. take i x ++ take k (drop 18 x)) full
        ∙ (ap (λ y. take 18 x ++ y) (sym (drop-take 18 k x))
        ∙ (ap (λ y. y ++ drop 18 (take (18 + k) x)) (sym (take-take 18 (18 + k) x (omega arith)))
        ∙ (take-append-drop 18 (take (18 + k) x)
        ∙ ap (λ i. take i x) (let e : 18 + k ≡ min 16 user_len + 2 + k = omega arith in e)))))
        (cases_lt user_len 17)

-- ---- no longer beginning begins blocks of user data

pub blocks_longest : (n user_len : ℕ) (x user rest : List ℕ) (m : ℕ) → n ≡ blocks_for user_len
    → length user ≡ user_len → m ≤ length x → in_blocks n user ≡ take m x ++ rest
    → m ≤ right_in_blocks n user_len x
blocks_longest zero user_len x user rest m is len within starts =
    let none : 0 ≡ length (take m x ++ rest) = ap length (sym (in_blocks-none user) ∙ starts) in
    omega (arith, length-append (take m x) rest, length-take-le m x within)
blocks_longest (suc n) user_len x user rest m is len within starts =
    let first : length (take 16 user) ≡ min 16 user_len = omega (arith, length-take 16 user) in
    let after : length (drop 16 user) ≡ user_len - 16 = omega (arith, length-drop 16 user) in
    let apart : with_crc (take 16 user) ++ in_blocks n (drop 16 user) ≡ take m x ++ rest =
    sym (in_blocks-next n user) ∙ starts in
    let taken = length-take-le m x within in
    let part_len : length (with_crc (take 16 user)) ≡ min 16 user_len + 2 =
    omega (arith, length-append (take 16 user) (low_first (crc_dnp (take 16 user)))) in
    let bounds = part_bounds (min 16 user_len) x in
    ⊎_elim
    (λ inside.
    let part : with_crc (take 16 user) ≡ take m x ++ drop m (with_crc (take 16 user)) =
    sym (take-append-drop m (with_crc (take 16 user)))
    ∙ ap (λ y. y ++ drop m (with_crc (take 16 user)))
    (sym (take-append-le m (with_crc (take 16 user)) (in_blocks n (drop 16 user)) (omega arith))
    ∙ (ap (take m) apart ∙ take_at (take m x) rest m taken)) in
    let most = part_longest (min 16 user_len) m x (take 16 user) _ part within first in
    ⊎_elim
    (λ whole. let e = right_in_blocks-on n user_len x whole in omega arith)
    (λ short. let e = right_in_blocks-stop n user_len x short in omega arith)
    (cases_eq (right_in_part (min 16 user_len) x) (min 16 user_len + 2)))
    (λ beyond.
    let part : with_crc (take 16 user) ≡ take (min 16 user_len + 2) x ++ [] =
    sym (take_at (with_crc (take 16 user)) (in_blocks n (drop 16 user)) (min 16 user_len + 2)
    part_len)
    ∙ (ap (take (min 16 user_len + 2)) apart
    ∙ (take-append-le (min 16 user_len + 2) (take m x) rest (omega arith)
    ∙ (take-take (min 16 user_len + 2) m x (omega arith)
    ∙ sym (append-nil (take (min 16 user_len + 2) x))))) in
    let most = part_longest (min 16 user_len) (min 16 user_len + 2) x (take 16 user) [] part
    (omega arith) first in
    let at_most = bounds.at_most in
    let whole : right_in_part (min 16 user_len) x ≡ min 16 user_len + 2 = omega arith in
    let behind : in_blocks n (drop 16 user) ≡ drop (min 16 user_len + 2) (take m x) ++ rest =
    sym (drop_at (with_crc (take 16 user)) (in_blocks n (drop 16 user)) (min 16 user_len + 2)
    part_len)
    ∙ (ap (drop (min 16 user_len + 2)) apart
    ∙ drop-append-le (min 16 user_len + 2) (take m x) rest (omega arith)) in
    let e = right_in_blocks-on n user_len x whole in
    ⊎_elim
    (λ last.
    let none : n ≡ 0 = omega arith in
    let empty : 0 ≡ length (drop (min 16 user_len + 2) (take m x) ++ rest) =
    ap length (sym (in_blocks-none (drop 16 user))
    ∙ (ap (λ k. in_blocks k (drop 16 user)) (sym none) ∙ behind)) in
    absurd (omega (
      arith,
      length-append (drop (min 16 user_len + 2) (take m x)) rest,
      length-drop (min 16 user_len + 2) (take m x),
    )))
    (λ more.
    let eighteen : min 16 user_len + 2 ≡ 18 = omega arith in
    let sum : 18 + (m - 18) ≡ m = omega arith in
    let next : in_blocks n (drop 16 user) ≡ take (m - 18) (drop 18 x) ++ rest =
    behind
    ∙ (ap (λ k. drop k (take m x) ++ rest) eighteen
    ∙ ap (λ y. y ++ rest) (ap (λ k. drop 18 (take k x)) (sym sum) ∙ drop-take 18 (m - 18) x)) in
    let rest_most = blocks_longest n (user_len - 16) (drop 18 x) (drop 16 user) rest (m - 18)
    (omega arith) after (omega (arith, length-drop 18 x)) next in
    omega arith)
    (cases_lt user_len 17))
    (cases_lt m (min 16 user_len + 3))

-- ---- blocks taken apart again

pub user_in_blocks-next : (n : ℕ) (x : List ℕ)
    → user_in_blocks (suc n) x ≡ take (min 18 (length x) - 2) x ++ user_in_blocks n (drop 18 x)
unfolding user_in_blocks
user_in_blocks-next n x = refl

pub user_in_blocks-none : (x : List ℕ) → user_in_blocks 0 x ≡ []
unfolding user_in_blocks
user_in_blocks-none x = refl

-- how many bytes the blocks of user data have
pub length-in_blocks : (n : ℕ) (user : List ℕ) → n ≡ blocks_for (length user)
    → length (in_blocks n user) ≡ length user + 2 * n
length-in_blocks zero user is = let e = ap length (in_blocks-none user) in omega arith
length-in_blocks (suc n) user is =
    let first = length-take 16 user in
    let after = length-drop 16 user in
    let rest = length-in_blocks n (drop 16 user) (omega arith) in
    let parts : length (in_blocks (suc n) user)
    ≡ length (with_crc (take 16 user)) + length (in_blocks n (drop 16 user)) =
    ap length (in_blocks-next n user)
    ∙ length-append (with_crc (take 16 user)) (in_blocks n (drop 16 user)) in
    omega (arith, length-append (take 16 user) (low_first (crc_dnp (take 16 user))))

pub user_in_blocks-in_blocks : (n : ℕ) (user : List ℕ) → n ≡ blocks_for (length user)
    → user_in_blocks n (in_blocks n user) ≡ user
user_in_blocks-in_blocks zero user is =
    user_in_blocks-none (in_blocks 0 user) ∙ sym (nil_from_length user (omega arith))
user_in_blocks-in_blocks (suc n) user is =
    let after : length (drop 16 user) ≡ length user - 16 = length-drop 16 user in
    let fewer : n ≡ blocks_for (length (drop 16 user)) = omega arith in
    let first : length (take 16 user) ≡ min 16 (length user) = length-take 16 user in
    let part : length (with_crc (take 16 user)) ≡ min 16 (length user) + 2 =
    omega (arith, length-append (take 16 user) (low_first (crc_dnp (take 16 user)))) in
    let size : length (in_blocks (suc n) user) ≡ length user + 2 * suc n =
    length-in_blocks (suc n) user is in
    let most : min 18 (length (in_blocks (suc n) user)) - 2 ≡ length (take 16 user) = omega arith in
    user_in_blocks-next n (in_blocks (suc n) user)
    ∙ (ap (λ k. take k (in_blocks (suc n) user)
    ++ user_in_blocks n (drop 18 (in_blocks (suc n) user)))
    most
    ∙ (ap (λ y. take (length (take 16 user)) y
    ++ user_in_blocks n (drop 18 (in_blocks (suc n) user)))
    (in_blocks-next n user ∙ append_assoc (take 16 user) _ (in_blocks n (drop 16 user)))
    ∙ (ap (λ y. y ++ user_in_blocks n (drop 18 (in_blocks (suc n) user)))
    (take_at (take 16 user) _ (length (take 16 user)) refl)
    ∙ (ap (λ y. take 16 user ++ y) (⊎_elim
    (λ last.
    let none : n ≡ 0 = omega arith in
    ap (λ k. user_in_blocks k (drop 18 (in_blocks (suc n) user))) none
    ∙ (user_in_blocks-none (drop 18 (in_blocks (suc n) user))
    ∙ sym (nil_from_length (drop 16 user) (omega arith))))
    (λ more.
    ap (λ y. user_in_blocks n (drop 18 y)) (in_blocks-next n user)
    ∙ (ap (user_in_blocks n)
    (drop_at (with_crc (take 16 user)) (in_blocks n (drop 16 user)) 18 (omega arith))
    ∙ user_in_blocks-in_blocks n (drop 16 user) fewer))
    (cases_lt (length user) 17))
    ∙ take-append-drop 16 user))))
