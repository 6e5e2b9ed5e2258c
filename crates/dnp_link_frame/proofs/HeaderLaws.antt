-- The header, as far as it has come, and what one more byte does to it.
use Rattle.dnp_link_frame.{proofs.Residue.residue_decides, specs.BlockLaws.running_block-header}
use Rattle.dnp_link_frame.specs.Blocks.{ends_in_crc, begins_right, is_good_header, running_block}
use Rattle.dnp_link_frame.specs.{Crc.register_of, Dnp.header_so_far}
use Rattle.dnp_link_frame.specs.Steps.{residue, fits_header, is_header}
use Rattle.line_rules.specs.Bytes.{AreBytes}
use Rattle.std.proofs.Common.{◌≡◌, ℕ, ◌<◌, ◌≤◌, nat_le, nat_lt, ◌&&◌, ◌||◌, ◌==◌, Bool, true, false}
use Rattle.std.proofs.Common.{List, [], ◌∷◌, ◌++◌, length, take, get_or, refl, arith, sym, ◌∙◌, ap}
use Rattle.std.proofs.Common.{⊎_elim}
use Rattle.std.proofs.lemmas.Bool.{cases_lt, cases_eq, cond-true, cond-false, and_from, and_left}
use Rattle.std.proofs.lemmas.Bool.{and_right, lt-ltb, le-ltb, eq-eqb, ne_eqb}
use Rattle.std.proofs.lemmas.List.{length_push, get_or_append_left, get_or_push, get_or_past}
use Rattle.std.proofs.lemmas.List.{get_or-take, length-take-le, take_all, take-append-le}
use Rattle.std.{proofs.lemmas.List.get_or_default, specs.Prelude.if◌then◌else◌}

-- ---- truths

and_true : (a : Bool) → (a && true) ≡ a
and_true true = refl
and_true false = refl

and_crossed : (a f b g : Bool) → ((a && f) && (b && g)) ≡ ((a && b) && (f && g))
and_crossed false f b g = refl
and_crossed true f true g = refl
and_crossed true true false g = refl
and_crossed true false false g = refl

-- ---- a test of the byte at one place

abbrev test_at : ℕ → ℕ → Bool → Bool
test_at n i t = if n == i then t else true

test_at-same : (n i : ℕ) (t : Bool) → n ≡ i → test_at n i t ≡ t
test_at-same n i t here = cond-true (n == i) t true (eq-eqb n i here)

test_at-other : (n i : ℕ) (t : Bool) → (n ≡ i → ⊥) → test_at n i t ≡ true
test_at-other n i t there = cond-false (n == i) t true (ne_eqb n i there)

-- If a test of the byte at one place passes while that byte hasn't come, then only a byte that
-- comes at this place changes the result.
test-push : (p : ℕ → Bool) (x : List ℕ) (b i d : ℕ) → p d ≡ true
    → p (get_or (x ++ b ∷ []) i d) ≡ (p (get_or x i d) && test_at (length x) i (p b))
test-push p x b i d passes =
    ⊎_elim
    (λ before. ap p (get_or_append_left x (b ∷ []) d i before)
    ∙ (sym (and_true (p (get_or x i d)))
    ∙ ap (λ t. p (get_or x i d) && t)
    (sym (test_at-other (length x) i (p b) (λ same. omega arith)))))
    (λ behind. ⊎_elim
    (λ here. ap p (get_or_push x b d i here)
    ∙ (sym (test_at-same (length x) i (p b) here)
    ∙ ap (λ t. t && test_at (length x) i (p b))
    (sym (ap p (get_or_past x i d behind) ∙ passes))))
    (λ later. let longer = length_push x b in
    ap p (get_or_past (x ++ b ∷ []) i d (omega arith))
    ∙ (ap p (sym (get_or_past x i d behind))
    ∙ (sym (and_true (p (get_or x i d)))
    ∙ ap (λ t. p (get_or x i d) && t) (sym (test_at-other (length x) i (p b) later)))))
    (cases_eq (length x) i))
    (cases_lt i (length x))

-- ---- one of four tests

only_1 : (t a b c d : Bool) → a ≡ t → b ≡ true → c ≡ true → d ≡ true
    → t ≡ (((a && b) && c) && d)
only_1 true a b c d here first second third =
    sym (and_from _ _ (and_from _ _ (and_from a b here first) second) third)
only_1 false a b c d here first second third =
    sym (and_left _ d (and_left _ c (and_left a b here)))

only_2 : (t a b c d : Bool) → b ≡ t → a ≡ true → c ≡ true → d ≡ true
    → t ≡ (((a && b) && c) && d)
only_2 true a b c d here first second third =
    sym (and_from _ _ (and_from _ _ (and_from a b first here) second) third)
only_2 false a b c d here first second third =
    sym (and_left _ d (and_left _ c (and_right a b here)))

only_3 : (t a b c d : Bool) → c ≡ t → a ≡ true → b ≡ true → d ≡ true
    → t ≡ (((a && b) && c) && d)
only_3 true a b c d here first second third =
    sym (and_from _ _ (and_from _ _ (and_from a b first second) here) third)
only_3 false a b c d here first second third = sym (and_left _ d (and_right _ c here))

only_4 : (t a b c d : Bool) → d ≡ t → a ≡ true → b ≡ true → c ≡ true
    → t ≡ (((a && b) && c) && d)
only_4 true a b c d here first second third =
    sym (and_from _ _ (and_from _ _ (and_from a b first second) third) here)
only_4 false a b c d here first second third = sym (and_right _ d here)

-- What a header asks of a byte is one of these four tests, by the byte's place.
fits_header-parts : (n r b : ℕ)
    → fits_header n r b
    ≡ (((test_at n 0 (b == 0x05) && test_at n 1 (b == 0x64)) && test_at n 2 (nat_le 5 b))
    && test_at n 9 (r == residue))
fits_header-parts n r b =
    ⊎_elim
    (λ here. cond-true (n == 0) _ _ (eq-eqb n 0 here)
    ∙ only_1 (b == 0x05) _ _ _ _ (test_at-same n 0 _ here)
    (test_at-other n 1 _ (λ e. omega arith)) (test_at-other n 2 _ (λ e. omega arith))
    (test_at-other n 9 _ (λ e. omega arith)))
    (λ not_0. cond-false (n == 0) _ _ (ne_eqb n 0 not_0) ∙ ⊎_elim
    (λ here. cond-true (n == 1) _ _ (eq-eqb n 1 here)
    ∙ only_2 (b == 0x64) _ _ _ _ (test_at-same n 1 _ here)
    (test_at-other n 0 _ not_0) (test_at-other n 2 _ (λ e. omega arith))
    (test_at-other n 9 _ (λ e. omega arith)))
    (λ not_1. cond-false (n == 1) _ _ (ne_eqb n 1 not_1) ∙ ⊎_elim
    (λ here. cond-true (n == 2) _ _ (eq-eqb n 2 here)
    ∙ only_3 (nat_le 5 b) _ _ _ _ (test_at-same n 2 _ here)
    (test_at-other n 0 _ not_0) (test_at-other n 1 _ not_1)
    (test_at-other n 9 _ (λ e. omega arith)))
    (λ not_2. cond-false (n == 2) _ _ (ne_eqb n 2 not_2) ∙ ⊎_elim
    (λ here. cond-true (n == 9) _ _ (eq-eqb n 9 here)
    ∙ only_4 (r == residue) _ _ _ _ (test_at-same n 9 _ here)
    (test_at-other n 0 _ not_0) (test_at-other n 1 _ not_1) (test_at-other n 2 _ not_2))
    (λ not_9. cond-false (n == 9) _ _ (ne_eqb n 9 not_9)
    ∙ only_4 true _ _ _ _ (test_at-other n 9 _ not_9)
    (test_at-other n 0 _ not_0) (test_at-other n 1 _ not_1) (test_at-other n 2 _ not_2))
    (cases_eq n 9))
    (cases_eq n 2))
    (cases_eq n 1))
    (cases_eq n 0)

-- ---- the first three bytes

begins_right-push : (x : List ℕ) (b : ℕ)
    → begins_right (x ++ b ∷ [])
    ≡ (begins_right x && ((test_at (length x) 0 (b == 0x05) && test_at (length x) 1 (b == 0x64))
    && test_at (length x) 2 (nat_le 5 b)))
unfolding begins_right
begins_right-push x b =
    let first = test-push (λ n. n == 0x05) x b 0 0x05 refl in
    let second = test-push (λ n. n == 0x64) x b 1 0x64 refl in
    let third = test-push (λ n. nat_le 5 n) x b 2 5 refl in
    let y : List ℕ = x ++ b ∷ [] in
    ap (λ t. (t && get_or y 1 0x64 == 0x64) && nat_le 5 (get_or y 2 5)) first
    ∙ (ap (λ t. ((get_or x 0 0x05 == 0x05 && test_at (length x) 0 (b == 0x05)) && t)
    && nat_le 5 (get_or y 2 5)) second
    ∙ (ap (λ t. ((get_or x 0 0x05 == 0x05 && test_at (length x) 0 (b == 0x05))
    && (get_or x 1 0x64 == 0x64 && test_at (length x) 1 (b == 0x64))) && t) third
    ∙ (ap (λ t. t && (nat_le 5 (get_or x 2 5) && test_at (length x) 2 (nat_le 5 b)))
    (and_crossed (get_or x 0 0x05 == 0x05) (test_at (length x) 0 (b == 0x05))
    (get_or x 1 0x64 == 0x64) (test_at (length x) 1 (b == 0x64)))
    ∙ and_crossed (get_or x 0 0x05 == 0x05 && get_or x 1 0x64 == 0x64)
    (test_at (length x) 0 (b == 0x05) && test_at (length x) 1 (b == 0x64))
    (nat_le 5 (get_or x 2 5)) (test_at (length x) 2 (nat_le 5 b)))))

begins_right-take : (x : List ℕ) → begins_right (take 10 x) ≡ begins_right x
unfolding begins_right
begins_right-take x =
    ap (λ n. (n == 0x05 && get_or (take 10 x) 1 0x64 == 0x64) && nat_le 5 (get_or (take 10 x) 2 5))
    (get_or-take 10 x 0 0x05 (omega arith))
    ∙ (ap (λ n. (get_or x 0 0x05 == 0x05 && n == 0x64) && nat_le 5 (get_or (take 10 x) 2 5))
    (get_or-take 10 x 1 0x64 (omega arith))
    ∙ ap (λ n. (get_or x 0 0x05 == 0x05 && get_or x 1 0x64 == 0x64) && nat_le 5 n)
    (get_or-take 10 x 2 5 (omega arith)))

-- ---- its CRC

-- whether the CRC is right, or hasn't come yet
abbrev crc_so_far : List ℕ → Bool
crc_so_far x = nat_lt (length x) 10 || ends_in_crc (take 10 x)

crc_so_far-early : (x : List ℕ) → length x < 10 → crc_so_far x ≡ true
crc_so_far-early x few = ap (λ t. t || ends_in_crc (take 10 x)) (lt-ltb (length x) 10 few)

crc_so_far-whole : (x : List ℕ) → 10 ≤ length x → crc_so_far x ≡ ends_in_crc (take 10 x)
crc_so_far-whole x whole = ap (λ t. t || ends_in_crc (take 10 x)) (le-ltb (length x) 10 whole)

crc_so_far-push : (x : List ℕ) (b : ℕ) → AreBytes (x ++ b ∷ [])
    → crc_so_far (x ++ b ∷ [])
    ≡ (crc_so_far x
    && test_at (length x) 9 (register_of (running_block (x ++ b ∷ [])) == residue))
crc_so_far-push x b bytes =
    let longer = length_push x b in
    let t : Bool = register_of (running_block (x ++ b ∷ [])) == residue in
    ⊎_elim
    (λ early. crc_so_far-early (x ++ b ∷ []) (omega arith)
    ∙ sym (and_from _ _ (crc_so_far-early x (omega arith))
    (test_at-other (length x) 9 _ (λ e. omega arith))))
    (λ late. ⊎_elim
    (λ last.
    let header : running_block (x ++ b ∷ []) ≡ x ++ b ∷ [] =
    running_block-header (x ++ b ∷ []) (omega arith) in
    crc_so_far-whole (x ++ b ∷ []) (omega arith)
    ∙ (ap ends_in_crc (take_all 10 (x ++ b ∷ []) (omega arith))
    ∙ (sym (residue_decides (x ++ b ∷ []) bytes)
    ∙ (ap (λ y. register_of y == residue) (sym header)
    ∙ (sym (test_at-same (length x) 9 _ last)
    ∙ ap (λ s. s && test_at (length x) 9 (register_of (running_block (x ++ b ∷ [])) == residue))
    (sym (crc_so_far-early x (omega arith))))))))
    (λ after.
    crc_so_far-whole (x ++ b ∷ []) (omega arith)
    ∙ (ap ends_in_crc (take-append-le 10 x (b ∷ []) (omega arith))
    ∙ (sym (crc_so_far-whole x (omega arith))
    ∙ (sym (and_true (crc_so_far x))
    ∙ ap (λ s. crc_so_far x && s) (sym (test_at-other (length x) 9 _ after))))))
    (cases_eq (length x) 9))
    (cases_lt (length x) 9)

-- ---- the header

pub header_so_far-push : (x : List ℕ) (b : ℕ) → AreBytes (x ++ b ∷ [])
    → header_so_far (x ++ b ∷ [])
    ≡ (header_so_far x && fits_header (length x) (register_of (running_block (x ++ b ∷ []))) b)
unfolding header_so_far
header_so_far-push x b bytes =
    ap (λ t. t && crc_so_far (x ++ b ∷ [])) (begins_right-push x b)
    ∙ (ap (λ t. (begins_right x && ((test_at (length x) 0 (b == 0x05)
    && test_at (length x) 1 (b == 0x64)) && test_at (length x) 2 (nat_le 5 b))) && t)
    (crc_so_far-push x b bytes)
    ∙ (and_crossed (begins_right x) ((test_at (length x) 0 (b == 0x05)
    && test_at (length x) 1 (b == 0x64)) && test_at (length x) 2 (nat_le 5 b)) (crc_so_far x)
    (test_at (length x) 9 (register_of (running_block (x ++ b ∷ [])) == residue))
    ∙ ap (λ t. (begins_right x && crc_so_far x) && t)
    (sym (fits_header-parts (length x) (register_of (running_block (x ++ b ∷ []))) b))))

pub header_so_far-none : header_so_far [] ≡ true
unfolding header_so_far begins_right
header_so_far-none = refl

-- For one byte, it says whether that byte is 05.
pub header_so_far-one : (b : ℕ) → header_so_far (b ∷ []) ≡ (b == 0x05)
unfolding header_so_far begins_right
header_so_far-one b =
    and_true (((b == 0x05) && true) && true)
    ∙ (and_true ((b == 0x05) && true) ∙ and_true (b == 0x05))

-- For ten bytes or more, it says whether the first ten are a good header.
pub header_so_far-whole : (x : List ℕ) → 10 ≤ length x
    → header_so_far x ≡ is_good_header (take 10 x)
unfolding header_so_far is_good_header
header_so_far-whole x whole =
    ap (λ t. begins_right x && t) (crc_so_far-whole x whole)
    ∙ (ap (λ t. t && ends_in_crc (take 10 x)) (sym (begins_right-take x))
    ∙ ap (λ t. t && begins_right (take 10 x) && ends_in_crc (take 10 x))
    (sym (eq-eqb (length (take 10 x)) 10 (length-take-le 10 x whole))))

-- For ten bytes, it is what the first three of them and the register say.
pub header_so_far-ten : (x : List ℕ) → length x ≡ 10 → AreBytes x
    → header_so_far x
    ≡ is_header (get_or x 0 0 == 0x05) (get_or x 1 0) (get_or x 2 0) (register_of x)
unfolding header_so_far begins_right
header_so_far-ten x ten bytes =
    let last : crc_so_far x ≡ (register_of x == residue) =
    crc_so_far-whole x (omega arith)
    ∙ (ap ends_in_crc (take_all 10 x (omega arith)) ∙ sym (residue_decides x bytes)) in
    ap (λ t. begins_right x && t) last
    ∙ (ap (λ b. ((b == 0x05 && get_or x 1 0x64 == 0x64) && nat_le 5 (get_or x 2 5))
    && register_of x == residue) (get_or_default x 0 0x05 0 (omega arith))
    ∙ (ap (λ b. ((get_or x 0 0 == 0x05 && b == 0x64) && nat_le 5 (get_or x 2 5))
    && register_of x == residue) (get_or_default x 1 0x64 0 (omega arith))
    ∙ ap (λ b. ((get_or x 0 0 == 0x05 && get_or x 1 0 == 0x64) && nat_le 5 b)
    && register_of x == residue) (get_or_default x 2 5 0 (omega arith))))
