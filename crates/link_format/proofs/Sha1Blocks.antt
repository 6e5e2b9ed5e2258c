-- SHA-1's schedule by fours, and the rounds over words that come with their constants.
use Rattle.std.proofs.Common.{◌≡◌, ℕ, zero, suc, ◌+◌, ◌-◌, ◌*◌, ◌/◌, ◌%◌, ◌^◌, ◌<◌, ◌≤◌, List, []}
use Rattle.std.proofs.Common.{◌∷◌, ◌++◌, length, slice_index, map, refl, sym, ap, ◌∙◌, arith}
use Rattle.std.proofs.{Common.inl, Common.inr, Common.bit_or, Common.bit_xor, lemmas.Bool.cases_lt}
use Rattle.std.proofs.lemmas.Nat.{or_shifted, xor_mod, xor_shr, xor_block, xor_lt, xor_comm}
use Rattle.std.proofs.lemmas.Nat.Bits.{bit_at-lt, bit_at_xor, same_from_bits}
use Rattle.std.specs.Int.{w32, rotate_left, Bits.xor_assoc, Bits.xor_zero_r, Bits.xor_zero_l}
use lib.Lanes.{zip2, pick_l}
use Rattle.link_format.proofs.KeyedWords.{four_lanes, below_four, same_four, IsFour_at}
use Rattle.link_format.specs.Words.{AreBytesOfWord, four_at, four_loaded, IsFour}
use Rattle.sha1.proofs.Schedule.{slice_index-schedule_first, slice_index-schedule_next, rounds_next}
use Rattle.sha1.specs.Sha1.{word_at, schedule, rounds, round, round_fn, round_constant}

-- ---- four lanes

pub shifts_rotate : (by : ℕ) → 0 < by → by < 32 → (x : List ℕ) → length x ≡ 4
    → zip2 bit_or (zip2 (λ w n. w * 2 ^ n % 2 ^ 32) x (by ∷ by ∷ by ∷ by ∷ []))
    (zip2 (λ w n. w / 2 ^ n) x ((32 - by) ∷ (32 - by) ∷ (32 - by) ∷ (32 - by) ∷ []))
    ≡ map (λ w. rotate_left w32 w by) x
shifts_rotate by low high =
    let left : by % 32 ≡ by = omega arith in
    let right : (32 - by) % 32 ≡ 32 - by = omega arith in
    four_lanes (λ (x : List ℕ).
    zip2 bit_or (zip2 (λ w n. w * 2 ^ n % 2 ^ 32) x (by ∷ by ∷ by ∷ by ∷ []))
    (zip2 (λ w n. w / 2 ^ n) x ((32 - by) ∷ (32 - by) ∷ (32 - by) ∷ (32 - by) ∷ []))
    ≡ map (λ w. rotate_left w32 w by) x)
    (λ a b c d. rw (left, right) refl)

-- ---- the rotation by one of an xor is the xor of the rotations

abbrev turned : ℕ → ℕ
turned x = rotate_left w32 x 1

turned_is : (x : ℕ) → x < 2 ^ 32 → turned x ≡ x % 2 ^ 31 * 2 ^ 1 + x / 2 ^ 31
turned_is x fits =
    let low : x * 2 ^ 1 % 2 ^ 32 ≡ x % 2 ^ 31 * 2 ^ 1 = omega arith in
    ap (λ y. bit_or y (x / 2 ^ 31)) low ∙ or_shifted (x % 2 ^ 31) 1 (x / 2 ^ 31) (omega arith)

turned_lt : (x : ℕ) → x < 2 ^ 32 → turned x < 2 ^ 32
turned_lt x fits = rw (turned_is x fits) (omega arith)

turned_xor : (x y : ℕ) → x < 2 ^ 32 → y < 2 ^ 32
    → turned (bit_xor x y) ≡ bit_xor (turned x) (turned y)
turned_xor x y fx fy =
    let both : bit_xor (turned x) (turned y)
    ≡ bit_xor (x % 2 ^ 31 * 2 ^ 1 + x / 2 ^ 31) (y % 2 ^ 31 * 2 ^ 1 + y / 2 ^ 31) =
    rw (turned_is x fx, turned_is y fy) refl in
    let parts : turned (bit_xor x y)
    ≡ bit_xor (x % 2 ^ 31) (y % 2 ^ 31) * 2 ^ 1 + bit_xor (x / 2 ^ 31) (y / 2 ^ 31) =
    rw (← xor_mod x y 31, ← xor_shr x y 31) (turned_is (bit_xor x y) (xor_lt 32 x y fx fy)) in
    parts
    ∙ sym (xor_block 1 (x % 2 ^ 31) (y % 2 ^ 31) (x / 2 ^ 31) (y / 2 ^ 31) (omega arith)
    (omega arith))
    ∙ sym both

twice_by_parts : (x y : ℕ) → x < 2 ^ 32 → y ≡ x % 2 ^ 31 * 2 ^ 1 + x / 2 ^ 31
    → y % 2 ^ 31 * 2 ^ 1 + y / 2 ^ 31 ≡ x % 2 ^ 30 * 2 ^ 2 + x / 2 ^ 30
twice_by_parts x y fits e = omega arith

turned_twice : (x : ℕ) → x < 2 ^ 32 → turned (turned x) ≡ rotate_left w32 x 2
turned_twice x fits =
    let low : x * 2 ^ 2 % 2 ^ 32 ≡ x % 2 ^ 30 * 2 ^ 2 = omega arith in
    let two : rotate_left w32 x 2 ≡ x % 2 ^ 30 * 2 ^ 2 + x / 2 ^ 30 =
    ap (λ y. bit_or y (x / 2 ^ 30)) low ∙ or_shifted (x % 2 ^ 30) 2 (x / 2 ^ 30) (omega arith) in
    let inner : turned x ≡ x % 2 ^ 31 * 2 ^ 1 + x / 2 ^ 31 = turned_is x fits in
    let outer : turned (turned x) ≡ turned x % 2 ^ 31 * 2 ^ 1 + turned x / 2 ^ 31 =
    turned_is (turned x) (turned_lt x fits) in
    outer ∙ twice_by_parts x (turned x) fits inner ∙ sym two

abbrev xor_four : ℕ → ℕ → ℕ → ℕ → ℕ
xor_four a b c d = bit_xor (bit_xor (bit_xor a b) c) d

xor_four_lt : (a b c d : ℕ) → a < 2 ^ 32 → b < 2 ^ 32 → c < 2 ^ 32 → d < 2 ^ 32
    → xor_four a b c d < 2 ^ 32
xor_four_lt a b c d fa fb fc fd =
    xor_lt 32 _ d (xor_lt 32 _ c (xor_lt 32 a b fa fb) fc) fd

turned_xor_four : (a b c d : ℕ) → a < 2 ^ 32 → b < 2 ^ 32 → c < 2 ^ 32 → d < 2 ^ 32
    → xor_four (turned a) (turned b) (turned c) (turned d) ≡ turned (xor_four a b c d)
turned_xor_four a b c d fa fb fc fd =
    let ab = xor_lt 32 a b fa fb in
    let abc = xor_lt 32 _ c ab fc in
    sym (turned_xor _ d abc fd
    ∙ ap (λ y. bit_xor y (turned d)) (turned_xor _ c ab fc
    ∙ ap (λ y. bit_xor y (turned c)) (turned_xor a b fa fb)))

-- each word that occurs twice cancels out
twelve_fall_out : (p q r s u v w x y z : ℕ)
    → xor_four (xor_four p q r s) (xor_four q u v w) (xor_four r v x y) (xor_four s w y z)
    ≡ xor_four p u x z
twelve_fall_out p q r s u v w x y z =
    same_from_bits _ _ (λ i. simp bit_at_xor (omega (arith, bit_at-lt p i, bit_at-lt u i)))

last_first : (p q r s : ℕ) → xor_four (bit_xor 0 p) q r s ≡ xor_four s p q r
last_first p q r s =
    ap (λ y. xor_four y q r s) (xor_zero_l p)
    ∙ xor_comm (bit_xor (bit_xor p q) r) s
    ∙ sym (ap (λ y. bit_xor y r) (xor_assoc s p q) ∙ xor_assoc s (bit_xor p q) r)

-- ---- the words of a block

module _ (block : List ℕ) where
  abbrev W : ℕ → ℕ
  W t = slice_index (schedule block 64) t

  -- a word from word 16 on, by the four words from which it is made
  word_after : (n i j k l : ℕ) → l + 16 ≡ n → l + 13 ≡ i → l + 8 ≡ j → l + 2 ≡ k → n < 80
      → W n ≡ turned (xor_four (W i) (W j) (W k) (W l))
  word_after n i j k l en ei ej ek lt =
      let a : n - 3 ≡ i = omega arith in
      let b : n - 8 ≡ j = omega arith in
      let c : n - 14 ≡ k = omega arith in
      let d : n - 16 ≡ l = omega arith in
      slice_index-schedule_next block 64 n (omega arith) (omega arith) ∙ rw (a, b, c, d) refl

  first_word_lt : AreBytesOfWord block → (t : ℕ) → t < 16 → W t < 2 ^ 32
  first_word_lt bytes t lt =
      let a = bytes (4 * t) in
      let b = bytes (4 * t + 1) in
      let c = bytes (4 * t + 2) in
      let d = bytes (4 * t + 3) in
      rw (slice_index-schedule_first block 64 t lt) (omega (arith, a, b, c, d))

  words_lt : AreBytesOfWord block → (n t : ℕ) → t < n → n ≤ 80 → W t < 2 ^ 32
  words_lt bytes zero t lt le = absurd (omega arith)
  words_lt bytes (suc n) t lt le = elim (cases_lt t 16) [
    | inl first ↦ first_word_lt bytes t first
    | inr later ↦
        rw (word_after t (t - 3) (t - 8) (t - 14) (t - 16) (omega arith) (omega arith) (omega arith)
        (omega arith) (omega arith))
        (turned_lt _ (xor_four_lt (W (t - 3)) (W (t - 8)) (W (t - 14)) (W (t - 16))
        (words_lt bytes n (t - 3) (omega arith) (omega arith))
        (words_lt bytes n (t - 8) (omega arith) (omega arith))
        (words_lt bytes n (t - 14) (omega arith) (omega arith))
        (words_lt bytes n (t - 16) (omega arith) (omega arith))))
  ]

  word_lt : AreBytesOfWord block → (t : ℕ) → t < 80 → W t < 2 ^ 32
  word_lt bytes t lt = words_lt bytes 80 t lt (omega arith)

  -- a word from word 32 on, by words that are at least six before it
  word_far : AreBytesOfWord block → (n i j k l : ℕ) → l + 32 ≡ n → l + 26 ≡ i → l + 16 ≡ j → l + 4 ≡ k
      → n < 80 → W n ≡ rotate_left w32 (xor_four (W i) (W j) (W k) (W l)) 2
  word_far bytes n i j k l en ei ej ek lt =
      let q = W (l + 21) in
      let r = W (l + 15) in
      let s = W (l + 13) in
      let v = W (l + 10) in
      let w = W (l + 8) in
      let y = W (l + 2) in
      let a = xor_four (W i) q r s in
      let b = xor_four q (W j) v w in
      let c = xor_four r v (W k) y in
      let d = xor_four s w y (W l) in
      let fit = word_lt bytes in
      let fi : W i < 2 ^ 32 = fit i (omega arith) in
      let fj : W j < 2 ^ 32 = fit j (omega arith) in
      let fk : W k < 2 ^ 32 = fit k (omega arith) in
      let fl : W l < 2 ^ 32 = fit l (omega arith) in
      let fq : q < 2 ^ 32 = fit (l + 21) (omega arith) in
      let fr : r < 2 ^ 32 = fit (l + 15) (omega arith) in
      let fs : s < 2 ^ 32 = fit (l + 13) (omega arith) in
      let fv : v < 2 ^ 32 = fit (l + 10) (omega arith) in
      let fw : w < 2 ^ 32 = fit (l + 8) (omega arith) in
      let fy : y < 2 ^ 32 = fit (l + 2) (omega arith) in
      let fa = xor_four_lt (W i) q r s fi fq fr fs in
      let fb = xor_four_lt q (W j) v w fq fj fv fw in
      let fc = xor_four_lt r v (W k) y fr fv fk fy in
      let fd = xor_four_lt s w y (W l) fs fw fy fl in
      let wa : W (l + 29) ≡ turned a = word_after (l + 29) i (l + 21) (l + 15) (l + 13)
      (omega arith) (omega arith) (omega arith) (omega arith) (omega arith) in
      let wb : W (l + 24) ≡ turned b = word_after (l + 24) (l + 21) j (l + 10) (l + 8)
      (omega arith) (omega arith) (omega arith) (omega arith) (omega arith) in
      let wc : W (l + 18) ≡ turned c = word_after (l + 18) (l + 15) (l + 10) k (l + 2)
      (omega arith) (omega arith) (omega arith) (omega arith) (omega arith) in
      let wd : W (l + 16) ≡ turned d = word_after (l + 16) (l + 13) (l + 8) (l + 2) l
      (omega arith) (omega arith) (omega arith) (omega arith) (omega arith) in
      let here : W n ≡ turned (xor_four (W (l + 29)) (W (l + 24)) (W (l + 18)) (W (l + 16))) =
      word_after n (l + 29) (l + 24) (l + 18) (l + 16)
      (omega arith) (omega arith) (omega arith) (omega arith) (omega arith) in
      let both : xor_four (W (l + 29)) (W (l + 24)) (W (l + 18)) (W (l + 16))
      ≡ turned (xor_four a b c d) =
      rw (wa, wb, wc, wd) (turned_xor_four a b c d fa fb fc fd) in
      here ∙ ap turned both ∙ turned_twice (xor_four a b c d) (xor_four_lt a b c d fa fb fc fd)
      ∙ ap (λ (x : ℕ). rotate_left w32 x 2)
      (twelve_fall_out (W i) q r s (W j) v w (W k) y (W l))

  abbrev xor_lists : List ℕ → List ℕ → List ℕ → List ℕ → List ℕ
  xor_lists a b c d = zip2 bit_xor (zip2 bit_xor (zip2 bit_xor a b) c) d

  abbrev turned_lists : ℕ → List ℕ → List ℕ
  turned_lists by x = map (λ w. rotate_left w32 w by) x

  abbrev zeros : List ℕ
  zeros = 0 ∷ 0 ∷ 0 ∷ 0 ∷ []

  abbrev unmended : ℕ → List ℕ
  unmended t = xor_lists
      (pick_l 0 (four_at (schedule block 64) (t + 12) ++ zeros) (1 ∷ 2 ∷ 3 ∷ 4 ∷ []))
      (four_at (schedule block 64) (t + 8))
      (pick_l 0 (four_at (schedule block 64) t ++ four_at (schedule block 64) (t + 4))
      (2 ∷ 3 ∷ 4 ∷ 5 ∷ []))
      (four_at (schedule block 64) t)

  pub near_four : (t : ℕ) → t + 20 ≤ 80
      → turned_lists 1 (zip2 bit_xor (unmended t)
      (pick_l 0 (zeros ++ turned_lists 1 (unmended t)) (0 ∷ 1 ∷ 2 ∷ 4 ∷ [])))
      ≡ four_at (schedule block 64) (t + 16)
  near_four t le =
      let w0 : turned (xor_four (W (t + 12 + 1)) (W (t + 8)) (W (t + 2)) (W t)) ≡ W (t + 16) =
      sym (word_after (t + 16) (t + 12 + 1) (t + 8) (t + 2) t (omega arith)
      (omega arith) (omega arith) (omega arith) (omega arith)) in
      let w1 : turned (xor_four (W (t + 12 + 2)) (W (t + 8 + 1)) (W (t + 3)) (W (t + 1)))
      ≡ W (t + 16 + 1) =
      sym (word_after (t + 16 + 1) (t + 12 + 2) (t + 8 + 1) (t + 3) (t + 1) (omega arith)
      (omega arith) (omega arith) (omega arith) (omega arith)) in
      let w2 : turned (xor_four (W (t + 12 + 3)) (W (t + 8 + 2)) (W (t + 4)) (W (t + 2)))
      ≡ W (t + 16 + 2) =
      sym (word_after (t + 16 + 2) (t + 12 + 3) (t + 8 + 2) (t + 4) (t + 2) (omega arith)
      (omega arith) (omega arith) (omega arith) (omega arith)) in
      let w3 : turned (xor_four (W (t + 16)) (W (t + 8 + 3)) (W (t + 4 + 1)) (W (t + 3)))
      ≡ W (t + 16 + 3) =
      sym (word_after (t + 16 + 3) (t + 16) (t + 8 + 3) (t + 4 + 1) (t + 3) (omega arith)
      (omega arith) (omega arith) (omega arith) (omega arith)) in
      let last : bit_xor (xor_four 0 (W (t + 8 + 3)) (W (t + 4 + 1)) (W (t + 3))) (W (t + 16))
      ≡ xor_four (W (t + 16)) (W (t + 8 + 3)) (W (t + 4 + 1)) (W (t + 3)) =
      last_first (W (t + 8 + 3)) (W (t + 4 + 1)) (W (t + 3)) (W (t + 16)) in
      same_four _ _ _ _ _ _ _ _
      (ap turned (xor_zero_r _) ∙ w0) (ap turned (xor_zero_r _) ∙ w1)
      (ap turned (xor_zero_r _) ∙ w2)
      (ap turned (ap (bit_xor _) w0 ∙ last) ∙ w3)

  pub far_four : AreBytesOfWord block → (t : ℕ) → t + 36 ≤ 80
      → turned_lists 2 (xor_lists
      (pick_l 0 (four_at (schedule block 64) (t + 24) ++ four_at (schedule block 64) (t + 28))
      (2 ∷ 3 ∷ 4 ∷ 5 ∷ []))
      (four_at (schedule block 64) (t + 16)) (four_at (schedule block 64) (t + 4))
      (four_at (schedule block 64) t))
      ≡ four_at (schedule block 64) (t + 32)
  far_four bytes t le = same_four _ _ _ _ _ _ _ _
      (sym (word_far bytes (t + 32) (t + 24 + 2) (t + 16) (t + 4) t (omega arith) (omega arith)
      (omega arith) (omega arith) (omega arith)))
      (sym (word_far bytes (t + 32 + 1) (t + 24 + 3) (t + 16 + 1) (t + 4 + 1) (t + 1) (omega arith)
      (omega arith) (omega arith) (omega arith) (omega arith)))
      (sym (word_far bytes (t + 32 + 2) (t + 28) (t + 16 + 2) (t + 4 + 2) (t + 2) (omega arith)
      (omega arith) (omega arith) (omega arith) (omega arith)))
      (sym (word_far bytes (t + 32 + 3) (t + 28 + 1) (t + 16 + 3) (t + 4 + 3) (t + 3) (omega arith)
      (omega arith) (omega arith) (omega arith) (omega arith)))

-- ---- rounds

pub rounds_step : (h words v : List ℕ) (t f : ℕ) (next : List ℕ) → v ≡ rounds h words t
    → f ≡ round_fn t (slice_index v 1) (slice_index v 2) (slice_index v 3)
    → next ≡ round v f (round_constant t) (slice_index words t) → next ≡ rounds h words (t + 1)
rounds_step h words v t f next ev ef en = rw en (rw (rounds_next h words t, ← ev, ef) refl)

pub rounds_at : (h words v : List ℕ) (n k : ℕ) → n ≡ k → v ≡ rounds h words n
    → v ≡ rounds h words k
rounds_at h words v n k e held = rw (← e) held

-- ---- writing

-- four times the constant of four rounds
pub same_constants : (k i : ℕ) → ((j : ℕ) → j < 4 → k ≡ round_constant (4 * i + j))
    → (j : ℕ) → j < 4 → slice_index (k ∷ k ∷ k ∷ k ∷ []) j ≡ round_constant (4 * i + j)
same_constants k i held j lt =
    below_four (λ j. slice_index (k ∷ k ∷ k ∷ k ∷ []) j ≡ k) refl refl refl refl j lt ∙ held j lt

-- the words of a block are the first ones of the schedule
pub IsFour_first : (block : List ℕ) (t : ℕ) (four : List ℕ) → t + 4 ≤ 16
    → four ≡ four_loaded block t → IsFour (schedule block 64) t four
IsFour_first block t four within loaded =
    let word : (k : ℕ) → k < 16 → word_at block (4 * k) ≡ slice_index (schedule block 64) k =
    λ k lt. sym (slice_index-schedule_first block 64 k lt) in
    record {
      is = loaded ∙ same_four _ _ _ _ _ _ _ _ (word t (omega arith)) (word (t + 1) (omega arith))
          (word (t + 2) (omega arith)) (word (t + 3) (omega arith));
    }

-- Holds if these are 32 words of the schedule, from word t on, in fours.
pub record AreEight (words : List ℕ) (t : ℕ) (a b c d e f g h : List ℕ) : Type 0 where
  pub is_a : IsFour words t a
  pub is_b : IsFour words (t + 4) b
  pub is_c : IsFour words (t + 8) c
  pub is_d : IsFour words (t + 12) d
  pub is_e : IsFour words (t + 16) e
  pub is_f : IsFour words (t + 20) f
  pub is_g : IsFour words (t + 24) g
  pub is_h : IsFour words (t + 28) h

-- the 32 words that begin four words later
pub eight_on : (words : List ℕ) (t u : ℕ) (a b c d e f g h next : List ℕ) → t + 4 ≡ u
    → AreEight words t a b c d e f g h → IsFour words (t + 32) next
    → AreEight words u b c d e f g h next
eight_on words t u a b c d e f g h next on eight new =
    let at : (n k : ℕ) (four : List ℕ) → n ≡ k → IsFour words n four → IsFour words k four =
    IsFour_at words in
    record {
      is_a = at (t + 4) u b (omega arith) eight.is_b;
      is_b = at (t + 8) (u + 4) c (omega arith) eight.is_c;
      is_c = at (t + 12) (u + 8) d (omega arith) eight.is_d;
      is_d = at (t + 16) (u + 12) e (omega arith) eight.is_e;
      is_e = at (t + 20) (u + 16) f (omega arith) eight.is_f;
      is_f = at (t + 24) (u + 20) g (omega arith) eight.is_g;
      is_g = at (t + 28) (u + 24) h (omega arith) eight.is_h;
      is_h = at (t + 32) (u + 28) next (omega arith) new;
    }

-- an array's five words, written out
pub five_words : (v : List ℕ) → length v ≡ 5
    → slice_index v 0 ∷ slice_index v 1 ∷ slice_index v 2 ∷ slice_index v 3 ∷ slice_index v 4 ∷ []
    ≡ v
five_words (a ∷ b ∷ c ∷ d ∷ e ∷ []) h = refl
five_words [] h = absurd (omega arith)
five_words (a ∷ []) h = absurd (omega arith)
five_words (a ∷ b ∷ []) h = absurd (omega arith)
five_words (a ∷ b ∷ c ∷ []) h = absurd (omega arith)
five_words (a ∷ b ∷ c ∷ d ∷ []) h = absurd (omega arith)
five_words (a ∷ b ∷ c ∷ d ∷ e ∷ g ∷ v) h = absurd (omega arith)

-- the result of a round, written out
pub five_rounds : (h words v : List ℕ) (t : ℕ) → v ≡ rounds h words (t + 1)
    → slice_index v 0 ∷ slice_index v 1 ∷ slice_index v 2 ∷ slice_index v 3 ∷ slice_index v 4 ∷ []
    ≡ rounds h words (t + 1)
five_rounds h words v t held =
    let len : length v ≡ 5 = ap length (held ∙ rounds_next h words t) in
    five_words v len ∙ held
