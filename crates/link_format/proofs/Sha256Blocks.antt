-- SHA-256's schedule by fours, and the rounds over words that come with their constants.
use Rattle.std.proofs.Common.{◌≡◌, ℕ, ◌+◌, ◌-◌, ◌*◌, ◌/◌, ◌%◌, ◌^◌, ◌<◌, ◌≤◌, List, [], ◌∷◌, ◌++◌}
use Rattle.std.proofs.Common.{length, slice_index, map, refl, sym, ap, ◌∙◌, arith}
use Rattle.std.proofs.Common.{bit_or, bit_xor}
use Rattle.std.specs.Int.{w32, rotate_right}
use lib.Lanes.{zip2, pick_l}
use Rattle.link_format.proofs.KeyedWords.{four_lanes, same_four, sums}
use Rattle.link_format.specs.Words.{four_at, four_loaded, IsFour}
use Rattle.sha2.proofs.Schedule256.{slice_index-schedule_first, slice_index-schedule_next}
use Rattle.sha2.proofs.Schedule256.{rounds_next}
use Rattle.sha2.specs.Sha256.{add32, word_at, small_sigma0, small_sigma1, schedule, rounds, round}
use Rattle.sha2.specs.Sha256.{round_constants}

-- ---- four lanes

pub shifts_rotate : (by : ℕ) → 0 < by → by < 32 → (x : List ℕ) → length x ≡ 4
    → zip2 bit_or (zip2 (λ w n. w / 2 ^ n) x (by ∷ by ∷ by ∷ by ∷ []))
    (zip2 (λ w n. w * 2 ^ n % 2 ^ 32) x ((32 - by) ∷ (32 - by) ∷ (32 - by) ∷ (32 - by) ∷ []))
    ≡ map (λ w. rotate_right w32 w by) x
shifts_rotate by low high =
    let right : by % 32 ≡ by = omega arith in
    let left : (32 - by) % 32 ≡ 32 - by = omega arith in
    four_lanes (λ (x : List ℕ).
    zip2 bit_or (zip2 (λ w n. w / 2 ^ n) x (by ∷ by ∷ by ∷ by ∷ []))
    (zip2 (λ w n. w * 2 ^ n % 2 ^ 32) x ((32 - by) ∷ (32 - by) ∷ (32 - by) ∷ (32 - by) ∷ []))
    ≡ map (λ w. rotate_right w32 w by) x)
    (λ a b c d. rw (right, left) refl)

-- two rotations and a shift of each lane
pub sigma_lanes : (i j k : ℕ) (x : List ℕ) → length x ≡ 4
    → zip2 bit_xor (zip2 bit_xor (map (λ w. rotate_right w32 w i) x)
    (map (λ w. rotate_right w32 w j) x)) (zip2 (λ w n. w / 2 ^ n) x (k ∷ k ∷ k ∷ k ∷ []))
    ≡ map (λ w. bit_xor (bit_xor (rotate_right w32 w i) (rotate_right w32 w j)) (w / 2 ^ k)) x
sigma_lanes i j k = four_lanes (λ (x : List ℕ).
    zip2 bit_xor (zip2 bit_xor (map (λ w. rotate_right w32 w i) x)
    (map (λ w. rotate_right w32 w j) x)) (zip2 (λ w n. w / 2 ^ n) x (k ∷ k ∷ k ∷ k ∷ []))
    ≡ map (λ w. bit_xor (bit_xor (rotate_right w32 w i) (rotate_right w32 w j)) (w / 2 ^ k)) x)
    (λ a b c d. refl)

-- ---- the words of a block

-- the terms of a word, added in the order of the lanes, with 0 as the last
last_none : (a b c d : ℕ)
    → add32 (add32 (add32 (add32 a b) c) d) 0 ≡ add32 (add32 (add32 d c) b) a
last_none a b c d = omega arith

-- the terms of a word, added in the order of the lanes, with 0 as the last but one
before_none : (a b c d : ℕ)
    → add32 (add32 (add32 (add32 a b) c) 0) d ≡ add32 (add32 (add32 d c) b) a
before_none a b c d = omega arith

without_none : (a b c d : ℕ)
    → add32 (add32 (add32 a b) c) d ≡ add32 (add32 (add32 d c) b) a
without_none a b c d = omega arith

module _ (block : List ℕ) where
  abbrev W : ℕ → ℕ
  W t = slice_index (schedule block 48) t

  -- a word from word 16 on, by the four words from which it is made
  word_after : (n i j k l : ℕ) → l + 16 ≡ n → l + 14 ≡ i → l + 9 ≡ j → l + 1 ≡ k → n < 64
      → add32 (add32 (add32 (small_sigma1 (W i)) (W j)) (small_sigma0 (W k))) (W l) ≡ W n
  word_after n i j k l en ei ej ek lt =
      let a : n - 2 ≡ i = omega arith in
      let b : n - 7 ≡ j = omega arith in
      let c : n - 15 ≡ k = omega arith in
      let d : n - 16 ≡ l = omega arith in
      sym (slice_index-schedule_next block 48 n (omega arith) (omega arith) ∙ rw (a, b, c, d) refl)

  -- the words of the block are the first ones of the schedule
  pub IsFour_first : (t : ℕ) (four : List ℕ) → t + 4 ≤ 16 → four ≡ four_loaded block t
      → IsFour (schedule block 48) t four
  IsFour_first t four within loaded =
      let word : (k : ℕ) → k < 16 → word_at block (4 * k) ≡ W k =
      λ k lt. sym (slice_index-schedule_first block 48 k lt) in
      record {
        is = loaded ∙ same_four _ _ _ _ _ _ _ _ (word t (omega arith)) (word (t + 1) (omega arith))
            (word (t + 2) (omega arith)) (word (t + 3) (omega arith));
      }

  abbrev four : ℕ → List ℕ
  four t = four_at (schedule block 48) t

  abbrev zeros : List ℕ
  zeros = 0 ∷ 0 ∷ 0 ∷ 0 ∷ []

  abbrev sigma0s : List ℕ → List ℕ
  sigma0s x = map (λ w. small_sigma0 w) x

  abbrev sigma1s : List ℕ → List ℕ
  sigma1s x = map (λ w. small_sigma1 w) x

  -- four sums, the first two of which are whole words of the schedule already
  abbrev half_done : ℕ → List ℕ
  half_done t = sums
      (sums (sums (four t) (sigma0s (pick_l 0 (four t ++ four (t + 4)) (1 ∷ 2 ∷ 3 ∷ 4 ∷ []))))
      (pick_l 0 (four (t + 8) ++ four (t + 12)) (1 ∷ 2 ∷ 3 ∷ 4 ∷ [])))
      (sigma1s (pick_l 0 (four (t + 12) ++ zeros) (2 ∷ 3 ∷ 4 ∷ 4 ∷ [])))

  pub next_four : (t : ℕ) → t + 20 ≤ 64
      → sums (half_done t) (sigma1s (pick_l 0 (zeros ++ half_done t) (0 ∷ 0 ∷ 4 ∷ 5 ∷ [])))
      ≡ four (t + 16)
  next_four t le =
      let s0 : ℕ → ℕ = λ k. small_sigma0 (W k) in
      let s1 : ℕ → ℕ = λ k. small_sigma1 (W k) in
      let w0 = word_after (t + 16) (t + 12 + 2) (t + 8 + 1) (t + 1) t (omega arith) (omega arith)
      (omega arith) (omega arith) (omega arith) in
      let w1 = word_after (t + 16 + 1) (t + 12 + 3) (t + 8 + 2) (t + 2) (t + 1) (omega arith)
      (omega arith) (omega arith) (omega arith) (omega arith) in
      let w2 = word_after (t + 16 + 2) (t + 16) (t + 8 + 3) (t + 3) (t + 2) (omega arith)
      (omega arith) (omega arith) (omega arith) (omega arith) in
      let w3 = word_after (t + 16 + 3) (t + 16 + 1) (t + 12) (t + 4) (t + 3) (omega arith)
      (omega arith) (omega arith) (omega arith) (omega arith) in
      let u0 : add32 (add32 (add32 (W t) (s0 (t + 1))) (W (t + 8 + 1))) (s1 (t + 12 + 2))
      ≡ W (t + 16) = without_none _ _ _ _ ∙ w0 in
      let u1 : add32 (add32 (add32 (W (t + 1)) (s0 (t + 2))) (W (t + 8 + 2))) (s1 (t + 12 + 3))
      ≡ W (t + 16 + 1) = without_none _ _ _ _ ∙ w1 in
      same_four _ _ _ _ _ _ _ _
      (last_none (W t) (s0 (t + 1)) (W (t + 8 + 1)) (s1 (t + 12 + 2)) ∙ w0)
      (last_none (W (t + 1)) (s0 (t + 2)) (W (t + 8 + 2)) (s1 (t + 12 + 3)) ∙ w1)
      (ap (λ x. add32 (add32 (add32 (add32 (W (t + 2)) (s0 (t + 3))) (W (t + 8 + 3))) 0)
      (small_sigma1 x)) u0
      ∙ before_none (W (t + 2)) (s0 (t + 3)) (W (t + 8 + 3)) (s1 (t + 16)) ∙ w2)
      (ap (λ x. add32 (add32 (add32 (add32 (W (t + 3)) (s0 (t + 4))) (W (t + 12))) 0)
      (small_sigma1 x)) u1
      ∙ before_none (W (t + 3)) (s0 (t + 4)) (W (t + 12)) (s1 (t + 16 + 1)) ∙ w3)

-- Holds if these are sixteen words of the schedule, from word t on, in fours.
pub record AreSixteen (words : List ℕ) (t : ℕ) (a b c d : List ℕ) : Type 0 where
  pub is_a : IsFour words t a
  pub is_b : IsFour words (t + 4) b
  pub is_c : IsFour words (t + 8) c
  pub is_d : IsFour words (t + 12) d

-- ---- rounds

pub rounds_step : (h words v : List ℕ) (t : ℕ) (next : List ℕ) → v ≡ rounds h words t
    → next ≡ round v (slice_index round_constants t) (slice_index words t)
    → next ≡ rounds h words (t + 1)
rounds_step h words v t next ev en = rw en (rw (rounds_next h words t, ← ev) refl)

pub rounds_at : (h words v : List ℕ) (n k : ℕ) → n ≡ k → v ≡ rounds h words n
    → v ≡ rounds h words k
rounds_at h words v n k e held = rw (← e) held
