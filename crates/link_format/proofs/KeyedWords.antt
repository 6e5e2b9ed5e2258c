-- Words by fours, and with the constants of their rounds.
use Rattle.std.proofs.Common.{◌≡◌, ℕ, zero, suc, ◌+◌, ◌-◌, ◌*◌, ◌%◌, ◌^◌, ◌<◌, ◌≤◌, List, [], ◌∷◌}
use Rattle.std.proofs.Common.{◌++◌, length, slice_index, refl, sym, ap, ap₂, ◌∙◌, arith, inl, inr}
use Rattle.std.proofs.Common.{take, drop, add-zero, length-drop}
use Rattle.std.proofs.lemmas.Bool.{cases_lt}
use Rattle.std.proofs.lemmas.List.{length-take-le, get_or_append_left, get_or-append_right}
use Rattle.std.proofs.lemmas.List.{get_or-take, take_all}
use Rattle.std.proofs.lemmas.Simd.{put_chunk_whole, get_or-zip2, length-zip2, get_or-chunk}
use lib.Lanes.{zip2, put_chunk}
use borrow.Rule.Slice.PartMut.{put_mid, mid_of, post_of}
use Rattle.link_format.specs.Words.{four_at, IsFour, AreKeyedBy}
use Rattle.sha2.specs.Sha256.{add32}

-- ---- four lanes

pub four_lanes : (P : List ℕ → Type 0) → ((a b c d : ℕ) → P (a ∷ b ∷ c ∷ d ∷ []))
    → (xs : List ℕ) → length xs ≡ 4 → P xs
four_lanes P p (a ∷ b ∷ c ∷ d ∷ []) h = p a b c d
four_lanes P p [] h = absurd (omega arith)
four_lanes P p (a ∷ []) h = absurd (omega arith)
four_lanes P p (a ∷ b ∷ []) h = absurd (omega arith)
four_lanes P p (a ∷ b ∷ c ∷ []) h = absurd (omega arith)
four_lanes P p (a ∷ b ∷ c ∷ d ∷ e ∷ xs) h = absurd (omega arith)

pub below_four : (P : ℕ → Type 0) → P 0 → P 1 → P 2 → P 3 → (j : ℕ) → j < 4 → P j
below_four P p0 p1 p2 p3 zero h = p0
below_four P p0 p1 p2 p3 (suc zero) h = p1
below_four P p0 p1 p2 p3 (suc (suc zero)) h = p2
below_four P p0 p1 p2 p3 (suc (suc (suc zero))) h = p3
below_four P p0 p1 p2 p3 (suc (suc (suc (suc n)))) h = absurd (omega arith)

pub same_four : (a b c d p q r s : ℕ) → a ≡ p → b ≡ q → c ≡ r → d ≡ s
    → a ∷ b ∷ c ∷ d ∷ [] ≡ p ∷ q ∷ r ∷ s ∷ []
same_four a b c d p q r s ea eb ec ed = rw (ea, eb, ec, ed) refl

-- the same words, at an equal place
pub IsFour_at : (words : List ℕ) (n k : ℕ) (four : List ℕ) → n ≡ k → IsFour words n four
    → IsFour words k four
IsFour_at words n k four e held = rw (← e) held

-- four words at the front of what is left of a list
pub IsFour_from : (words : List ℕ) (t : ℕ) → t + 4 ≤ length words
    → IsFour words t (take 4 (take (length words - t) (drop t words)))
IsFour_from words t within =
    let four : List ℕ = take 4 (drop t words) in
    let rest : take (length words - t) (drop t words) ≡ drop t words =
    take_all (length words - t) (drop t words) (omega (arith, length-drop t words)) in
    let size : length four ≡ 4 =
    length-take-le 4 (drop t words) (omega (arith, length-drop t words)) in
    let whole : four ≡ four_at four 0 =
    four_lanes (λ xs. xs ≡ four_at xs 0) (λ a b c d. refl) four size in
    let word : (j : ℕ) → j < 4 → slice_index four j ≡ slice_index words (t + j) =
    λ j lt. get_or-chunk t 4 words j 0 lt in
    record {
      is = ap (take 4) rest ∙ whole ∙ same_four _ _ _ _ _ _ _ _
          (word 0 (omega arith) ∙ ap (slice_index words) (add-zero t)) (word 1 (omega arith))
          (word 2 (omega arith)) (word 3 (omega arith));
    }

pub word_of_four : (words four : List ℕ) (t j : ℕ) → IsFour words t four → j < 4
    → slice_index four j ≡ slice_index words (t + j)
word_of_four words four t j is lt =
    rw is.is (below_four (λ j. slice_index (four_at words t) j ≡ slice_index words (t + j))
    (ap (slice_index words) (sym (add-zero t))) refl refl refl j lt)

-- ---- writing

abbrev pub sums : List ℕ → List ℕ → List ℕ
sums = zip2 (λ x y. (x + y) % 2 ^ 32)

module _ (constant : ℕ → ℕ) where
  pub keyed_more : (words keyed four ks : List ℕ) (i : ℕ)
      → AreKeyedBy constant words keyed (4 * i)
      → IsFour words (4 * i) four → 4 * i + 4 ≤ length keyed → length ks ≡ 4
      → ((j : ℕ) → j < 4 → slice_index ks j ≡ constant (4 * i + j))
      → AreKeyedBy constant words (put_mid (4 * i) 4 keyed
      (put_chunk 0 (mid_of (4 * i) 4 keyed) (sums four ks))) (4 * (i + 1))
  keyed_more words keyed four ks i done is fits four_ks constants =
      let four_long : length four ≡ 4 = rw is.is refl in
      let sums_long : length (sums four ks) ≡ 4 =
      length-zip2 (λ x y. (x + y) % 2 ^ 32) four ks (omega arith) ∙ four_long in
      let mid_long : length (mid_of (4 * i) 4 keyed) ≡ 4 =
      length-take-le 4 (drop (4 * i) keyed) (omega (arith, length-drop (4 * i) keyed)) in
      let whole : put_chunk 0 (mid_of (4 * i) 4 keyed) (sums four ks) ≡ sums four ks =
      put_chunk_whole (mid_of (4 * i) 4 keyed) (sums four ks) (omega arith) in
      let front_long : length (take (4 * i) keyed) ≡ 4 * i =
      length-take-le (4 * i) keyed (omega arith) in
      let rest : List ℕ = post_of (4 * i) 4 keyed in
      record {
        is = λ t below. rw whole (elim (cases_lt t (4 * i)) [
          | inl before ↦
              get_or_append_left (take (4 * i) keyed) (sums four ks ++ rest) 0 t (omega arith)
              ∙ get_or-take (4 * i) keyed t 0 before ∙ done.is t before
          | inr after ↦
              let j : ℕ = t - 4 * i in
              let near : j < 4 = omega arith in
              let place : 4 * i + j ≡ t = omega arith in
              let sum : slice_index (sums four ks) j
              ≡ add32 (slice_index four j) (slice_index ks j) =
              get_or-zip2 (λ x y. (x + y) % 2 ^ 32) four ks j 0 0 0 (omega arith) (omega arith) in
              let same_k : slice_index ks j ≡ constant t = rw place at (constants j near) in
              let same_word : slice_index four j ≡ slice_index words t =
              rw place at (word_of_four words four (4 * i) j is near) in
              get_or-append_right (take (4 * i) keyed) (sums four ks ++ rest) (4 * i) t 0 front_long
              after
              ∙ get_or_append_left (sums four ks) rest 0 j (omega arith) ∙ sum
              ∙ ap₂ add32 same_word same_k
        ]);
      }

  -- nothing is written yet
  pub keyed_none : (words keyed : List ℕ) → AreKeyedBy constant words keyed 0
  keyed_none words keyed = record { is = λ t lt. absurd (omega arith) }

  -- an equal count
  pub AreKeyed_at : (words keyed : List ℕ) (n k : ℕ) → n ≡ k → AreKeyedBy constant words keyed n
      → AreKeyedBy constant words keyed k
  AreKeyed_at words keyed n k e held = rw (← e) held
