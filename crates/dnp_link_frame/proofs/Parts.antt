-- How many bytes of a part are right. A part is `n` bytes of any value and their CRC.
use Rattle.dnp_link_frame.specs.{Beginnings.right_in_part, Crc.crc_dnp, Frame.with_crc}
use Rattle.line_rules.specs.Bytes.{AreBytes, low_first}
use Rattle.std.proofs.Common.{◌≡◌, ℕ, ◌+◌, ◌-◌, ◌/◌, ◌%◌, ◌<◌, ◌≤◌, nat_le, nat_lt, ◌&&◌, ◌==◌}
use Rattle.std.proofs.Common.{Bool, true, false, List, [], ◌∷◌, ◌++◌, length, take, get_or, arith}
use Rattle.std.proofs.Common.{sym, ◌∙◌, ap, ⊎_elim, length-append, append_assoc, append-nil}
use Rattle.std.proofs.Common.{replicate}
use Rattle.std.proofs.lemmas.Bool.{cases_lt, cases_Bool, cond-true, cond-false, and_from, and_parts}
use Rattle.std.proofs.lemmas.Bool.{le-leb, lt-leb, lt-ltb, eq-eqb, eqb-true, ltb-true}
use Rattle.std.proofs.lemmas.List.{take_all, take_more, length-take-le, length-replicate, get_or_at}
use Rattle.std.proofs.lemmas.List.{take-append-le, get_or_append_left, get_or-take, take_at}
use Rattle.std.proofs.lemmas.List.{length-take, take-take}
use Rattle.std.proofs.lemmas.List.Elements.{All-append, All-take, All-replicate}

-- Holds if `whole` begins with `x`.
pub record Starts (x whole : List ℕ) : Type 0 where
  pub rest : List ℕ
  pub is : whole ≡ x ++ rest

-- the bytes before the CRC, with zeros in place of those that haven't come
abbrev pub part_data : ℕ → List ℕ → List ℕ
part_data n x = take n x ++ replicate (n - length x) 0

pub length-part_data : (n : ℕ) (x : List ℕ) → length (part_data n x) ≡ n
length-part_data n x =
    omega (
      arith,
      length-append (take n x) (replicate (n - length x) 0),
      length-take n x,
      length-replicate {A = ℕ} (n - length x) 0,
    )

pub part_data-bytes : (n : ℕ) (x : List ℕ) → AreBytes x → AreBytes (part_data n x)
part_data-bytes n x bytes =
    All-append (λ b. b < 256) (take n x) (replicate (n - length x) 0)
    (All-take (λ b. b < 256) n x bytes)
    (All-replicate (λ b. b < 256) (n - length x) 0 (omega arith))

-- If all of them have come, there are no zeros.
pub part_data-whole : (n : ℕ) (x : List ℕ) → n ≤ length x → part_data n x ≡ take n x
part_data-whole n x whole =
    let none : n - length x ≡ 0 = omega arith in
    ap (λ k. take n x ++ replicate k 0) none ∙ append-nil (take n x)

-- ---- the four cases

module _ (n : ℕ) (x : List ℕ) where
  abbrev high_is_right : Bool
  high_is_right = nat_lt (n + 1) (length x) && get_or x (n + 1) 0 == crc_dnp (take n x) / 256

  right_in_part-short : length x ≤ n → right_in_part n x ≡ length x
  unfolding right_in_part
  right_in_part-short short = cond-true (nat_le (length x) n) _ _ (le-leb (length x) n short)

  right_in_part-data : n < length x → (get_or x n 0 == crc_dnp (take n x) % 256) ≡ false
      → right_in_part n x ≡ n
  unfolding right_in_part
  right_in_part-data long wrong =
      cond-false (nat_le (length x) n) _ _ (lt-leb (length x) n long)
      ∙ cond-false (get_or x n 0 == crc_dnp (take n x) % 256) _ _ wrong

  right_in_part-low : n < length x → (get_or x n 0 == crc_dnp (take n x) % 256) ≡ true
      → high_is_right ≡ false → right_in_part n x ≡ n + 1
  unfolding right_in_part
  right_in_part-low long low wrong =
      cond-false (nat_le (length x) n) _ _ (lt-leb (length x) n long)
      ∙ (cond-true (get_or x n 0 == crc_dnp (take n x) % 256) _ _ low
      ∙ cond-false high_is_right _ _ wrong)

  right_in_part-whole : n < length x → (get_or x n 0 == crc_dnp (take n x) % 256) ≡ true
      → high_is_right ≡ true → right_in_part n x ≡ n + 2
  unfolding right_in_part
  right_in_part-whole long low high =
      cond-false (nat_le (length x) n) _ _ (lt-leb (length x) n long)
      ∙ (cond-true (get_or x n 0 == crc_dnp (take n x) % 256) _ _ low
      ∙ cond-true high_is_right _ _ high)

  take_low : n < length x → (get_or x n 0 == crc_dnp (take n x) % 256) ≡ true
      → take (n + 1) x ≡ take n x ++ (crc_dnp (take n x) % 256) ∷ []
  take_low long low =
      take_more x n 0 long ∙ ap (λ b. take n x ++ b ∷ []) (eqb-true _ _ low)

  take_high : n < length x → (get_or x n 0 == crc_dnp (take n x) % 256) ≡ true
      → high_is_right ≡ true → take (n + 2) x ≡ with_crc (take n x)
  take_high long low high =
      let both = and_parts _ _ high in
      let there : n + 1 < length x = ltb-true (n + 1) (length x) both.0 in
      let next : n + 1 + 1 ≡ n + 2 = omega arith in
      ap (λ k. take k x) (sym next)
      ∙ (take_more x (n + 1) 0 there
      ∙ (ap (λ b. take (n + 1) x ++ b ∷ []) (eqb-true _ _ both.1)
      ∙ (ap (λ y. y ++ (crc_dnp (take n x) / 256) ∷ []) (take_low long low)
      ∙ append_assoc (take n x) (crc_dnp (take n x) % 256 ∷ []) (crc_dnp (take n x) / 256 ∷ []))))

  -- The bytes that are right begin a part.
  part_starts-short : length x ≤ n → Starts (take (right_in_part n x) x) (with_crc (part_data n x))
  part_starts-short short = record {
    rest = replicate (n - length x) 0 ++ low_first (crc_dnp (part_data n x));
    is = append_assoc (take n x) (replicate (n - length x) 0) (low_first (crc_dnp (part_data n x)))
        ∙ ap (λ y. y ++ (replicate (n - length x) 0 ++ low_first (crc_dnp (part_data n x))))
        (take_all n x short
        ∙ sym (ap (λ k. take k x) (right_in_part-short short)
        ∙ take_all (length x) x (omega arith)));
  }

  part_starts-data : n < length x → (get_or x n 0 == crc_dnp (take n x) % 256) ≡ false
      → Starts (take (right_in_part n x) x) (with_crc (part_data n x))
  part_starts-data long wrong = record {
    rest = low_first (crc_dnp (take n x));
    is = ap with_crc (part_data-whole n x (omega arith))
        ∙ ap (λ k. take k x ++ low_first (crc_dnp (take n x)))
        (sym (right_in_part-data long wrong));
  }

  part_starts-low : n < length x → (get_or x n 0 == crc_dnp (take n x) % 256) ≡ true
      → high_is_right ≡ false → Starts (take (right_in_part n x) x) (with_crc (part_data n x))
  part_starts-low long low wrong = record {
    rest = (crc_dnp (take n x) / 256) ∷ [];
    is = ap with_crc (part_data-whole n x (omega arith))
        ∙ (sym (append_assoc (take n x) (crc_dnp (take n x) % 256 ∷ [])
        (crc_dnp (take n x) / 256 ∷ []))
        ∙ ap (λ y. y ++ (crc_dnp (take n x) / 256) ∷ [])
        (sym (ap (λ k. take k x) (right_in_part-low long low wrong) ∙ take_low long low)));
  }

  part_starts-whole : n < length x → (get_or x n 0 == crc_dnp (take n x) % 256) ≡ true
      → high_is_right ≡ true → Starts (take (right_in_part n x) x) (with_crc (part_data n x))
  part_starts-whole long low high = record {
    rest = [];
    is = ap with_crc (part_data-whole n x (omega arith))
        ∙ (sym (ap (λ k. take k x) (right_in_part-whole long low high) ∙ take_high long low high)
        ∙ sym (append-nil (take (right_in_part n x) x)));
  }

  pub part_starts : Starts (take (right_in_part n x) x) (with_crc (part_data n x))
  part_starts =
      ⊎_elim
      (λ long. ⊎_elim
      (λ low. ⊎_elim
      (λ high. part_starts-whole long low high)
      (λ wrong. part_starts-low long low wrong)
      (cases_Bool high_is_right))
      (λ wrong. part_starts-data long wrong)
      (cases_Bool (get_or x n 0 == crc_dnp (take n x) % 256)))
      (λ short. part_starts-short short)
      (cases_lt n (length x))

  -- the bounds of the number of right bytes, and what is known if all of them are right
  pub record PartBounds : Type 0 where
    pub within : right_in_part n x ≤ length x
    pub at_most : right_in_part n x ≤ n + 2
    pub whole : right_in_part n x ≡ n + 2 → take (n + 2) x ≡ with_crc (take n x)

  pub part_bounds : PartBounds
  part_bounds =
      ⊎_elim
      (λ long. ⊎_elim
      (λ low. ⊎_elim
      (λ high.
      let e = right_in_part-whole long low high in
      let there : n + 1 < length x = ltb-true (n + 1) (length x) (and_parts _ _ high).0 in
      record { within = omega arith; at_most = omega arith; whole = λ is. take_high long low high })
      (λ wrong.
      let e = right_in_part-low long low wrong in
      record { within = omega arith; at_most = omega arith; whole = λ is. absurd (omega arith) })
      (cases_Bool high_is_right))
      (λ wrong.
      let e = right_in_part-data long wrong in
      record { within = omega arith; at_most = omega arith; whole = λ is. absurd (omega arith) })
      (cases_Bool (get_or x n 0 == crc_dnp (take n x) % 256)))
      (λ short.
      let e = right_in_part-short short in
      record { within = omega arith; at_most = omega arith; whole = λ is. absurd (omega arith) })
      (cases_lt n (length x))

-- ---- no longer beginning begins a part

-- If the first `m` bytes of `x` begin a part, each of them is the part's byte at its place.
part_at : (n m i : ℕ) (x data' rest : List ℕ) → with_crc data' ≡ take m x ++ rest → i < m
    → m ≤ length x → get_or x i 0 ≡ get_or (with_crc data') i 0
part_at n m i x data' rest is before within =
    sym (ap (λ y. get_or y i 0) is
    ∙ (get_or_append_left (take m x) rest 0 i (omega (arith, length-take-le m x within))
    ∙ get_or-take m x i 0 before))

part_front : (n m : ℕ) (x data' rest : List ℕ) → with_crc data' ≡ take m x ++ rest → n ≤ m
    → m ≤ length x → length data' ≡ n → take n x ≡ data'
part_front n m x data' rest is before within len =
    sym (sym (take_at data' (low_first (crc_dnp data')) n len)
    ∙ (ap (take n) is
    ∙ (take-append-le n (take m x) rest (omega (arith, length-take-le m x within))
    ∙ take-take n m x before)))

pub part_longest : (n m : ℕ) (x data' rest : List ℕ) → with_crc data' ≡ take m x ++ rest
    → m ≤ length x → length data' ≡ n → m ≤ right_in_part n x
part_longest n m x data' rest is within len =
    let total : length (with_crc data') ≡ n + 2 =
    omega (arith, length-append data' (low_first (crc_dnp data'))) in
    let taken : length (take m x ++ rest) ≡ m + length rest =
    omega (arith, length-append (take m x) rest, length-take-le m x within) in
    let sizes : n + 2 ≡ m + length rest = sym total ∙ (ap length is ∙ taken) in
    ⊎_elim
    (λ long. ⊎_elim
    (λ beyond.
    let front = part_front n m x data' rest is (omega arith) within len in
    let low : (get_or x n 0 == crc_dnp (take n x) % 256) ≡ true =
    eq-eqb _ _ (part_at n m n x data' rest is beyond within
    ∙ (get_or_at data' (crc_dnp data' % 256) (crc_dnp data' / 256 ∷ []) 0 n len
    ∙ ap (λ y. crc_dnp y % 256) (sym front))) in
    ⊎_elim
    (λ whole.
    let apart : with_crc data'
    ≡ (data' ++ (crc_dnp data' % 256) ∷ []) ++ (crc_dnp data' / 256) ∷ [] =
    sym (append_assoc data' (crc_dnp data' % 256 ∷ []) (crc_dnp data' / 256 ∷ [])) in
    let high : high_is_right n x ≡ true =
    and_from _ _ (lt-ltb (n + 1) (length x) (omega arith))
    (eq-eqb _ _ (part_at n m (n + 1) x data' rest is (omega arith) within
    ∙ (ap (λ y. get_or y (n + 1) 0) apart
    ∙ (get_or_at (data' ++ (crc_dnp data' % 256) ∷ []) (crc_dnp data' / 256) [] 0 (n + 1)
    (omega (arith, length-append data' (crc_dnp data' % 256 ∷ [])))
    ∙ ap (λ y. crc_dnp y / 256) (sym front))))) in
    let e = right_in_part-whole n x long low high in omega arith)
    (λ short.
    ⊎_elim
    (λ high. let e = right_in_part-whole n x long low high in omega arith)
    (λ wrong. let e = right_in_part-low n x long low wrong in omega arith)
    (cases_Bool (high_is_right n x)))
    (cases_lt (n + 1) m))
    (λ inside. ⊎_elim
    (λ low. ⊎_elim
    (λ high. let e = right_in_part-whole n x long low high in omega arith)
    (λ wrong. let e = right_in_part-low n x long low wrong in omega arith)
    (cases_Bool (high_is_right n x)))
    (λ wrong. let e = right_in_part-data n x long wrong in omega arith)
    (cases_Bool (get_or x n 0 == crc_dnp (take n x) % 256)))
    (cases_lt n m))
    (λ short. let e = right_in_part-short n x short in omega arith)
    (cases_lt n (length x))
