-- What the nearest whole number is, and how many ticks there are on either side of silences of 1.5
-- and 3.5 characters.
use Rattle.line_stamps.specs.Parts.{rounded, ticks_apart}
use Rattle.std.proofs.Common.{◌≡◌, ◌∙◌, ℕ, suc, ◌+◌, ◌*◌, ◌<◌, ◌≤◌, ◌↔◌, ⊎_elim, arith, max}
use Rattle.std.proofs.Math.Nat.{mul-le-mul_right}
use Rattle.std.proofs.lemmas.Bool.{cases_lt, cases_eq, cond-true, cond-false, eq-eqb, ne_eqb}
use Rattle.std.proofs.lemmas.Nat.{div_below, le-div}

module _ (unit : ℕ) (some : 0 < unit) where
  double : 0 < 2 * unit
  double = omega arith

  -- A time is rounded to k units or more exactly if it is at least k units less half a unit.
  pub rounded-least : (time k : ℕ) → 2 * (k * unit) ≤ 2 * time + unit → k ≤ rounded time unit
  rounded-least time k h =
      let h' : k * (2 * unit) ≤ 2 * time + unit = omega arith in
      le-div k (2 * time + unit) (2 * unit) double h'

  pub rounded-below : (time k : ℕ) → 2 * time + unit < 2 * (k * unit) → rounded time unit < k
  rounded-below time k h =
      let h' : 2 * time + unit < k * (2 * unit) = omega arith in
      div_below (2 * time + unit) (2 * unit) k double h'

  pub rounded-is : (time k : ℕ) → 2 * (k * unit) ≤ 2 * time + unit
      → 2 * time < 2 * (k * unit) + unit → rounded time unit ≡ k
  rounded-is time k low high =
      let least : k ≤ rounded time unit = rounded-least time k low in
      let most : rounded time unit < suc k =
      (let e : suc k * unit ≡ k * unit + unit = omega arith in
      rounded-below time (suc k) (omega arith)) in
      omega arith

  -- A rounded time is at most half a unit off.
  pub rounded-most : (time : ℕ) → 2 * (rounded time unit * unit) ≤ 2 * time + unit
  rounded-most time =
      ⊎_elim (λ less. absurd (let no : rounded time unit < rounded time unit =
      rounded-below time (rounded time unit) less in omega arith)) (λ h. h)
      (cases_lt (2 * time + unit) (2 * (rounded time unit * unit)))

  pub rounded-some : (time : ℕ) → 2 * time < 2 * (rounded time unit * unit) + unit
  rounded-some time =
      ⊎_elim (λ h. h)
      (λ more. absurd (let e : suc (rounded time unit) * unit ≡ rounded time unit * unit + unit =
      omega arith in
      let no : suc (rounded time unit) ≤ rounded time unit =
      rounded-least time (suc (rounded time unit)) (omega arith) in omega arith))
      (cases_lt (2 * time) (2 * (rounded time unit * unit) + unit))

module _ (length_of_one : ℕ) (some : 0 < length_of_one) (gap : ℕ) where
  on-the-edge : 2 * gap ≡ 5 * length_of_one → ticks_apart gap length_of_one ≡ 2
  on-the-edge same = cond-true _ _ _ (eq-eqb (2 * gap) (5 * length_of_one) same)

  off-the-edge : (2 * gap ≡ 5 * length_of_one → ⊥)
      → ticks_apart gap length_of_one ≡ max (rounded gap length_of_one) 1
  off-the-edge other = cond-false _ _ _ (ne_eqb (2 * gap) (5 * length_of_one) other)

  -- There is always at least one tick.
  pub apart-some : 0 < ticks_apart gap length_of_one
  apart-some =
      ⊎_elim (λ same. rw (on-the-edge same) (omega arith))
      (λ other. rw (off-the-edge other) (omega arith))
      (cases_eq (2 * gap) (5 * length_of_one))

  -- There is one tick for a time of less than 1.5 characters.
  pub apart-one : 2 * gap < 3 * length_of_one → ticks_apart gap length_of_one ≡ 1
  apart-one less =
      let below : rounded gap length_of_one < 2 =
      rounded-below length_of_one some gap 2 (omega arith) in
      off-the-edge (λ same. omega arith) ∙ omega arith

  -- For a time of 1.5 characters or more, other than 2.5, it is the nearest number of ticks.
  pub apart-nearest : 3 * length_of_one ≤ 2 * gap → (2 * gap ≡ 5 * length_of_one → ⊥)
      → ticks_apart gap length_of_one ≡ rounded gap length_of_one
  apart-nearest more other =
      let least : 1 ≤ rounded gap length_of_one =
      rounded-least length_of_one some gap 1 (omega arith) in
      off-the-edge other ∙ omega arith

  -- There is at most one silent tick exactly if the silence is at most 1.5 characters.
  pub apart-inside : (ticks_apart gap length_of_one ≤ 2) ↔ (2 * gap ≤ 5 * length_of_one)
  apart-inside =
      ⊎_elim
      (λ same. (λ h. omega arith, λ h. let e = on-the-edge same in omega arith))
      (λ other. let e = off-the-edge other in (
        λ h. let least : 2 * gap + length_of_one < 2 * (3 * length_of_one) =
            ⊎_elim (λ less. less)
            (λ more. absurd (let no : 3 ≤ rounded gap length_of_one =
            rounded-least length_of_one some gap 3 more in omega arith))
            (cases_lt (2 * gap + length_of_one) (2 * (3 * length_of_one))) in omega arith,
        λ h. let below : rounded gap length_of_one < 3 =
            rounded-below length_of_one some gap 3 (omega arith) in omega arith,
      ))
      (cases_eq (2 * gap) (5 * length_of_one))

  -- There are four silent ticks or more exactly if the silence is at least 3.5 characters.
  pub apart-end : (5 ≤ ticks_apart gap length_of_one) ↔ (9 * length_of_one ≤ 2 * gap)
  apart-end =
      ⊎_elim
      (λ same. let e = on-the-edge same in (λ h. absurd (omega arith), λ h. absurd (omega arith)))
      (λ other. let e = off-the-edge other in (
        λ h. ⊎_elim (λ less. absurd (let no : rounded gap length_of_one < 5 =
            rounded-below length_of_one some gap 5 less in omega arith)) (λ more. omega arith)
            (cases_lt (2 * gap + length_of_one) (2 * (5 * length_of_one))),
        λ h. let least : 5 ≤ rounded gap length_of_one =
            rounded-least length_of_one some gap 5 (omega arith) in omega arith,
      ))
      (cases_eq (2 * gap) (5 * length_of_one))

  module _ (apart : length_of_one ≤ 2 * gap) where
    one : 1 ≤ rounded gap length_of_one
    one = rounded-least length_of_one some gap 1 (omega arith)

    -- Unless the two overlap, the number of ticks is at most half a tick off.
    pub apart-most : 2 * (ticks_apart gap length_of_one * length_of_one) ≤ 2 * gap + length_of_one
    apart-most =
        ⊎_elim (λ same. rw (on-the-edge same) (omega arith))
        (λ other. let e : ticks_apart gap length_of_one ≡ rounded gap length_of_one =
        off-the-edge other ∙ omega (arith, one) in
        rw e (rounded-most length_of_one some gap))
        (cases_eq (2 * gap) (5 * length_of_one))

    pub apart-least : 2 * gap ≤ 2 * (ticks_apart gap length_of_one * length_of_one) + length_of_one
    apart-least =
        ⊎_elim (λ same. rw (on-the-edge same) (omega arith))
        (λ other. let e : ticks_apart gap length_of_one ≡ rounded gap length_of_one =
        off-the-edge other ∙ omega (arith, one) in
        rw e (let h = rounded-some length_of_one some gap in omega arith))
        (cases_eq (2 * gap) (5 * length_of_one))

  -- 2.5 characters are half a character off from each whole number.
  off-by-half : (k : ℕ) → 2 * (k * length_of_one) < 6 * length_of_one
      → 4 * length_of_one < 2 * (k * length_of_one) → ⊥
  off-by-half k less more =
      ⊎_elim
      (λ two. let h = mul-le-mul_right length_of_one (let two' : k ≤ 2 = omega arith in two') in
      omega arith)
      (λ three. let h = mul-le-mul_right length_of_one three in omega arith)
      (cases_lt k 3)

  -- If the time is less than half a character off from k characters, there are k ticks.
  pub apart-is : (k : ℕ) → 0 < k → 2 * (k * length_of_one) < 2 * gap + length_of_one
      → 2 * gap < 2 * (k * length_of_one) + length_of_one → ticks_apart gap length_of_one ≡ k
  apart-is k positive low high =
      ⊎_elim
      (λ same. absurd (off-by-half k (omega arith) (omega arith)))
      (λ other. let e : rounded gap length_of_one ≡ k =
      rounded-is length_of_one some gap k (omega arith) high in
      off-the-edge other ∙ omega arith)
      (cases_eq (2 * gap) (5 * length_of_one))
