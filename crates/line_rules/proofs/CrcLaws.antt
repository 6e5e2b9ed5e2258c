-- The register, one step at a time.
use Rattle.line_rules.specs.Crc.{bit_step, bit_steps, byte_step, crc}
use Rattle.std.proofs.Common.{◌*◌, ◌++◌, take, ◌≡◌, ℕ, zero, suc, ◌+◌, ◌-◌, ◌/◌, ◌%◌, ◌^◌, ◌<◌, ◌≤◌}
use Rattle.std.proofs.Common.{◌∷◌, List, [], length, get_or, drop, refl, arith, sym, ◌∙◌, ap}
use Rattle.std.proofs.{Common.bit_and, Common.nat_eq, Common.add-one, Math.ListN.drop_of_length-le}
use Rattle.std.proofs.Math.{Nat.mod-eq_of_lt, Nat.pow-succ', Nat.mul_assoc, Seq.drop-cons}
use Rattle.std.proofs.lemmas.Bool.{cond_both, cond-true, cond-false, eqb-true, eqb-false, eq-eqb}
use Rattle.std.proofs.lemmas.{Bool.ne_eqb, List.take-append-drop, Nat.and_mask}
use Rattle.std.specs.{Int.Bits.and_zero_r, Int.Bits.xor_zero_r, Prelude.bit_xor}

-- A bit step without a branch: the mask is all ones if the lowest bit is 1, and 0 otherwise.
pub bit_step-masked : (p r mask : ℕ) → p < 2 ^ 16 → mask < 2 ^ 16
    → (mask + bit_and r 1) % 2 ^ 16 ≡ 0
    → bit_xor (r / 2) (bit_and p mask) ≡ bit_step p r
unfolding bit_step
bit_step-masked p r mask p_fits mask_fits zero_sum =
    let lowest : bit_and r 1 ≡ r % 2 = and_mask r 1 in
    cond_both (nat_eq (r % 2) 1) (bit_xor (r / 2) p) (r / 2)
    (λ x. bit_xor (r / 2) (bit_and p mask) ≡ x)
    (λ one. let odd : r % 2 ≡ 1 = eqb-true (r % 2) 1 one in
    let all_ones : mask ≡ 2 ^ 16 - 1 = omega arith in
    ap (λ m. bit_xor (r / 2) (bit_and p m)) all_ones
    ∙ ap (λ m. bit_xor (r / 2) m) (and_mask p 16 ∙ mod-eq_of_lt p_fits))
    (λ none. let even : (r % 2 ≡ 1) → ⊥ = eqb-false (r % 2) 1 none in
    let no_ones : mask ≡ 0 = omega arith in
    ap (λ m. bit_xor (r / 2) (bit_and p m)) no_ones
    ∙ (ap (λ m. bit_xor (r / 2) m) (and_zero_r p) ∙ xor_zero_r (r / 2)))

pub bit_steps-zero : (p r : ℕ) → bit_steps p 0 r ≡ r
unfolding bit_steps
bit_steps-zero p r = refl

pub bit_steps-first : (p n r : ℕ) → 0 < n → bit_steps p n r ≡ bit_steps p (n - 1) (bit_step p r)
unfolding bit_steps
bit_steps-first p zero r some = absurd (omega arith)
bit_steps-first p (suc n) r some = let e : suc n - 1 ≡ n = omega arith in rw e refl

pub byte_step_lem : (p r b : ℕ) → byte_step p r b ≡ bit_steps p 8 (bit_xor r b)
unfolding byte_step
byte_step_lem p r b = refl

pub crc-nil : (p r : ℕ) → crc p r [] ≡ r
unfolding crc
crc-nil p r = refl

pub crc-cons : (p r b : ℕ) (x : List ℕ) → crc p r (b ∷ x) ≡ crc p (byte_step p r b) x
unfolding crc
crc-cons p r b x = refl

-- the register takes the byte at place i
pub crc-drop : (p r : ℕ) (x : List ℕ) (i : ℕ) → i < length x
    → crc p r (drop i x) ≡ crc p (byte_step p r (get_or x i 0)) (drop (i + 1) x)
crc-drop p r x i within =
    rw add-one (rw (drop-cons x i 0) (crc-cons p r (get_or x i 0) (drop (suc i) x)))

-- If the bytes from place i on lead to the register `all`, then so do those from place i + 1 on,
-- when the register has taken the byte at place i.
pub crc-more : (p r next all i : ℕ) (x : List ℕ) → i < length x
    → next ≡ byte_step p r (get_or x i 0) → crc p r (drop i x) ≡ all
    → crc p next (drop (i + 1) x) ≡ all
crc-more p r next all i x within taken so_far =
    ap (λ s. crc p s (drop (i + 1) x)) taken ∙ (sym (crc-drop p r x i within) ∙ so_far)

pub crc-all : (p r all i : ℕ) (x : List ℕ) → length x ≤ i → crc p r (drop i x) ≡ all → r ≡ all
crc-all p r all i x end so_far =
    sym (crc-nil p r) ∙ (ap (crc p r) (sym (drop_of_length-le x end)) ∙ so_far)

-- one more of k steps is done
pub bit_steps-next : (p k n r next : ℕ) → n < k → next ≡ bit_step p r
    → bit_steps p (k - (n + 1)) next ≡ bit_steps p (k - n) r
bit_steps-next p k n r next left e =
    let fewer : k - n - 1 ≡ k - (n + 1) = omega arith in
    let some : 0 < k - n = omega arith in
    rw e (ap (λ i. bit_steps p i (bit_step p r)) (sym fewer)
    ∙ sym (bit_steps-first p (k - n) r some))

-- all of k steps are done
pub bit_steps-done : (p k n r : ℕ) → k ≤ n → bit_steps p (k - n) r ≡ r
bit_steps-done p k n r done =
    let none : k - n ≡ 0 = omega arith in
    ap (λ i. bit_steps p i r) none ∙ bit_steps-zero p r

-- ---- a step by its lowest bit, and steps that only shift

pub bit_step-even : (p r : ℕ) → r % 2 ≡ 0 → bit_step p r ≡ r / 2
unfolding bit_step
bit_step-even p r even =
    cond-false (nat_eq (r % 2) 1) _ _ (ne_eqb (r % 2) 1 (λ odd. omega arith))

pub bit_step-odd : (p r : ℕ) → r % 2 ≡ 1 → bit_step p r ≡ bit_xor (r / 2) p
unfolding bit_step
bit_step-odd p r odd = cond-true (nat_eq (r % 2) 1) _ _ (eq-eqb (r % 2) 1 odd)

pub bit_steps-shift : (p n v : ℕ) → bit_steps p n (2 ^ n * v) ≡ v
unfolding bit_steps
bit_steps-shift p zero v = omega arith
bit_steps-shift p (suc n) v =
    let e : 2 ^ suc n * v ≡ 2 * (2 ^ n * v) =
    ap (λ x. x * v) (pow-succ' 2 n) ∙ mul_assoc 2 (2 ^ n) v in
    let even : 2 * (2 ^ n * v) % 2 ≡ 0 = omega arith in
    let half : 2 * (2 ^ n * v) / 2 ≡ 2 ^ n * v = omega arith in
    ap (λ x. bit_steps p n (bit_step p x)) e
    ∙ (ap (λ x. bit_steps p n x) (bit_step-even p (2 * (2 ^ n * v)) even ∙ half)
    ∙ bit_steps-shift p n v)

-- m steps, and then n steps
pub bit_steps-add : (p m n r : ℕ) → bit_steps p (m + n) r ≡ bit_steps p n (bit_steps p m r)
unfolding bit_steps
bit_steps-add p zero n r = let e : zero + n ≡ n = omega arith in rw e refl
bit_steps-add p (suc m) n r =
    let e : suc m + n ≡ suc (m + n) = omega arith in
    ap (λ k. bit_steps p k r) e ∙ bit_steps-add p m n (bit_step p r)

-- ---- bytes in parts

pub crc-one : (p r b : ℕ) → crc p r (b ∷ []) ≡ byte_step p r b
crc-one p r b = crc-cons p r b [] ∙ crc-nil p (byte_step p r b)

pub crc-parts : (p r : ℕ) (x y : List ℕ) → crc p r (x ++ y) ≡ crc p (crc p r x) y
unfolding crc
crc-parts p r [] y = refl
crc-parts p r (b ∷ x) y = crc-parts p (byte_step p r b) x y

-- If all bytes lead to the register `all`, then so do those after the first n, when the register
-- has taken the first n.
pub crc-later : (p r next all n : ℕ) (x front rest : List ℕ) → front ≡ take n x → rest ≡ drop n x
    → next ≡ crc p r front → crc p r x ≡ all → crc p next rest ≡ all
crc-later p r next all n x front rest front_is rest_is taken so_far =
    ap (λ s. crc p s rest) (taken ∙ ap (crc p r) front_is)
    ∙ (ap (crc p (crc p r (take n x))) rest_is
    ∙ (sym (crc-parts p r (take n x) (drop n x))
    ∙ (ap (crc p r) (take-append-drop n x) ∙ so_far)))
