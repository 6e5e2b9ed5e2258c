-- The steps of a CRC are linear, and the high byte of the register is shifted down unchanged.
use Rattle.line_rules.proofs.CrcLaws.{byte_step_lem, bit_step-even, bit_step-odd, bit_steps-shift}
use Rattle.line_rules.specs.Crc.{bit_step, bit_steps, byte_step}
use Rattle.std.proofs.Common.{◌≡◌, ℕ, zero, suc, ◌*◌, ◌/◌, ◌%◌, ◌^◌, ◌<◌, ◌&&◌, ◌==◌, Bool, true}
use Rattle.std.proofs.Common.{refl, arith, sym, ◌∙◌, ap, ⊎_elim}
use Rattle.std.proofs.{Math.Nat.mod-eq_of_lt, lemmas.Bool.cases_eq}
use Rattle.std.proofs.lemmas.{Bool.and_parts, Bool.eqb-true, Nat.xor_shr, Nat.xor_mod, Nat.xor_comm}
use Rattle.std.specs.Int.Bits.{xor_zero_l, xor_zero_r, xor_self, xor_assoc}
use Rattle.std.specs.Prelude.{bit_xor}

-- ---- xor

front : (a b p : ℕ) → bit_xor (bit_xor a b) p ≡ bit_xor (bit_xor a p) b
front a b p = xor_assoc a b p ∙ ap (bit_xor a) (xor_comm b p) ∙ sym (xor_assoc a p b)

twice : (a b p : ℕ) → bit_xor (bit_xor a p) (bit_xor b p) ≡ bit_xor a b
twice a b p =
    xor_assoc a p (bit_xor b p)
    ∙ ap (bit_xor a) (ap (bit_xor p) (xor_comm b p) ∙ sym (xor_assoc p p b)
    ∙ ap (λ z. bit_xor z b) (xor_self p) ∙ xor_zero_l b)

crossed : (r s a b : ℕ) → bit_xor (bit_xor r s) (bit_xor a b) ≡ bit_xor (bit_xor r a) (bit_xor s b)
crossed r s a b =
    xor_assoc r s (bit_xor a b)
    ∙ (ap (bit_xor r) (sym (xor_assoc s a b) ∙ (ap (λ z. bit_xor z b) (xor_comm s a)
    ∙ xor_assoc a s b))
    ∙ sym (xor_assoc r a (bit_xor s b)))

module _ (p : ℕ) where
  -- ---- steps are linear

  bit_step-xor : (x y : ℕ) → bit_step p (bit_xor x y) ≡ bit_xor (bit_step p x) (bit_step p y)
  bit_step-xor x y =
      let low : bit_xor x y % 2 ≡ bit_xor (x % 2) (y % 2) = xor_mod x y 1 in
      let rest : bit_xor x y / 2 ≡ bit_xor (x / 2) (y / 2) = xor_shr x y 1 in
      ⊎_elim
      (λ odd_x. ⊎_elim
      (λ odd_y.
      let even : bit_xor x y % 2 ≡ 0 = low ∙ ap (λ u. bit_xor u (y % 2)) odd_x
      ∙ ap (bit_xor 1) odd_y in
      bit_step-even p (bit_xor x y) even ∙ rest ∙ sym (twice (x / 2) (y / 2) p)
      ∙ sym (ap (λ u. bit_xor u (bit_step p y)) (bit_step-odd p x odd_x)
      ∙ ap (bit_xor (bit_xor (x / 2) p)) (bit_step-odd p y odd_y)))
      (λ not_y.
      let even_y : y % 2 ≡ 0 = omega arith in
      let odd : bit_xor x y % 2 ≡ 1 = low ∙ ap (λ u. bit_xor u (y % 2)) odd_x
      ∙ ap (bit_xor 1) even_y in
      bit_step-odd p (bit_xor x y) odd ∙ ap (λ u. bit_xor u p) rest
      ∙ front (x / 2) (y / 2) p
      ∙ sym (ap (λ u. bit_xor u (bit_step p y)) (bit_step-odd p x odd_x)
      ∙ ap (bit_xor (bit_xor (x / 2) p)) (bit_step-even p y even_y)))
      (cases_eq (y % 2) 1))
      (λ not_x.
      let even_x : x % 2 ≡ 0 = omega arith in
      ⊎_elim
      (λ odd_y.
      let odd : bit_xor x y % 2 ≡ 1 = low ∙ ap (λ u. bit_xor u (y % 2)) even_x
      ∙ ap (bit_xor 0) odd_y in
      bit_step-odd p (bit_xor x y) odd ∙ ap (λ u. bit_xor u p) rest
      ∙ xor_assoc (x / 2) (y / 2) p
      ∙ sym (ap (λ u. bit_xor u (bit_step p y)) (bit_step-even p x even_x)
      ∙ ap (bit_xor (x / 2)) (bit_step-odd p y odd_y)))
      (λ not_y.
      let even_y : y % 2 ≡ 0 = omega arith in
      let even : bit_xor x y % 2 ≡ 0 = low ∙ ap (λ u. bit_xor u (y % 2)) even_x
      ∙ ap (bit_xor 0) even_y in
      bit_step-even p (bit_xor x y) even ∙ rest
      ∙ sym (ap (λ u. bit_xor u (bit_step p y)) (bit_step-even p x even_x)
      ∙ ap (bit_xor (x / 2)) (bit_step-even p y even_y)))
      (cases_eq (y % 2) 1))
      (cases_eq (x % 2) 1)

  pub bit_steps-xor : (n x y : ℕ) → bit_steps p n (bit_xor x y)
      ≡ bit_xor (bit_steps p n x) (bit_steps p n y)
  unfolding bit_steps
  bit_steps-xor zero x y = refl
  bit_steps-xor (suc n) x y = ap (bit_steps p n) (bit_step-xor x y)
      ∙ bit_steps-xor n (bit_step p x) (bit_step p y)

  -- The step of two xored registers by two xored bytes is the xor of their steps.
  pub byte_step-xor : (r s a b : ℕ) → byte_step p (bit_xor r s) (bit_xor a b)
      ≡ bit_xor (byte_step p r a) (byte_step p s b)
  byte_step-xor r s a b =
      byte_step_lem p (bit_xor r s) (bit_xor a b)
      ∙ (ap (bit_steps p 8) (crossed r s a b)
      ∙ (bit_steps-xor 8 (bit_xor r a) (bit_xor s b)
      ∙ sym (ap (λ z. bit_xor z (byte_step p s b)) (byte_step_lem p r a)
      ∙ ap (bit_xor (bit_steps p 8 (bit_xor r a))) (byte_step_lem p s b))))

  -- If two bytes are xored with others, the register after them is xored with what these make of 0.
  pub byte_steps-turned : (r a b u v : ℕ)
      → byte_step p (byte_step p r (bit_xor a u)) (bit_xor b v)
      ≡ bit_xor (byte_step p (byte_step p r a) b) (byte_step p (byte_step p 0 u) v)
  byte_steps-turned r a b u v =
      ap (λ z. byte_step p z (bit_xor b v))
      (ap (λ z. byte_step p z (bit_xor a u)) (sym (xor_zero_r r)) ∙ byte_step-xor r 0 a u)
      ∙ byte_step-xor (byte_step p r a) (byte_step p 0 u) b v

  -- ---- the high byte, and what the low one makes

  pub byte_step-split : (r b : ℕ) → r < 2 ^ 16 → b < 256
      → byte_step p r b ≡ bit_xor (r / 256) (bit_steps p 8 (bit_xor (r % 256) b))
  byte_step-split r b small byte =
      let s : ℕ = bit_xor r b in
      let low : ℕ = bit_xor r b % 2 ^ 8 in
      let none : b / 2 ^ 8 ≡ 0 = omega arith in
      let top : bit_xor r b / 2 ^ 8 ≡ r / 256 =
      xor_shr r b 8 ∙ (ap (λ x. bit_xor (r / 2 ^ 8) x) none ∙ xor_zero_r (r / 2 ^ 8)) in
      let own : bit_xor r b % 2 ^ 8 ≡ bit_xor (r % 256) b =
      xor_mod r b 8 ∙ ap (bit_xor (r % 2 ^ 8)) (mod-eq_of_lt byte) in
      let cleared : bit_xor (bit_xor r b) (bit_xor r b % 2 ^ 8) % 2 ^ 8 ≡ 0 =
      xor_mod (bit_xor r b) (bit_xor r b % 2 ^ 8) 8
      ∙ (ap (λ x. bit_xor (bit_xor r b % 2 ^ 8) x) (mod-eq_of_lt (omega arith))
      ∙ xor_self (bit_xor r b % 2 ^ 8)) in
      let no_top : bit_xor r b % 2 ^ 8 / 2 ^ 8 ≡ 0 = omega arith in
      let kept : bit_xor (bit_xor r b) (bit_xor r b % 2 ^ 8) / 2 ^ 8 ≡ bit_xor r b / 2 ^ 8 =
      xor_shr (bit_xor r b) (bit_xor r b % 2 ^ 8) 8
      ∙ (ap (λ x. bit_xor (bit_xor r b / 2 ^ 8) x) no_top ∙ xor_zero_r (bit_xor r b / 2 ^ 8)) in
      let whole : bit_xor (bit_xor r b) (bit_xor r b % 2 ^ 8) ≡ 2 ^ 8 * (bit_xor r b / 2 ^ 8) =
      omega arith in
      let parts : bit_xor r b ≡ bit_xor (bit_xor (bit_xor r b) (bit_xor r b % 2 ^ 8))
      (bit_xor r b % 2 ^ 8) =
      sym (xor_assoc (bit_xor r b) (bit_xor r b % 2 ^ 8) (bit_xor r b % 2 ^ 8)
      ∙ ap (bit_xor (bit_xor r b)) (xor_self (bit_xor r b % 2 ^ 8))
      ∙ xor_zero_r (bit_xor r b)) in
      byte_step_lem p r b ∙ ap (bit_steps p 8) parts
      ∙ bit_steps-xor 8 (bit_xor (bit_xor r b) (bit_xor r b % 2 ^ 8)) (bit_xor r b % 2 ^ 8)
      ∙ ap (λ x. bit_xor x (bit_steps p 8 (bit_xor r b % 2 ^ 8)))
      (ap (bit_steps p 8) whole ∙ bit_steps-shift p 8 (bit_xor r b / 2 ^ 8) ∙ top)
      ∙ ap (λ x. bit_xor (r / 256) (bit_steps p 8 x)) own

-- ---- a table of what eight steps make of the registers below n

abbrev pub agree_below : (ℕ → ℕ) → (ℕ → ℕ) → ℕ → Bool
agree_below f g zero = true
agree_below f g (suc n) = f n == g n && agree_below f g n

pub agree_at : (f g : ℕ → ℕ) (n a : ℕ) → agree_below f g n ≡ true → a < n → f a ≡ g a
agree_at f g zero a h below = absurd (omega arith)
agree_at f g (suc n) a h below =
    let both = and_parts (f n == g n) (agree_below f g n) h in
    ⊎_elim
    (λ same. ap f same ∙ eqb-true (f n) (g n) both.0 ∙ ap g (sym same))
    (λ other. agree_at f g n a both.1 (omega arith))
    (cases_eq a n)
