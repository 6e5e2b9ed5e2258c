-- The register is 0 after bytes that end in their own check, low byte first, and after no others.
-- The polynomial's highest bit is 1.
use Rattle.line_rules.proofs.CrcLaws.{byte_step_lem, crc-nil, crc-cons, bit_step-even, bit_step-odd}
use Rattle.line_rules.{proofs.CrcLaws.bit_steps-shift, specs.Bytes.AreBytes, specs.Bytes.low_first}
use Rattle.line_rules.specs.Crc.{bit_step, bit_steps, byte_step, crc}
use Rattle.std.proofs.Common.{◌≡◌, ℕ, zero, suc, ◌+◌, ◌-◌, ◌*◌, ◌/◌, ◌%◌, ◌^◌, ◌<◌, ◌≤◌, ◌∷◌, ◌++◌}
use Rattle.std.proofs.Common.{List, [], refl, arith, sym, ◌∙◌, ap, subst, ⊎_elim}
use Rattle.std.proofs.Math.Nat.{mod-eq_of_lt, pow-le-pow_right, pow-succ', mul_assoc}
use Rattle.std.proofs.lemmas.{Bool.cases_eq, List.Elements.All-head, List.Elements.All-tail}
use Rattle.std.proofs.lemmas.Nat.{xor_shr, xor_mod, xor_lt, and_le_l, and_le_r}
use Rattle.std.specs.Int.Bits.{xor_zero_l, xor_zero_r, xor_self, xor_add_and}
use Rattle.std.specs.Prelude.{bit_xor}

-- If the xor of two numbers is 0, they are equal.
xor-zero : (a b : ℕ) → bit_xor a b ≡ 0 → a ≡ b
xor-zero a b none =
    let all = xor_add_and a b in
    let left = and_le_l a b in
    let right = and_le_r a b in
    omega arith

module _ (p : ℕ) (high : 2 ^ 15 ≤ p) (fits : p < 2 ^ 16) where
  parity : (r : ℕ) → (r % 2 ≡ 1 → ⊥) → r % 2 ≡ 0
  parity r not_one = omega arith

  pub bit_step-fits : (r : ℕ) → r < 2 ^ 16 → bit_step p r < 2 ^ 16
  bit_step-fits r small =
      ⊎_elim
      (λ odd. let half : r / 2 < 2 ^ 16 = omega arith in
      rw (bit_step-odd p r odd) (xor_lt 16 (r / 2) p half fits))
      (λ even. let e = bit_step-even p r (parity r even) in omega arith)
      (cases_eq (r % 2) 1)

  -- If the bit that is shifted out is 1, the step sets the highest bit.
  odd-high : (r : ℕ) → r < 2 ^ 16 → r % 2 ≡ 1 → 2 ^ 15 ≤ bit_step p r
  odd-high r small odd =
      let none : r / 2 / 2 ^ 15 ≡ 0 = omega arith in
      let one : p / 2 ^ 15 ≡ 1 = omega arith in
      let top : bit_xor (r / 2) p / 2 ^ 15 ≡ 1 =
      xor_shr (r / 2) p 15 ∙ (ap (λ x. bit_xor x (p / 2 ^ 15)) none
      ∙ (xor_zero_l (p / 2 ^ 15) ∙ one)) in
      let e = bit_step-odd p r odd in
      omega arith

  bit_step-above : (k r : ℕ) → k ≤ 15 → r < 2 ^ 16 → 2 ^ suc k ≤ r → 2 ^ k ≤ bit_step p r
  bit_step-above k r low small above =
      ⊎_elim
      (λ odd. let most = odd-high r small odd in
      let power : 2 ^ k ≤ 2 ^ 15 = pow-le-pow_right {n = 2} (omega arith) low in omega arith)
      (λ even. let e = bit_step-even p r (parity r even) in let power = pow-succ' 2 k
      in omega arith)
      (cases_eq (r % 2) 1)

  bit_steps-above : (n k r : ℕ) → n + k ≤ 15 → r < 2 ^ 16 → 2 ^ (n + k) ≤ r
      → 2 ^ k ≤ bit_steps p n r
  unfolding bit_steps
  bit_steps-above zero k r low small above = let e : zero + k ≡ k = omega arith in let P : ℕ
      → Type 0 = λ i. 2 ^ i ≤ r in subst P e above
  bit_steps-above (suc n) k r low small above =
      let e : suc n + k ≡ suc (n + k) = omega arith in
      let P : ℕ → Type 0 = λ i. 2 ^ i ≤ r in
      let less : n + k ≤ 15 = omega arith in
      bit_steps-above n k (bit_step p r) less (bit_step-fits r small)
      (bit_step-above (n + k) r less small (subst P e above))

  -- If the register ends below 256, no bit 1 was shifted out.
  bit_steps-low : (n r : ℕ) → n ≤ 8 → r < 2 ^ 16 → bit_steps p n r < 2 ^ 8
      → r ≡ 2 ^ n * bit_steps p n r
  unfolding bit_steps
  bit_steps-low zero r few small low = omega arith
  bit_steps-low (suc n) r few small low =
      ⊎_elim
      (λ odd.
      let k : 8 ≤ 15 - n = omega arith in
      let all : n + (15 - n) ≡ 15 = omega arith in
      let P : ℕ → Type 0 = λ i. 2 ^ i ≤ bit_step p r in
      let above = bit_steps-above n (15 - n) (bit_step p r) (omega arith) (bit_step-fits r small)
      (subst P (sym all) (odd-high r small odd)) in
      let power : 2 ^ 8 ≤ 2 ^ (15 - n) = pow-le-pow_right {n = 2} (omega arith) k in
      absurd (omega arith))
      (λ even.
      let none = parity r even in
      let half = bit_steps-low n (bit_step p r) (omega arith) (bit_step-fits r small) low in
      let e = bit_step-even p r none in
      let twice : r ≡ 2 * bit_step p r = omega arith in
      twice ∙ (ap (λ x. 2 * x) half ∙ (sym (mul_assoc 2 (2 ^ n) (bit_steps p n (bit_step p r)))
      ∙ ap (λ x. x * bit_steps p n (bit_step p r)) (sym (pow-succ' 2 n)))))
      (cases_eq (r % 2) 1)

  -- A step by the register's own low byte shifts the register right by a byte.
  pub byte_step-own : (r : ℕ) → r < 2 ^ 16 → byte_step p r (r % 256) ≡ r / 256
  byte_step-own r small =
      let low : bit_xor r (r % 256) % 2 ^ 8 ≡ 0 =
      xor_mod r (r % 256) 8 ∙ (ap (λ x. bit_xor (r % 256) x) (mod-eq_of_lt (omega arith))
      ∙ xor_self (r % 256)) in
      let none : r % 256 / 2 ^ 8 ≡ 0 = omega arith in
      let top : bit_xor r (r % 256) / 2 ^ 8 ≡ r / 256 =
      xor_shr r (r % 256) 8 ∙ (ap (λ x. bit_xor (r / 2 ^ 8) x) none ∙ xor_zero_r (r / 2 ^ 8)) in
      let whole : bit_xor r (r % 256) ≡ 2 ^ 8 * (r / 256) = omega arith in
      byte_step_lem p r (r % 256) ∙ (ap (λ x. bit_steps p 8 x) whole
      ∙ bit_steps-shift p 8 (r / 256))

  -- If a step leaves the register below 256, the byte was the register's own low byte.
  pub byte_step-low : (r b : ℕ) → r < 2 ^ 16 → b < 256 → byte_step p r b < 256
      → (b ≡ r % 256) × (byte_step p r b ≡ r / 256)
  byte_step-low r b small byte low =
      let e : byte_step p r b ≡ bit_steps p 8 (bit_xor r b) = byte_step_lem p r b in
      let wide : b < 2 ^ 16 = omega arith in
      let shifted : bit_xor r b ≡ 2 ^ 8 * bit_steps p 8 (bit_xor r b) =
      bit_steps-low 8 (bit_xor r b) (omega arith) (xor_lt 16 r b small wide) (omega arith) in
      let none : b / 2 ^ 8 ≡ 0 = omega arith in
      let top : bit_xor r b / 2 ^ 8 ≡ r / 256 =
      xor_shr r b 8 ∙ (ap (λ x. bit_xor (r / 2 ^ 8) x) none ∙ xor_zero_r (r / 2 ^ 8)) in
      let apart : bit_xor (r % 2 ^ 8) (b % 2 ^ 8) ≡ 0 =
      sym (xor_mod r b 8) ∙ (let z : bit_xor r b % 2 ^ 8 ≡ 0 = omega arith in z) in
      let same = xor-zero (r % 2 ^ 8) (b % 2 ^ 8) apart in
      (omega arith, omega arith)

  -- If a step leaves the register 0, the byte was equal to the register.
  pub byte_step-zero : (r b : ℕ) → r < 2 ^ 16 → b < 256 → byte_step p r b ≡ 0 → r ≡ b
  byte_step-zero r b small byte none =
      let low : byte_step p r b < 256 = omega arith in
      let both = byte_step-low r b small byte low in
      let high_byte : byte_step p r b ≡ r / 256 = both.1 in
      let low_byte : b ≡ r % 256 = both.0 in
      omega arith

  pub byte_step-clears : (b : ℕ) → b < 256 → byte_step p b b ≡ 0
  byte_step-clears b byte =
      let own : b % 256 ≡ b = mod-eq_of_lt byte in
      let none : b / 256 ≡ 0 = omega arith in
      ap (λ x. byte_step p b x) (sym own) ∙ (byte_step-own b (omega arith) ∙ none)

  bit_steps-fits : (n s : ℕ) → s < 2 ^ 16 → bit_steps p n s < 2 ^ 16
  unfolding bit_steps
  bit_steps-fits zero s ok = ok
  bit_steps-fits (suc n) s ok = bit_steps-fits n (bit_step p s) (bit_step-fits s ok)

  pub byte_step-fits : (r b : ℕ) → r < 2 ^ 16 → b < 256 → byte_step p r b < 2 ^ 16
  byte_step-fits r b small byte =
      let wide : b < 2 ^ 16 = omega arith in
      rw (byte_step_lem p r b) (bit_steps-fits 8 (bit_xor r b) (xor_lt 16 r b small wide))

  pub crc-fits : (r : ℕ) (x : List ℕ) → r < 2 ^ 16 → AreBytes x → crc p r x < 2 ^ 16
  crc-fits r [] small bytes = rw (crc-nil p r) small
  crc-fits r (b ∷ x) small bytes =
      rw (crc-cons p r b x) (crc-fits (byte_step p r b) x
      (byte_step-fits r b small (All-head (λ n. n < 256) b x bytes))
      (All-tail (λ n. n < 256) b x bytes))

  pub crc-append : (r : ℕ) (x : List ℕ) (b : ℕ) → crc p r (x ++ b ∷ []) ≡ byte_step p (crc p r x) b
  unfolding crc
  crc-append r [] b = refl
  crc-append r (a ∷ x) b = crc-append (byte_step p r a) x b

  crc-two : (r : ℕ) (x : List ℕ) (low high' : ℕ)
      → crc p r (x ++ (low ∷ high' ∷ [])) ≡ byte_step p (byte_step p (crc p r x) low) high'
  unfolding crc
  crc-two r [] low high' = refl
  crc-two r (a ∷ x) low high' = crc-two (byte_step p r a) x low high'

  -- If the register is 0 after these bytes, the last two are the check of those before them.
  pub crc-zero : (r : ℕ) (x : List ℕ) (low high' : ℕ) → r < 2 ^ 16 → AreBytes x → low < 256
      → high' < 256
      → crc p r (x ++ (low ∷ high' ∷ [])) ≡ 0 → low ∷ high' ∷ [] ≡ low_first (crc p r x)
  crc-zero r x low high' small bytes first second none =
      let here = crc-fits r x small bytes in
      let last : byte_step p (crc p r x) low ≡ high' =
      byte_step-zero (byte_step p (crc p r x) low) high' (byte_step-fits (crc p r x) low here first)
      second (sym (crc-two r x low high') ∙ none) in
      let both = byte_step-low (crc p r x) low here first (omega arith) in
      ap (λ b. b ∷ high' ∷ []) both.0 ∙ ap (λ b. crc p r x % 256 ∷ b ∷ []) (sym last ∙ both.1)

  -- If bytes are followed by their own check, the register is 0.
  pub crc-own : (r : ℕ) (x : List ℕ) → r < 2 ^ 16 → AreBytes x
      → crc p r (x ++ low_first (crc p r x)) ≡ 0
  crc-own r x small bytes =
      let here = crc-fits r x small bytes in
      crc-two r x (crc p r x % 256) (crc p r x / 256)
      ∙ (ap (λ s. byte_step p s (crc p r x / 256)) (byte_step-own (crc p r x) here)
      ∙ byte_step-clears (crc p r x / 256) (omega arith))
