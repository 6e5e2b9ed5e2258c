-- Bytes taken at once: the register after them is the xor of what each of them makes on its own.
use Rattle.line_rules.proofs.CrcLaws.{byte_step_lem, crc-nil, crc-cons, bit_steps-zero}
use Rattle.line_rules.proofs.CrcLaws.{bit_steps-add}
use Rattle.line_rules.proofs.CrcLinear.{bit_steps-xor, byte_step-xor, byte_step-split}
use Rattle.line_rules.specs.Crc.{bit_steps, byte_step, crc}
use Rattle.std.proofs.Common.{◌≡◌, ℕ, suc, ◌+◌, ◌-◌, ◌*◌, ◌/◌, ◌%◌, ◌^◌, ◌<◌, ◌≤◌, List, [], ◌∷◌}
use Rattle.std.proofs.Common.{length, get_or, drop, arith, sym, ◌∙◌, ap, add-one}
use Rattle.std.proofs.Math.{ListN.drop_of_length-le, Seq.drop-cons}
use Rattle.std.proofs.lemmas.{List.length-drop, Nat.xor_comm}
use Rattle.std.specs.{Int.Bits.xor_zero_l, Int.Bits.xor_zero_r, Int.Bits.xor_assoc, Prelude.bit_xor}

swap : (h l b t : ℕ) → bit_xor h (bit_xor l (bit_xor b t)) ≡ bit_xor l (bit_xor (bit_xor h b) t)
swap h l b t =
    sym (xor_assoc h l (bit_xor b t))
    ∙ (ap (λ z. bit_xor z (bit_xor b t)) (xor_comm h l)
    ∙ (xor_assoc l h (bit_xor b t) ∙ ap (bit_xor l) (sym (xor_assoc h b t))))

module _ (p : ℕ) where
  -- If a number is xored into the register before some bytes, then what their shifts make of it is
  -- xored into the register after them.
  pub crc-turned : (a r : ℕ) (x : List ℕ)
      → crc p (bit_xor a r) x ≡ bit_xor (bit_steps p (8 * length x) a) (crc p r x)
  crc-turned a r [] =
      let none : 8 * length {A = ℕ} [] ≡ 0 = omega arith in
      crc-nil p (bit_xor a r)
      ∙ sym (ap (λ n. bit_xor (bit_steps p n a) (crc p r [])) none
      ∙ (ap (λ z. bit_xor z (crc p r [])) (bit_steps-zero p a) ∙ ap (bit_xor a) (crc-nil p r)))
  crc-turned a r (b ∷ x) =
      let all : 8 * length (b ∷ x) ≡ 8 + 8 * length x = omega arith in
      let alone : byte_step p a 0 ≡ bit_steps p 8 a =
      byte_step_lem p a 0 ∙ ap (bit_steps p 8) (xor_zero_r a) in
      crc-cons p (bit_xor a r) b x
      ∙ (ap (λ c. crc p (byte_step p (bit_xor a r) c) x) (sym (xor_zero_l b))
      ∙ (ap (λ s. crc p s x) (byte_step-xor p a r 0 b)
      ∙ (crc-turned (byte_step p a 0) (byte_step p r b) x
      ∙ (ap (λ s. bit_xor (bit_steps p (8 * length x) s) (crc p (byte_step p r b) x)) alone
      ∙ (ap (λ z. bit_xor z (crc p (byte_step p r b) x))
      (sym (bit_steps-add p 8 (8 * length x) a) ∙ ap (λ n. bit_steps p n a) (sym all))
      ∙ ap (bit_xor (bit_steps p (8 * length (b ∷ x)) a)) (sym (crc-cons p r b x)))))))

  -- a byte on its own, xored with what the bytes after it make
  crc-apart : (b : ℕ) (x : List ℕ)
      → crc p 0 (b ∷ x) ≡ bit_xor (bit_steps p (8 * suc (length x)) b) (crc p 0 x)
  crc-apart b x =
      let all : 8 * suc (length x) ≡ 8 + 8 * length x = omega arith in
      let alone : byte_step p 0 b ≡ bit_xor (bit_steps p 8 b) 0 =
      byte_step_lem p 0 b ∙ (ap (bit_steps p 8) (xor_zero_l b) ∙ sym (xor_zero_r _)) in
      crc-cons p 0 b x
      ∙ (ap (λ s. crc p s x) alone
      ∙ (crc-turned (bit_steps p 8 b) 0 x
      ∙ ap (λ z. bit_xor z (crc p 0 x))
      (sym (bit_steps-add p 8 (8 * length x) b) ∙ ap (λ n. bit_steps p n b) (sym all))))

  -- the first two bytes, each xored with a byte of the register, and the bytes after them
  crc-first : (r b c : ℕ) (x : List ℕ) → r < 2 ^ 16 → b < 256
      → crc p r (b ∷ c ∷ x)
      ≡ bit_xor (bit_steps p (8 * suc (suc (length x))) (bit_xor (r % 256) b))
      (bit_xor (bit_steps p (8 * suc (length x)) (bit_xor (r / 256) c)) (crc p 0 x))
  crc-first r b c x small byte =
      let all : 8 * suc (suc (length x)) ≡ 8 + 8 * suc (length x) = omega arith in
      crc-cons p r b (c ∷ x)
      ∙ (ap (λ s. crc p s (c ∷ x)) (byte_step-split p r b small byte)
      ∙ (crc-turned (r / 256) (bit_steps p 8 (bit_xor (r % 256) b)) (c ∷ x)
      ∙ (ap (bit_xor (bit_steps p (8 * suc (length x)) (r / 256)))
      (ap (λ s. crc p s (c ∷ x)) (sym (xor_zero_r (bit_steps p 8 (bit_xor (r % 256) b))))
      ∙ (crc-turned (bit_steps p 8 (bit_xor (r % 256) b)) 0 (c ∷ x)
      ∙ (ap (λ z. bit_xor z (crc p 0 (c ∷ x)))
      (sym (bit_steps-add p 8 (8 * suc (length x)) (bit_xor (r % 256) b))
      ∙ ap (λ k. bit_steps p k (bit_xor (r % 256) b)) (sym all))
      ∙ ap (bit_xor (bit_steps p (8 * suc (suc (length x))) (bit_xor (r % 256) b)))
      (crc-apart c x))))
      ∙ (swap (bit_steps p (8 * suc (length x)) (r / 256))
      (bit_steps p (8 * suc (suc (length x))) (bit_xor (r % 256) b))
      (bit_steps p (8 * suc (length x)) c) (crc p 0 x)
      ∙ ap (λ z. bit_xor (bit_steps p (8 * suc (suc (length x))) (bit_xor (r % 256) b))
      (bit_xor z (crc p 0 x)))
      (sym (bit_steps-xor p (8 * suc (length x)) (r / 256) c))))))

  -- one more byte, on its own, by its table
  pub crc-slice : (x : List ℕ) (i behind shifted all : ℕ) → i < length x
      → shifted ≡ bit_steps p (8 * suc (length x - 1 - i)) (get_or x i 0)
      → bit_xor behind (crc p 0 (drop i x)) ≡ all
      → bit_xor (bit_xor behind shifted) (crc p 0 (drop (i + 1) x)) ≡ all
  crc-slice x i behind shifted all within by_table so_far =
      let left : length (drop (suc i) x) ≡ length x - 1 - i =
      omega (arith, length-drop (suc i) x) in
      let apart : crc p 0 (drop i x) ≡ bit_xor shifted (crc p 0 (drop (suc i) x)) =
      rw (drop-cons x i 0) (crc-apart (get_or x i 0) (drop (suc i) x)
      ∙ ap (λ z. bit_xor z (crc p 0 (drop (suc i) x)))
      (ap (λ k. bit_steps p (8 * suc k) (get_or x i 0)) left ∙ sym by_table)) in
      rw add-one (xor_assoc behind shifted (crc p 0 (drop (suc i) x))
      ∙ (ap (bit_xor behind) (sym apart) ∙ so_far))

  -- before the first byte, and when no byte is left
  pub crc-slices-none : (x : List ℕ) → bit_xor 0 (crc p 0 x) ≡ crc p 0 x
  crc-slices-none x = xor_zero_l (crc p 0 x)

  pub crc-slices-all : (x : List ℕ) (i behind all : ℕ) → length x ≤ i
      → bit_xor behind (crc p 0 (drop i x)) ≡ all → behind ≡ all
  crc-slices-all x i behind all end so_far =
      sym (xor_zero_r behind)
      ∙ (ap (bit_xor behind) (sym (crc-nil p 0)
      ∙ ap (crc p 0) (sym (drop_of_length-le x end))) ∙ so_far)

  turned : (b s f : ℕ) → bit_xor b (bit_xor s f) ≡ bit_xor f (bit_xor s b)
  turned b s f =
      xor_comm b (bit_xor s f)
      ∙ (ap (λ z. bit_xor z b) (xor_comm s f) ∙ xor_assoc f s b)

  -- all bytes, each by its table, the first two of them xored with the register
  pub crc-at_once : (r : ℕ) (x : List ℕ) (behind second first : ℕ) → r < 2 ^ 16
      → 2 ≤ length x → get_or x 0 0 < 256
      → behind ≡ crc p 0 (drop 2 x)
      → second ≡ bit_steps p (8 * suc (length x - 1 - 1)) (bit_xor (r / 256) (get_or x 1 0))
      → first ≡ bit_steps p (8 * suc (length x - 1)) (bit_xor (r % 256) (get_or x 0 0))
      → bit_xor behind (bit_xor second first) ≡ crc p r x
  crc-at_once r [] behind second first small two byte e0 e1 e2 = absurd (omega arith)
  crc-at_once r (a ∷ []) behind second first small two byte e0 e1 e2 = absurd (omega arith)
  crc-at_once r (a ∷ b ∷ x) behind second first small two byte e0 e1 e2 =
      let one : length (a ∷ b ∷ x) - 1 - 1 ≡ length x = omega arith in
      let two' : length (a ∷ b ∷ x) - 1 ≡ suc (length x) = omega arith in
      let s : second ≡ bit_steps p (8 * suc (length x)) (bit_xor (r / 256) b) =
      e1 ∙ ap (λ k. bit_steps p (8 * suc k) (bit_xor (r / 256) b)) one in
      let f : first ≡ bit_steps p (8 * suc (suc (length x))) (bit_xor (r % 256) a) =
      e2 ∙ ap (λ k. bit_steps p (8 * suc k) (bit_xor (r % 256) a)) two' in
      turned behind second first
      ∙ (ap (λ z. bit_xor z (bit_xor second behind)) f
      ∙ (ap (λ z. bit_xor (bit_steps p (8 * suc (suc (length x))) (bit_xor (r % 256) a))
      (bit_xor z behind)) s
      ∙ (ap (λ z. bit_xor (bit_steps p (8 * suc (suc (length x))) (bit_xor (r % 256) a))
      (bit_xor (bit_steps p (8 * suc (length x)) (bit_xor (r / 256) b)) z)) e0
      ∙ sym (crc-first r a b x small byte))))
