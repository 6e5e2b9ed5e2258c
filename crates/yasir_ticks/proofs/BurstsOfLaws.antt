-- `bursts_from` gives the bursts of a line, and a line has no other bursts.
use Rattle.std.proofs.Common.{◌≡◌, ℕ, zero, suc, ◌+◌, ◌-◌, ◌<◌, List, [], ◌∷◌, ◌++◌, length, refl}
use Rattle.std.proofs.Common.{arith, sym, ◌∙◌, ap, subst, ⊎_elim, length-append, add-zero}
use Rattle.std.proofs.lemmas.{Bool.cases_lt, List.append_assoc, List.length-replicate}
use Rattle.yasir_ticks.proofs.BurstLaws.{alone, with_first, with_byte-near, with_byte-far}
use Rattle.yasir_ticks.specs.Bursts.{Burst, with_byte, bursts_from, end_of}
use Rattle.yasir_ticks.specs.BurstsOf.{IsContiguous, one, more, StartsFrom, AreBursts}
use Rattle.yasir_ticks.specs.Ticks.{silent}
use Rattle.yasir_ticks.specs.declared.tick.Tick.{Tick, TheVariants.Silent, TheVariants.Byte}

module _ (cut : ℕ) where
  pub bursts_from-cons : (n b : ℕ) (l : List Tick)
      → bursts_from cut n (Byte b ∷ l) ≡ with_byte cut n b (bursts_from cut (suc n) l)
  unfolding bursts_from
  bursts_from-cons n b l = refl

  with_byte-nil : (n b : ℕ) → with_byte cut n b [] ≡ alone n b ∷ []
  unfolding with_byte
  with_byte-nil n b = refl

  -- Silence before the first byte moves the bursts to later ticks.
  pub bursts_from-silence : (n gap : ℕ) (l : List Tick)
      → bursts_from cut n (silent gap ++ l) ≡ bursts_from cut (n + gap) l
  unfolding bursts_from
  bursts_from-silence n zero l = ap (λ i. bursts_from cut i l) (sym (add-zero n))
  bursts_from-silence n (suc gap) l =
      let e : suc n + gap ≡ n + suc gap = omega arith in
      bursts_from-silence (suc n) gap l ∙ ap (λ i. bursts_from cut i l) e

  -- A byte that is far enough before the other bursts is a burst of its own.
  with_byte-alone : (n b : ℕ) (ds : List Burst) → StartsFrom (suc n + cut) ds
      → with_byte cut n b ds ≡ alone n b ∷ ds
  with_byte-alone n b [] far = with_byte-nil n b
  with_byte-alone n b (d ∷ ds) far = with_byte-far cut n b d ds far

  -- Contiguous ticks that are followed by `cut` or more silent ticks are a burst of their own.
  pub bursts_from-contiguous : (n : ℕ) (x rest : List Tick) → IsContiguous cut x
      → StartsFrom (n + length x + cut) (bursts_from cut (n + length x) rest)
      → bursts_from cut n (x ++ rest) ≡ record { start = n; body = x }
      ∷ bursts_from cut (n + length x) rest
  bursts_from-contiguous n x rest (one b) far =
      let e : n + 1 ≡ suc n = omega arith in
      let P : ℕ → Type 0 = λ i. StartsFrom (i + cut) (bursts_from cut i rest) in
      bursts_from-cons n b rest
      ∙ (with_byte-alone n b (bursts_from cut (suc n) rest) (subst P e far)
      ∙ ap (λ i. alone n b ∷ bursts_from cut i rest) (sym e))
  bursts_from-contiguous n x rest (more b gap body few body_is) far =
      let long : length (silent gap ++ body) ≡ gap + length body =
      length-append (silent gap) body ∙ ap (λ k. k + length body) (length-replicate gap Silent) in
      let end : n + suc (length (silent gap ++ body)) ≡ suc n + gap + length body = omega arith in
      let back : suc n + gap - suc n ≡ gap = omega arith in
      let near : suc n + gap < suc n + cut = omega arith in
      let P : ℕ → Type 0 = λ i. StartsFrom (i + cut) (bursts_from cut i rest) in
      let next : Burst = record { start = suc n + gap; body = body } in
      bursts_from-cons n b ((silent gap ++ body) ++ rest)
      ∙ (ap (λ y. with_byte cut n b (bursts_from cut (suc n) y))
      (append_assoc (silent gap) body rest)
      ∙ (ap (λ y. with_byte cut n b y)
      (bursts_from-silence (suc n) gap (body ++ rest)
      ∙ bursts_from-contiguous (suc n + gap) body rest body_is (subst P end far))
      ∙ (with_byte-near cut n b next (bursts_from cut (suc n + gap + length body) rest) near
      ∙ (ap (λ k. let d : Burst = record { start = n; body = Byte b ∷ (silent k ++ body) } in
      d ∷ bursts_from cut (suc n + gap + length body) rest) back
      ∙ ap (λ i. let d : Burst = record { start = n; body = Byte b ∷ (silent gap ++ body) } in
      d ∷ bursts_from cut i rest) (sym end)))))

  AreBursts-silent : (n : ℕ) (l : List Tick) (ds : List Burst) → AreBursts cut (suc n) l ds
      → AreBursts cut n (Silent ∷ l) ds
  AreBursts-silent n l [] silence = ap (λ x. Silent ∷ x) silence
  AreBursts-silent n l (d ∷ ds) are =
      let begins : d.start ≡ suc n + are.0 = are.3 in
      (suc are.0, are.1, ap (λ x. Silent ∷ x) are.2, omega arith, are.4, are.5, are.6)

  AreBursts-at : (n m : ℕ) (l : List Tick) (ds : List Burst) → n ≡ m → AreBursts cut n l ds
      → AreBursts cut m l ds
  AreBursts-at n m l ds e are = let P : ℕ → Type 0 = λ i. AreBursts cut i l ds in subst P e are

  -- A byte far enough before the bursts of what follows is a burst of its own before them.
  AreBursts-alone : (n b : ℕ) (l : List Tick) (ds : List Burst) → StartsFrom (suc n + cut) ds
      → AreBursts cut (suc n) l ds
      → AreBursts cut n (Byte b ∷ l) (alone n b ∷ ds)
  AreBursts-alone n b l ds far are =
      let e : suc n ≡ n + 1 = omega arith in
      let P : ℕ → Type 0 = λ i. StartsFrom (i + cut) ds in
      (0, l, refl, sym (add-zero n), one b, subst P e far, AreBursts-at (suc n) (n + 1) l ds e are)

  AreBursts-byte : (n b : ℕ) (l : List Tick) (ds : List Burst) → AreBursts cut (suc n) l ds
      → AreBursts cut n (Byte b ∷ l) (with_byte cut n b ds)
  AreBursts-byte n b l [] are =
      let P : List Burst → Type 0 = λ x. AreBursts cut n (Byte b ∷ l) x in
      subst P (sym (with_byte-nil n b)) (AreBursts-alone n b l [] tt are)
  AreBursts-byte n b l (d ∷ ds) are =
      let P : List Burst → Type 0 = λ x. AreBursts cut n (Byte b ∷ l) x in
      let begins : d.start ≡ suc n + are.0 = are.3 in
      ⊎_elim
      (λ near.
      let gap : d.start - suc n ≡ are.0 = omega arith in
      let few : d.start - suc n < cut = omega arith in
      let long : length (silent (d.start - suc n) ++ d.body) ≡ d.start - suc n + length d.body =
      length-append (silent (d.start - suc n)) d.body
      ∙ ap (λ k. k + length d.body) (length-replicate (d.start - suc n) Silent) in
      let end : end_of d ≡ end_of (with_first n b d) = omega arith in
      let Q : ℕ → Type 0 = λ i. StartsFrom (i + cut) ds in
      subst P (sym (with_byte-near cut n b d ds near)) (
        0,
        are.1,
        ap (λ x. Byte b ∷ x)
            (are.2 ∙ (ap (λ k. silent k ++ (d.body ++ are.1)) (sym gap)
            ∙ sym (append_assoc (silent (d.start - suc n)) d.body are.1))),
        sym (add-zero n),
        more b (d.start - suc n) d.body few are.4,
        subst Q end are.5,
        AreBursts-at (end_of d) (end_of (with_first n b d)) are.1 ds end are.6,
      ))
      (λ far. subst P (sym (with_byte-far cut n b d ds far))
      (AreBursts-alone n b l (d ∷ ds) far are))
      (cases_lt d.start (suc n + cut))

  -- What `bursts_from` gives are the bursts of the line.
  pub bursts_from-are : (n : ℕ) (l : List Tick) → AreBursts cut n l (bursts_from cut n l)
  unfolding bursts_from
  bursts_from-are n [] = refl
  bursts_from-are n (Silent ∷ l) = AreBursts-silent n l (bursts_from cut (suc n) l)
      (bursts_from-are (suc n) l)
  bursts_from-are n (Byte b ∷ l) = AreBursts-byte n b l (bursts_from cut (suc n) l)
      (bursts_from-are (suc n) l)

  bursts_from-no_byte : (n m : ℕ) → bursts_from cut n (silent m) ≡ []
  unfolding bursts_from
  bursts_from-no_byte n zero = refl
  bursts_from-no_byte n (suc m) = bursts_from-no_byte (suc n) m

  -- Whatever the bursts of the line are, `bursts_from` gives them.
  pub bursts_from-only : (n : ℕ) (l : List Tick) (ds : List Burst) → AreBursts cut n l ds
      → bursts_from cut n l ≡ ds
  bursts_from-only n l [] silence = ap (λ x. bursts_from cut n x) silence
      ∙ bursts_from-no_byte n (length l)
  bursts_from-only n l (d ∷ ds) are =
      let others : bursts_from cut (n + are.0 + length d.body) are.1 ≡ ds =
      ap (λ i. bursts_from cut (i + length d.body) are.1) (sym are.3)
      ∙ bursts_from-only (end_of d) are.1 ds are.6 in
      let P : List Burst → Type 0 = λ x. StartsFrom (n + are.0 + length d.body + cut) x in
      let Q : ℕ → Type 0 = λ i. StartsFrom (i + length d.body + cut) ds in
      ap (λ x. bursts_from cut n x) are.2
      ∙ (bursts_from-silence n are.0 (d.body ++ are.1)
      ∙ (bursts_from-contiguous (n + are.0) d.body are.1 are.4
      (subst P (sym others) (subst Q are.3 are.5))
      ∙ (ap (λ x. let e : Burst = record { start = n + are.0; body = d.body } in e ∷ x) others
      ∙ ap (λ i. let e : Burst = record { start = i; body = d.body } in e ∷ ds) (sym are.3))))

-- Contiguous ticks stay contiguous if, after fewer than `cut` silent ticks, a byte follows.
pub contiguous-more : (cut : ℕ) (x : List Tick) (gap b : ℕ) → IsContiguous cut x → gap < cut
    → IsContiguous cut (x ++ (silent gap ++ Byte b ∷ []))
contiguous-more cut x gap b (one c) few = more c gap (Byte b ∷ []) few (one b)
contiguous-more cut x gap b (more c g rest little rest_is) few =
    let P : List Tick → Type 0 = λ y. IsContiguous cut (Byte c ∷ y) in
    subst P (sym (append_assoc (silent g) rest (silent gap ++ Byte b ∷ [])))
    (more c g (rest ++ (silent gap ++ Byte b ∷ [])) little
    (contiguous-more cut rest gap b rest_is few))
