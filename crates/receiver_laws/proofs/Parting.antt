-- The bursts of a part of a line: of its front, and of what comes after silent ticks that divide
-- two bursts.
use Rattle.{frame_ending.proofs.Spread.AreSpread, link_box.proofs.Spoiled.contiguous-some}
use Rattle.std.proofs.Common.{◌≡◌, ◌∙◌, ℕ, zero, suc, ◌+◌, ◌-◌, ◌<◌, ◌≤◌, List, [], ◌∷◌, ◌++◌}
use Rattle.std.proofs.Common.{length, take, drop, refl, sym, ap, subst, arith, ⊎_elim, append_assoc}
use Rattle.std.proofs.{Common.length-append, Common.get_or, Math.Seq.take-append_seam}
use Rattle.std.proofs.lemmas.{Bool.cases_lt, List.length-replicate}
use Rattle.yasir_ticks.proofs.BurstLaws.{with_byte-near, with_byte-far, bursts_from-starts}
use Rattle.yasir_ticks.proofs.BurstsOfLaws.{bursts_from-silence, bursts_from-are}
use Rattle.yasir_ticks.specs.Bursts.{Burst, with_byte, bursts_from, end_of, AreClosed}
use Rattle.yasir_ticks.specs.{BurstsOf.StartsFrom, BurstsOf.AreBursts, Ticks.silent}
use Rattle.yasir_ticks.specs.declared.tick.Tick.{Tick, TheVariants.Silent, TheVariants.Byte}

-- ---- two ways to divide a list

-- If a list is divided in two ways, the longer first part begins with the shorter one.
pub same-front : {A : Type 0} (x y z w : List A) → x ++ y ≡ z ++ w → length z ≤ length x
    → (v : List A) × (x ≡ z ++ v) × (w ≡ v ++ y)
same-front x y [] w same short = (x, refl, sym same)
same-front [] y (c ∷ z) w same short = absurd (omega arith)
same-front (a ∷ x) y (c ∷ z) w same short =
    let first : a ≡ c = ap (λ l. get_or l 0 a) same in
    let rest = same-front x y z w (ap (λ l. drop 1 l) same) (omega arith) in
    (rest.0, ap (λ t. t ∷ x) first ∙ ap (λ l. c ∷ l) rest.1, rest.2)

pub take-append-add : (x y : List Tick) (j : ℕ) → take (length x + j) (x ++ y) ≡ x ++ take j y
take-append-add [] y j = ap (λ i. take i y) (omega arith)
take-append-add (t ∷ x) y j =
    let more : length (t ∷ x) + j ≡ suc (length x + j) = omega arith in
    ap (λ i. take i (t ∷ (x ++ y))) more ∙ ap (λ l. t ∷ l) (take-append-add x y j)

pub silent-add : (a b : ℕ) → silent a ++ silent b ≡ silent (a + b)
silent-add zero b = ap (λ k. silent k) (omega arith)
silent-add (suc a) b =
    let next : suc (a + b) ≡ suc a + b = omega arith in
    ap (λ l. Silent ∷ l) (silent-add a b) ∙ ap (λ k. silent k) next

pub silent-swap : (a b : ℕ) → silent a ++ silent b ≡ silent b ++ silent a
silent-swap a b =
    let same : a + b ≡ b + a = omega arith in
    silent-add a b ∙ (ap (λ k. silent k) same ∙ sym (silent-add b a))

-- ---- after the silent ticks that divide two bursts

module _ (cut : ℕ) where
  with_byte-none : (n b : ℕ) (y : List Burst) → StartsFrom (suc n + cut) y
      → with_byte cut n b y ≡ with_byte cut n b [] ++ y
  unfolding with_byte
  with_byte-none n b [] far = refl
  with_byte-none n b (d ∷ y) far = with_byte-far cut n b d y far

  with_byte-front : (n b : ℕ) (x y : List Burst) → StartsFrom (suc n + cut) y
      → with_byte cut n b (x ++ y) ≡ with_byte cut n b x ++ y
  with_byte-front n b [] y far = with_byte-none n b y far
  with_byte-front n b (d ∷ x) y far =
      ⊎_elim
      (λ near. with_byte-near cut n b d (x ++ y) near
      ∙ ap (λ l. l ++ y) (sym (with_byte-near cut n b d x near)))
      (λ away. with_byte-far cut n b d (x ++ y) away
      ∙ ap (λ l. l ++ y) (sym (with_byte-far cut n b d x away)))
      (cases_lt d.start (suc n + cut))

  starts-weaker : (n m : ℕ) (ds : List Burst) → n ≤ m → StartsFrom m ds → StartsFrom n ds
  starts-weaker n m [] le starts = tt
  starts-weaker n m (d ∷ ds) le starts = omega arith

  -- The bursts of a line with `cut` silent ticks in it are those before these ticks and those after
  -- them.
  pub bursts-parted : (n m : ℕ) (x y : List Tick) → n + length x + cut ≡ m
      → bursts_from cut n (x ++ (silent cut ++ y)) ≡ bursts_from cut n x ++ bursts_from cut m y
  unfolding bursts_from
  bursts-parted n m [] y here =
      let e : n + cut ≡ m = omega arith in
      bursts_from-silence cut n cut y ∙ ap (λ i. bursts_from cut i y) e
  bursts-parted n m (Silent ∷ x) y here = bursts-parted (suc n) m x y (omega arith)
  bursts-parted n m (Byte b ∷ x) y here =
      ap (λ ds. with_byte cut n b ds) (bursts-parted (suc n) m x y (omega arith))
      ∙ with_byte-front n b (bursts_from cut (suc n) x) (bursts_from cut m y)
      (starts-weaker (suc n + cut) m (bursts_from cut m y) (omega arith)
      (bursts_from-starts cut m y))

  -- ---- the front of a line

  -- The bursts of a front of a line that begins with silence start after the silence.
  dark-starts : (c k m : ℕ) (v rest w : List Tick) → v ++ rest ≡ silent c ++ w → k + c ≡ m
      → StartsFrom m (bursts_from cut k v)
  unfolding bursts_from
  dark-starts zero k m v rest w same here =
      let e : k ≡ m = omega arith in
      let P : ℕ → Type 0 = λ i. StartsFrom i (bursts_from cut k v) in
      subst P e (bursts_from-starts cut k v)
  dark-starts (suc c) k m [] rest w same here = tt
  dark-starts (suc c) k m (Silent ∷ v) rest w same here =
      dark-starts c (suc k) m v rest w (ap (λ l. drop 1 l) same) (omega arith)
  dark-starts (suc c) k m (Byte b ∷ v) rest w same here =
      let no : Byte b ≡ Silent = ap (λ l. get_or l 0 Silent) same in cc

  tail-starts : (k : ℕ) (v rest : List Tick) (Q : List Burst) → AreBursts cut k (v ++ rest) Q
      → StartsFrom (k + cut) Q → StartsFrom (k + cut) (bursts_from cut k v)
  tail-starts k v rest [] are far =
      let all : ℕ = length (v ++ rest) in
      dark-starts cut k (k + cut) v (rest ++ silent cut) (silent all)
      (sym (append_assoc v rest (silent cut))
      ∙ (ap (λ l. l ++ silent cut) are ∙ silent-swap all cut))
      refl
  tail-starts k v rest (q ∷ Q) are far =
      let begins : q.start ≡ k + are.0 = are.3 in
      let more : ℕ = are.0 - cut in
      let long : cut + more ≡ are.0 = omega arith in
      dark-starts cut k (k + cut) v rest (silent more ++ (q.body ++ are.1))
      (are.2
      ∙ (ap (λ i. silent i ++ (q.body ++ are.1)) (sym long)
      ∙ (ap (λ l. l ++ (q.body ++ are.1)) (sym (silent-add cut more))
      ∙ append_assoc (silent cut) (silent more) (q.body ++ are.1))))
      refl

  -- A burst doesn't start before its line.
  starts-later : (n : ℕ) (line : List Tick) (P : List Burst) (e : Burst) (Q : List Burst)
      → AreBursts cut n line (P ++ e ∷ Q) → n ≤ e.start
  starts-later n line [] e Q are = let begins : e.start ≡ n + are.0 = are.3 in omega arith
  starts-later n line (p ∷ P) e Q are =
      let begins : p.start ≡ n + are.0 = are.3 in
      let rest = starts-later (end_of p) are.1 P e Q are.6 in
      omega arith

  starts-front : (k : ℕ) (P : List Burst) (e : Burst) (Q X : List Burst)
      → StartsFrom k (P ++ e ∷ Q) → StartsFrom k (P ++ e ∷ X)
  starts-front k [] e Q X starts = starts
  starts-front k (p ∷ P) e Q X starts = starts

  starts-before : (k : ℕ) (P : List Burst) (e : Burst) (Q : List Burst)
      → StartsFrom k (P ++ e ∷ Q) → StartsFrom k P
  starts-before k [] e Q starts = tt
  starts-before k (p ∷ P) e Q starts = starts

  front-length : (gap : ℕ) (x : List Tick) → length (silent gap ++ x) ≡ gap + length x
  front-length gap x = length-append (silent gap) x ∙ ap (λ k. k + length x)
      (length-replicate gap Silent)

  -- A front of a line has all bursts of the line that end within it.
  pub are-front : (n : ℕ) (line rest : List Tick) (P : List Burst) (e : Burst) (Q : List Burst)
      → AreBursts cut n (line ++ rest) (P ++ e ∷ Q) → end_of e ≤ n + length line
      → (X : List Burst) × AreBursts cut n line (P ++ e ∷ X)
  are-front n line rest [] e Q are within =
      let begins : e.start ≡ n + are.0 = are.3 in
      let long = front-length are.0 e.body in
      let parts = same-front line rest (silent are.0 ++ e.body) are.1
      (are.2 ∙ sym (append_assoc (silent are.0) e.body are.1)) (omega arith) in
      let v : List Tick = parts.0 in
      let R : List Tick → Type 0 = λ l. AreBursts cut (end_of e) l Q in (
        bursts_from cut (end_of e) v,
        (
          are.0,
          v,
          parts.1 ∙ append_assoc (silent are.0) e.body v,
          are.3,
          are.4,
          tail-starts (end_of e) v rest Q (subst R parts.2 are.6) are.5,
          bursts_from-are cut (end_of e) v,
        ),
      )
  are-front n line rest (p ∷ P) e Q are within =
      let begins : p.start ≡ n + are.0 = are.3 in
      let later = starts-later (end_of p) are.1 P e Q are.6 in
      let long = front-length are.0 p.body in
      let parts = same-front line rest (silent are.0 ++ p.body) are.1
      (are.2 ∙ sym (append_assoc (silent are.0) p.body are.1)) (omega arith) in
      let v : List Tick = parts.0 in
      let all = ap length parts.1 ∙ length-append (silent are.0 ++ p.body) v in
      let R : List Tick → Type 0 = λ l. AreBursts cut (end_of p) l (P ++ e ∷ Q) in
      let others = are-front (end_of p) v rest P e Q (subst R parts.2 are.6) (omega arith) in (
        others.0,
        (
          are.0,
          v,
          parts.1 ∙ append_assoc (silent are.0) p.body v,
          are.3,
          are.4,
          starts-front (end_of p + cut) P e Q others.0 are.5,
          others.1,
        ),
      )

  -- The ticks before a burst have the bursts before it.
  pub are-before : (n k : ℕ) (line : List Tick) (G : List Burst) (e : Burst) (Q : List Burst)
      → AreBursts cut n line (G ++ e ∷ Q) → n + k ≡ e.start → AreBursts cut n (take k line) G
  are-before n k line [] e Q are here =
      let begins : e.start ≡ n + are.0 = are.3 in
      let gap : k ≡ length (silent are.0) = omega (arith, length-replicate are.0 Silent) in
      let dark : take k line ≡ silent are.0 =
      ap (λ l. take k l) are.2
      ∙ (ap (λ i. take i (silent are.0 ++ (e.body ++ are.1))) gap
      ∙ take-append_seam (silent are.0) (e.body ++ are.1)) in
      let long : are.0 ≡ length (take k line) =
      sym (ap length dark ∙ length-replicate are.0 Silent) in
      dark ∙ ap (λ i. silent i) long
  are-before n k line (g ∷ G) e Q are here =
      let begins : g.start ≡ n + are.0 = are.3 in
      let later = starts-later (end_of g) are.1 G e Q are.6 in
      let j : ℕ = e.start - end_of g in
      let next : end_of g + j ≡ e.start = omega arith in
      let x : List Tick = silent are.0 ++ g.body in
      let long = front-length are.0 g.body in
      let place : k ≡ length x + j = omega arith in
      let front : take k line ≡ silent are.0 ++ (g.body ++ take j are.1) =
      ap (λ l. take k l) (are.2 ∙ sym (append_assoc (silent are.0) g.body are.1))
      ∙ (ap (λ i. take i (x ++ are.1)) place
      ∙ (take-append-add x are.1 j ∙ append_assoc (silent are.0) g.body (take j are.1))) in (
        are.0,
        take j are.1,
        front,
        are.3,
        are.4,
        starts-before (end_of g + cut) G e Q are.5,
        are-before (end_of g) j are.1 G e Q are.6 next,
      )

  spread-later : (n : ℕ) (G : List Burst) (e : Burst) (Q : List Burst)
      → AreSpread cut n (G ++ e ∷ Q) → n ≤ e.start
  spread-later n [] e Q spread = spread.0
  spread-later n (g ∷ G) e Q spread =
      let first : n ≤ g.start = spread.0 in
      let rest = spread-later (end_of g + cut) G e Q spread.2 in
      omega arith

  -- The bursts before a burst are closed when it starts.
  pub closed-before : (n : ℕ) (G : List Burst) (e : Burst) (Q : List Burst)
      → AreSpread cut n (G ++ e ∷ Q) → AreClosed cut e.start G
  closed-before n [] e Q spread = tt
  closed-before n (g ∷ G) e Q spread = (
    spread-later (end_of g + cut) G e Q spread.2,
    closed-before (end_of g + cut) G e Q spread.2,
  )

  -- Two bursts of a line that start at the same tick are the same.
  pub same-burst : (n : ℕ) (G H : List Burst) (x y : Burst) (Q R : List Burst)
      → G ++ x ∷ Q ≡ H ++ y ∷ R → AreSpread cut n (G ++ x ∷ Q) → x.start ≡ y.start
      → (G ≡ H) × (x ≡ y)
  same-burst n [] [] x y Q R same spread starts = (refl, ap (λ l. get_or l 0 x) same)
  same-burst n [] (h ∷ H) x y Q R same spread starts =
      let S : List Burst → Type 0 = λ l. AreSpread cut (end_of x + cut) l in
      let later = spread-later (end_of x + cut) H y R
      (subst S (ap (λ l. drop 1 l) same) spread.2) in
      let some = contiguous-some cut x.body spread.1 in
      absurd (omega arith)
  same-burst n (g ∷ G) [] x y Q R same spread starts =
      let first : g ≡ y = ap (λ l. get_or l 0 g) same in
      let begins : g.start ≡ y.start = ap (λ (d : Burst). d.start) first in
      let later = spread-later (end_of g + cut) G x Q spread.2 in
      let some = contiguous-some cut g.body spread.1 in
      absurd (omega arith)
  same-burst n (g ∷ G) (h ∷ H) x y Q R same spread starts =
      let first : g ≡ h = ap (λ l. get_or l 0 g) same in
      let rest = same-burst (end_of g + cut) G H x y Q R (ap (λ l. drop 1 l) same) spread.2 starts
      in
      (ap (λ d. d ∷ G) first ∙ ap (λ l. h ∷ l) rest.0, rest.1)

-- ---- which bursts come later

-- Holds if each of these bursts starts before tick m.
abbrev pub StartBefore : ℕ → List Burst → Type 0
StartBefore m [] = Unit {0}
StartBefore m (d ∷ ds) = (d.start < m) × StartBefore m ds

-- If the bursts of `A` start before tick m, and `e` doesn't, `A` is a front of the bursts before
-- `e`.
pub parted-by : (m : ℕ) (P : List Burst) (e : Burst) (X A B : List Burst) → P ++ e ∷ X ≡ A ++ B
    → StartBefore m A → m ≤ e.start → (M : List Burst) × (P ≡ A ++ M) × (B ≡ M ++ e ∷ X)
parted-by m P e X [] B same before late = (P, refl, sym same)
parted-by m [] e X (a ∷ A) B same before late =
    let first : e ≡ a = ap (λ l. get_or l 0 e) same in
    let starts : e.start ≡ a.start = ap (λ (d : Burst). d.start) first in
    let soon : a.start < m = before.0 in
    absurd (omega arith)
parted-by m (p ∷ P) e X (a ∷ A) B same before late =
    let first : p ≡ a = ap (λ l. get_or l 0 p) same in
    let rest = parted-by m P e X A B (ap (λ l. drop 1 l) same) before.1 late in
    (rest.0, ap (λ d. d ∷ P) first ∙ ap (λ l. a ∷ l) rest.1, rest.2)
