-- Two lists, the elements of both in one.
use Rattle.device_model.proofs.ReadLaws.{frames_ended, frames_ended-append}
use Rattle.device_model.specs.Frames.{FrameRead}
use Rattle.poll_laws.proofs.GatesOn.{AreDark}
use Rattle.poll_laws.specs.Among.{IsInterleaved, IsInterleaved.none, IsInterleaved.first}
use Rattle.poll_laws.specs.Among.{IsInterleaved.second}
use Rattle.std.proofs.Common.{◌≡◌, ◌∙◌, ⊎_elim, ℕ, zero, suc, ◌+◌, ◌-◌, ◌≤◌, Bool, List, []}
use Rattle.std.proofs.Common.{◌∷◌, ◌++◌, refl, sym, ap, subst, arith}
use Rattle.std.proofs.lemmas.Bool.{cases_lt}
use Rattle.std.specs.List.{flat_map}
use Rattle.two_wire.specs.Wires.{drives, IsApart}
use Rattle.yasir_ticks.proofs.BurstLaws.{alone, with_byte-near, with_byte-far, bursts_from-starts}
use Rattle.yasir_ticks.specs.Bursts.{Burst, with_byte, bursts_from}
use Rattle.yasir_ticks.specs.{BurstsOf.StartsFrom, Ticks.silent}
use Rattle.yasir_ticks.specs.declared.tick.Tick.{Tick, TheVariants.Silent, TheVariants.Byte}

-- ---- what is made of interleaved lists

first-all : {X : Type 0} (a : List X) {z x y : List X} → IsInterleaved z x y
    → IsInterleaved (a ++ z) (a ++ x) y
first-all [] is = is
first-all (b ∷ a) is = first (first-all a is)

second-all : {X : Type 0} (a : List X) {z x y : List X} → IsInterleaved z x y
    → IsInterleaved (a ++ z) x (a ++ y)
second-all [] is = is
second-all (b ∷ a) is = second (second-all a is)

pub flat-interleaved : {X Y : Type 0} (f : X → List Y) {z x y : List X} → IsInterleaved z x y
    → IsInterleaved (flat_map f z) (flat_map f x) (flat_map f y)
flat-interleaved f none = none
flat-interleaved f (first {z} {x} {y} {a} is) = first-all (f a) (flat-interleaved f is)
flat-interleaved f (second {z} {x} {y} {a} is) = second-all (f a) (flat-interleaved f is)

module _ (cut : ℕ) (whole : Burst → Bool) (m : ℕ) where
  ended-flat : (ds : List Burst) → frames_ended cut whole m ds
      ≡ flat_map (λ d. frames_ended cut whole m (d ∷ [])) ds
  ended-flat [] = refl
  ended-flat (d ∷ ds) = frames_ended-append cut whole m (d ∷ []) ds
      ∙ ap (λ l. frames_ended cut whole m (d ∷ []) ++ l) (ended-flat ds)

  pub ended-interleaved : {z x y : List Burst} → IsInterleaved z x y
      → IsInterleaved (frames_ended cut whole m z) (frames_ended cut whole m x)
      (frames_ended cut whole m y)
  ended-interleaved {z} {x} {y} is =
      let f : Burst → List FrameRead = λ d. frames_ended cut whole m (d ∷ []) in
      subst (λ l. IsInterleaved l (frames_ended cut whole m x) (frames_ended cut whole m y))
      (sym (ended-flat z))
      (subst (λ l. IsInterleaved (flat_map f z) l (frames_ended cut whole m y)) (sym (ended-flat x))
      (subst (λ l. IsInterleaved (flat_map f z) (flat_map f x) l) (sym (ended-flat y))
      (flat-interleaved f is)))

-- ---- bursts of two lines, in the order of their starts

data IsMerged : List Burst → List Burst → List Burst → Type 0 where
  nothing : IsMerged [] [] []
  left : {z x y : List Burst} {d : Burst} → StartsFrom d.start y → IsMerged z x y
      → IsMerged (d ∷ z) (d ∷ x) y
  right : {z x y : List Burst} {d : Burst} → StartsFrom d.start x → IsMerged z x y
      → IsMerged (d ∷ z) x (d ∷ y)

other-way : {z x y : List Burst} → IsMerged z x y → IsMerged z y x
other-way nothing = nothing
other-way (left starts is) = right starts (other-way is)
other-way (right starts is) = left starts (other-way is)

merged-interleaved : {z x y : List Burst} → IsMerged z x y → IsInterleaved z x y
merged-interleaved nothing = none
merged-interleaved (left starts is) = first (merged-interleaved is)
merged-interleaved (right starts is) = second (merged-interleaved is)

starts-weaker : (n m : ℕ) (ds : List Burst) → n ≤ m → StartsFrom m ds → StartsFrom n ds
starts-weaker n m [] le starts = tt
starts-weaker n m (d ∷ ds) le starts = omega arith

module _ (cut n b : ℕ) where
  with_byte-none : with_byte cut n b [] ≡ alone n b ∷ []
  unfolding with_byte
  with_byte-none = refl

  -- A byte before bursts that start late enough is a burst of its own.
  apart-alone : (ds : List Burst) → StartsFrom (suc n + cut) ds
      → with_byte cut n b ds ≡ alone n b ∷ ds
  apart-alone [] far = with_byte-none
  apart-alone (d ∷ ds) far = with_byte-far cut n b d ds far

  -- A byte of the first line joins a burst of the first line alone.
  joins-left : {z x y : List Burst} → IsMerged z x y → StartsFrom (suc n + cut) y
      → IsMerged (with_byte cut n b z) (with_byte cut n b x) y
  joins-left nothing far =
      subst (λ l. IsMerged l l []) (sym with_byte-none) (left tt nothing)
  joins-left (left {z} {x} {y} {d} starts is) far =
      let from : StartsFrom n y = starts-weaker n (suc n + cut) y (omega arith) far in
      ⊎_elim
      (λ near.
      subst (λ l. IsMerged l (with_byte cut n b (d ∷ x)) y) (sym (with_byte-near cut n b d z near))
      (subst (λ l. IsMerged (joined d ∷ z) l y) (sym (with_byte-near cut n b d x near))
      (left from is)))
      (λ away.
      subst (λ l. IsMerged l (with_byte cut n b (d ∷ x)) y) (sym (with_byte-far cut n b d z away))
      (subst (λ l. IsMerged (alone n b ∷ d ∷ z) l y) (sym (with_byte-far cut n b d x away))
      (left from (left starts is))))
      (cases_lt d.start (suc n + cut))
    where
      joined : Burst → Burst
      joined d = record { start = n; body = Byte b ∷ (silent (d.start - suc n) ++ d.body) }
  joins-left (right {z} {x} {y} {d} starts is) far =
      let off : StartsFrom (suc n + cut) x = starts-weaker (suc n + cut) d.start x far starts in
      let begun : n ≤ d.start = omega arith in
      subst (λ l. IsMerged l (with_byte cut n b x) (d ∷ y)) (sym (with_byte-far cut n b d z far))
      (subst (λ l. IsMerged (alone n b ∷ d ∷ z) l (d ∷ y)) (sym (apart-alone x off))
      (left begun (right starts is)))

-- ---- lines that are apart

-- Holds if the first tick is silent, or the first `cut` of the others are.
abbrev pub HoldsOff : ℕ → Tick → List Tick → Type 0
HoldsOff cut Silent others = Unit {0}
HoldsOff cut (Byte b) others = AreDark cut others

-- Holds if in no tick both have a byte, and behind a byte of one the other is silent for `cut` ticks.
abbrev pub AreParted : ℕ → List Tick → List Tick → Type 0
AreParted cut [] [] = Unit {0}
AreParted cut [] (y ∷ ys) = ⊥
AreParted cut (x ∷ xs) [] = ⊥
AreParted cut (x ∷ xs) (y ∷ ys) =
    IsApart x y × HoldsOff cut x ys × HoldsOff cut y xs × AreParted cut xs ys

dark-less : (j k : ℕ) (l : List Tick) → j ≤ k → AreDark k l → AreDark j l
dark-less zero k l le dark = tt
dark-less (suc j) zero l le dark = absurd (omega arith)
dark-less (suc j) (suc k) [] le dark = tt
dark-less (suc j) (suc k) (Silent ∷ l) le dark = dark-less j k l (omega arith) dark
dark-less (suc j) (suc k) (Byte b ∷ l) le dark = absurd dark

off-less : (j k : ℕ) (t : Tick) (l : List Tick) → j ≤ k → HoldsOff k t l → HoldsOff j t l
off-less j k Silent l le off = tt
off-less j k (Byte b) l le off = dark-less j k l le off

pub parted-less : (j k : ℕ) (x y : List Tick) → j ≤ k → AreParted k x y → AreParted j x y
parted-less j k [] [] le parted = tt
parted-less j k [] (b ∷ y) le parted = absurd parted
parted-less j k (a ∷ x) [] le parted = absurd parted
parted-less j k (a ∷ x) (b ∷ y) le parted = (
  parted.0,
  off-less j k a y le parted.1,
  off-less j k b x le parted.2,
  parted-less j k x y le parted.3,
)

module _ (cut : ℕ) where
  dark-starts : (k n : ℕ) (l : List Tick) → AreDark k l → StartsFrom (n + k) (bursts_from cut n l)
  unfolding bursts_from
  dark-starts zero n l dark =
      let same : n ≡ n + 0 = omega arith in
      let P : ℕ → Type 0 = λ i. StartsFrom i (bursts_from cut n l) in
      subst P same (bursts_from-starts cut n l)
  dark-starts (suc k) n [] dark = tt
  dark-starts (suc k) n (Silent ∷ l) dark =
      let same : suc n + k ≡ n + suc k = omega arith in
      let P : ℕ → Type 0 = λ i. StartsFrom i (bursts_from cut (suc n) l) in
      subst P same (dark-starts k (suc n) l dark)
  dark-starts (suc k) n (Byte b ∷ l) dark = absurd dark

  merges : (n : ℕ) (x y : List Tick) → AreParted cut x y
      → IsMerged (bursts_from cut n (drives x y)) (bursts_from cut n x) (bursts_from cut n y)
  unfolding bursts_from
  merges n [] [] parted = nothing
  merges n [] (b ∷ y) parted = absurd parted
  merges n (a ∷ x) [] parted = absurd parted
  merges n (Silent ∷ x) (Silent ∷ y) parted = merges (suc n) x y parted.3
  merges n (Byte a ∷ x) (Silent ∷ y) parted =
      joins-left cut n a (merges (suc n) x y parted.3) (dark-starts cut (suc n) y parted.1)
  merges n (Silent ∷ x) (Byte b ∷ y) parted =
      other-way (joins-left cut n b (other-way (merges (suc n) x y parted.3))
      (dark-starts cut (suc n) x parted.2))
  merges n (Byte a ∷ x) (Byte b ∷ y) parted = absurd parted.0

  -- The bursts of what two say apart are those of both.
  pub bursts-interleaved : (x y : List Tick) → AreParted cut x y
      → IsInterleaved (bursts_from cut 0 (drives x y)) (bursts_from cut 0 x) (bursts_from cut 0 y)
  bursts-interleaved x y parted = merged-interleaved (merges 0 x y parted)
