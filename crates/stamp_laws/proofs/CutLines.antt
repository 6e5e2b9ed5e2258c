-- The bursts of a line of ticks are its bytes, cut wherever four silent ticks or more are between
-- two of them.
use Rattle.line_stamps.specs.Clock.{AllNext, silent_ticks}
use Rattle.line_stamps.specs.Places.{PlacedByte, ticks_from}
use Rattle.stamp_laws.specs.Cuts.{join, cut_where, first_tick}
use Rattle.std.proofs.Common.{◌≡◌, ◌∙◌, ℕ, suc, ◌+◌, ◌-◌, ◌<◌, ◌≤◌, ◌⊎◌, ⊎_elim, inl, sym, ap, List}
use Rattle.std.proofs.Common.{[], ◌∷◌, ◌++◌, Bool, true, false, arith, refl, subst, map, cond}
use Rattle.std.proofs.Common.{nat_lt, nat_le, le-leb}
use Rattle.std.proofs.lemmas.Bool.{cases_lt, cases_Bool, cond-true, cond-false, lt-leb}
use Rattle.yasir_ticks.proofs.BurstLaws.{alone, with_byte-near, with_byte-far}
use Rattle.yasir_ticks.proofs.BurstsOfLaws.{bursts_from-cons, bursts_from-silence}
use Rattle.yasir_ticks.specs.{Bursts.Burst, Bursts.with_byte, Bursts.bursts_from, Ticks.silent}
use Rattle.yasir_ticks.specs.declared.tick.Tick.{Tick, TheVariants.Byte}

-- the ticks from the first of these bytes to the last one
abbrev pub body_of : List PlacedByte → List Tick
body_of [] = []
body_of (x ∷ []) = Byte x.byte ∷ []
body_of (x ∷ y ∷ more) = Byte x.byte ∷ (silent (silent_ticks x y) ++ body_of (y ∷ more))

abbrev pub burst_of : List PlacedByte → Burst
burst_of xs = record { start = first_tick xs; body = body_of xs }

-- Two tests tell the silent ticks between two bytes: the first whether there are four or more, and
-- the second, if there are fewer, whether there are two or more.
pub record AreTold (parted apart : PlacedByte → PlacedByte → Bool) (x y : PlacedByte) : Type 0 where
  pub later : x.spot.tick < y.spot.tick
  pub ends : parted x y ≡ nat_le 4 (silent_ticks x y)
  pub breaks : parted x y ≡ false → nat_lt 1 (silent_ticks x y) ≡ apart x y

no-bursts : (n : ℕ) → bursts_from 4 n [] ≡ []
unfolding bursts_from
no-bursts n = refl

with-none : (n b : ℕ) → with_byte 4 n b [] ≡ alone n b ∷ []
unfolding with_byte
with-none n b = refl

first-burst : (n b tick : ℕ) (l : List Tick) → n ≤ tick
    → bursts_from 4 n (silent (tick - n) ++ (Byte b ∷ l))
    ≡ with_byte 4 tick b (bursts_from 4 (suc tick) l)
first-burst n b tick l before =
    let e : n + (tick - n) ≡ tick = omega arith in
    bursts_from-silence 4 n (tick - n) (Byte b ∷ l)
    ∙ (ap (λ k. bursts_from 4 k (Byte b ∷ l)) e ∙ bursts_from-cons 4 tick b l)

module _ (parted apart : PlacedByte → PlacedByte → Bool) where
  abbrev pub Told : List PlacedByte → Type 0
  Told xs = AllNext (AreTold parted apart) xs

  -- A byte in front of bursts makes the bursts of the parts to which `join` adds it.
  before-part : (x y : PlacedByte) (ys : List PlacedByte) (more : List (List PlacedByte))
      → AreTold parted apart x y
      → with_byte 4 x.spot.tick x.byte (map burst_of ((y ∷ ys) ∷ more))
      ≡ map burst_of (join parted x ((y ∷ ys) ∷ more))
  before-part x y ys more told =
      let later = told.later in
      ⊎_elim
      (λ (near : y.spot.tick < suc x.spot.tick + 4).
      let joins : parted x y ≡ false = told.ends ∙ lt-leb 4 (silent_ticks x y) (omega arith) in
      with_byte-near 4 x.spot.tick x.byte (burst_of (y ∷ ys)) (map burst_of more) near
      ∙ ap (λ b. map burst_of (cond b ((x ∷ []) ∷ (y ∷ ys) ∷ more) ((x ∷ y ∷ ys) ∷ more)))
      (sym joins))
      (λ (far : suc x.spot.tick + 4 ≤ y.spot.tick).
      let parts : parted x y ≡ true = told.ends ∙ le-leb 4 (silent_ticks x y) (omega arith) in
      with_byte-far 4 x.spot.tick x.byte (burst_of (y ∷ ys)) (map burst_of more) far
      ∙ ap (λ b. map burst_of (cond b ((x ∷ []) ∷ (y ∷ ys) ∷ more) ((x ∷ y ∷ ys) ∷ more)))
      (sym parts))
      (cases_lt y.spot.tick (suc x.spot.tick + 4))

  -- What holds of all parts that begin with byte y holds of what `join` makes of y and any parts.
  with-first : (P : List (List PlacedByte) → Type 0) (y : PlacedByte)
      (parts : List (List PlacedByte))
      → ((ys : List PlacedByte) (more : List (List PlacedByte)) → P ((y ∷ ys) ∷ more))
      → P (join parted y parts)
  with-first P y [] holds = holds [] []
  with-first P y ([] ∷ more) holds = holds [] more
  with-first P y ((z ∷ zs) ∷ more) holds =
      elim (parted y z) as (λ b. P (cond b ((y ∷ []) ∷ (z ∷ zs) ∷ more) ((y ∷ z ∷ zs) ∷ more))) [
        | true ↦ holds [] ((z ∷ zs) ∷ more)
        | false ↦ holds (z ∷ zs) more
      ]

  pub bursts-are : (n : ℕ) (xs : List PlacedByte) → Told xs → (n ≤ first_tick xs) ⊎ (xs ≡ [])
      → bursts_from 4 n (ticks_from n xs) ≡ map burst_of (cut_where parted xs)
  bursts-are n [] told from = no-bursts n
  bursts-are n (x ∷ []) told from =
      let before : n ≤ x.spot.tick = ⊎_elim (λ h. h) (λ e. absurd (cc)) from in
      first-burst n x.byte x.spot.tick [] before
      ∙ (ap (λ ds. with_byte 4 x.spot.tick x.byte ds) (no-bursts (suc x.spot.tick))
      ∙ with-none x.spot.tick x.byte)
  bursts-are n (x ∷ y ∷ ys) told from =
      let before : n ≤ x.spot.tick = ⊎_elim (λ h. h) (λ e. absurd (cc)) from in
      let later = told.0.later in
      first-burst n x.byte x.spot.tick (ticks_from (suc x.spot.tick) (y ∷ ys)) before
      ∙ (ap (λ ds. with_byte 4 x.spot.tick x.byte ds)
      (bursts-are (suc x.spot.tick) (y ∷ ys) told.1 (inl (omega arith)))
      ∙ with-first (λ parts. with_byte 4 x.spot.tick x.byte (map burst_of parts)
      ≡ map burst_of (join parted x parts)) y (cut_where parted ys)
      (λ zs more. before-part x y zs more told.0))

  -- Inside a part the second test tells whether two silent ticks or more are between two bytes.
  abbrev pub IsPart : List PlacedByte → Type 0
  IsPart xs = AllNext (λ x y. nat_lt 1 (silent_ticks x y) ≡ apart x y) xs

  abbrev pub AreParts : List (List PlacedByte) → Type 0
  AreParts [] = Unit {0}
  AreParts (z ∷ zs) = IsPart z × AreParts zs

  join-parts : (x y : PlacedByte) (ys : List PlacedByte) (more : List (List PlacedByte))
      → AreTold parted apart x y → AreParts ((y ∷ ys) ∷ more)
      → AreParts (join parted x ((y ∷ ys) ∷ more))
  join-parts x y ys more told are =
      ⊎_elim
      (λ parts. subst (λ (zs : List (List PlacedByte)). AreParts zs)
      (sym (cond-true (parted x y) ((x ∷ []) ∷ (y ∷ ys) ∷ more) ((x ∷ y ∷ ys) ∷ more) parts))
      (tt, are))
      (λ joins. subst (λ (zs : List (List PlacedByte)). AreParts zs)
      (sym (cond-false (parted x y) ((x ∷ []) ∷ (y ∷ ys) ∷ more) ((x ∷ y ∷ ys) ∷ more) joins))
      ((told.breaks joins, are.0), are.1))
      (cases_Bool (parted x y))

  pub are-parts : (xs : List PlacedByte) → Told xs → AreParts (cut_where parted xs)
  are-parts [] told = tt
  are-parts (x ∷ []) told = (tt, tt)
  are-parts (x ∷ y ∷ ys) told =
      with-first (λ parts. AreParts parts → AreParts (join parted x parts)) y (cut_where parted ys)
      (λ zs more. join-parts x y zs more told.0) (are-parts (y ∷ ys) told.1)
