-- The ticks that a ring holds.
use Rattle.std.specs.Prelude.{◌≡◌, ◌⊎◌, ℕ, zero, suc, List, [], ◌∷◌, take, drop, length, map}
use Rattle.yasir_ticks.specs.Ticks.{silent}
use Rattle.yasir_ticks.specs.declared.tick.Tick.{Tick}
use Rattle.yasir_ticks.specs.declared.tick.Tick.TheVariants.{Silent, Byte}
use Rattle.yasir_ticks.specs.declared.delay_ring.DelayRing.{DelayRing}

-- the tick with this byte and this mark; the mark is 0 if the tick is silent
abbrev pub marked : ℕ → ℕ → Tick
marked b zero = Silent
marked b (suc m) = Byte b

-- these bytes, each with its mark
abbrev pub marked_ticks : List ℕ → List ℕ → List Tick
marked_ticks [] marks = []
marked_ticks (b ∷ bytes) [] = []
marked_ticks (b ∷ bytes) (m ∷ marks) = marked b m ∷ marked_ticks bytes marks

-- the ticks that the ring holds, in the order in which they leave
abbrev pub ring_ticks : {D : ℕ} → DelayRing D → List Tick
ring_ticks {D} ring = take D (drop ring.oldest (marked_ticks ring.bytes ring.marks))

-- all of these ticks are silent, or all are bytes
abbrev pub AreAlike : List Tick → Type 0
AreAlike ticks = (ticks ≡ silent (length ticks)) ⊎ ((x : List ℕ) × (ticks ≡ map Byte x))
