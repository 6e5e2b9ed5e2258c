-- A line is a list of ticks; the first one is tick 0.
use Rattle.std.specs.Prelude.{ℕ, suc, ◌<◌, List, [], ◌∷◌, map, replicate}
use Rattle.yasir_ticks.specs.declared.run.Run.{Run}
use Rattle.yasir_ticks.specs.declared.run.Run.TheVariants.{Nothing, Bytes, Silence, Mark}
use Rattle.yasir_ticks.specs.declared.tick.Tick.{Tick}
use Rattle.yasir_ticks.specs.declared.tick.Tick.TheVariants.{Silent, Byte}

-- n silent ticks
abbrev pub silent : ℕ → List Tick
silent n = replicate n Silent

-- the bytes among ticks
abbrev pub bytes_in : List Tick → List ℕ
bytes_in [] = []
bytes_in (Silent ∷ l) = bytes_in l
bytes_in (Byte b ∷ l) = b ∷ bytes_in l

-- a tick whose byte, if it is one, is below 256
abbrev pub IsTick : Tick → Type 0
IsTick Silent = Unit {0}
IsTick (Byte b) = b < 256

-- ticks whose bytes are below 256
abbrev pub AreTicks : List Tick → Type 0
AreTicks [] = Unit {0}
AreTicks (t ∷ l) = IsTick t × AreTicks l

-- What a tick text represents: ticks, and marks between lists of them.
pub data Item : Type 0 where
  tick : Tick → Item
  mark : Item

-- the ticks among items
abbrev pub ticks_in : List Item → List Tick
ticks_in [] = []
ticks_in (tick t ∷ l) = t ∷ ticks_in l
ticks_in (mark ∷ l) = ticks_in l

-- how many marks are among items
abbrev pub marks_in : List Item → ℕ
marks_in [] = 0
marks_in (tick t ∷ l) = marks_in l
marks_in (mark ∷ l) = suc (marks_in l)

-- the items of a run
abbrev pub items_of_run : Run → List Item
items_of_run Nothing = []
items_of_run (Bytes bytes) = map (λ b. tick (Byte b)) bytes.items
items_of_run (Silence n) = replicate n (tick Silent)
items_of_run Mark = mark ∷ []
