-- One pair of wires that several ports share: in each tick a port drives them with a byte, or
-- listens.
use Rattle.std.specs.Prelude.{ℕ, List, [], ◌∷◌, ◌++◌, length, take}
use Rattle.yasir_ticks.specs.Ticks.{silent}
use Rattle.yasir_ticks.specs.declared.tick.Tick.{Tick}
use Rattle.yasir_ticks.specs.declared.tick.Tick.TheVariants.{Silent, Byte}

-- what a port hears in a tick: silence while it drives the wires, and otherwise what is on them
abbrev pub heard : Tick → Tick → Tick
heard Silent wire = wire
heard (Byte b) wire = Silent

-- what a port hears of the wires, if it drives them with these ticks of its own
abbrev pub hears : List Tick → List Tick → List Tick
hears [] wires = []
hears (own ∷ owns) [] = []
hears (own ∷ owns) (wire ∷ wires) = heard own wire ∷ hears owns wires

-- a port's own tick where it drives the wires, and otherwise the other tick
abbrev pub driven : Tick → Tick → Tick
driven Silent other = other
driven (Byte b) other = Byte b

-- What is on the wires if a port drives them, and these other ticks are on them otherwise. It is
-- also what an adapter hands over that echoes what its own port sends.
abbrev pub drives : List Tick → List Tick → List Tick
drives [] others = []
drives (own ∷ owns) [] = []
drives (own ∷ owns) (other ∷ others) = driven own other ∷ drives owns others

-- Holds if not both ticks are bytes.
abbrev pub IsApart : Tick → Tick → Type 0
IsApart Silent other = Unit {0}
IsApart (Byte b) Silent = Unit {0}
IsApart (Byte b) (Byte c) = ⊥

-- Holds if the two lists have the same length, and in no tick both have a byte: nobody talks while
-- another does.
abbrev pub AreApart : List Tick → List Tick → Type 0
AreApart [] [] = Unit {0}
AreApart [] (y ∷ ys) = ⊥
AreApart (x ∷ xs) [] = ⊥
AreApart (x ∷ xs) (y ∷ ys) = IsApart x y × AreApart xs ys

-- what is on the wires of what was decided, if it leaves n ticks later
abbrev pub on_wires : ℕ → List Tick → List Tick
on_wires n decided = take (length decided) (silent n ++ decided)
