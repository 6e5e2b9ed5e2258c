-- Emissions on a line: each has its ticks from its start on, and all other ticks are silent.
use Rattle.std.specs.Prelude.{ℕ, ◌+◌, ◌-◌, ◌&&◌, nat_lt, nat_le, List, [], ◌∷◌, map, slice_index_or}
use Rattle.std.specs.Prelude.{if◌then◌else◌}
use Rattle.std.specs.List.{range_with_len}
use Rattle.yasir_ticks.specs.Bursts.{Burst, end_of}
use Rattle.yasir_ticks.specs.declared.tick.Tick.{Tick}
use Rattle.yasir_ticks.specs.declared.tick.Tick.TheVariants.{Silent}

-- tick i of a line that carries these emissions: that of the first emission that covers it, or else
-- silence
unfoldable pub tick_at : List Burst → ℕ → Tick
tick_at [] i = Silent
tick_at (d ∷ ds) i =
    if nat_le d.start i && nat_lt i (end_of d) then slice_index_or d.body (i - d.start) Silent
    else tick_at ds i

-- the first m ticks of a line that carries these emissions
abbrev pub laid : ℕ → List Burst → List Tick
laid m emissions = map (λ i. tick_at emissions i) (range_with_len 0 m)

-- an emission, n ticks later
abbrev pub later : ℕ → Burst → Burst
later n d = record { start = n + d.start; body = d.body }
