-- Bursts of a line. The line is cut wherever there are `cut` or more silent ticks in a row. It
-- counts as silent before its start.
use Rattle.std.specs.Prelude.{ℕ, suc, ◌+◌, ◌-◌, ◌≤◌, nat_lt, List, [], ◌∷◌, ◌++◌, length}
use Rattle.std.specs.Prelude.{if◌then◌else◌}
use Rattle.yasir_ticks.specs.Ticks.{silent}
use Rattle.yasir_ticks.specs.declared.TheConstants.{T3_5_TICKS}
use Rattle.yasir_ticks.specs.declared.tick.Tick.{Tick}
use Rattle.yasir_ticks.specs.declared.tick.Tick.TheVariants.{Silent, Byte}

-- the tick of the first byte, and the ticks from there to the last byte
pub record Burst : Type 0 where
  pub start : ℕ
  pub body : List Tick

-- The bursts with a byte at tick n put before them. The byte joins the first burst if that one
-- starts after fewer than `cut` silent ticks.
unfoldable pub with_byte : ℕ → ℕ → ℕ → List Burst → List Burst
with_byte cut n b [] = record { start = n; body = Byte b ∷ [] } ∷ []
with_byte cut n b (d ∷ ds) =
    if nat_lt d.start (suc n + cut)
    then record { start = n; body = Byte b ∷ (silent (d.start - suc n) ++ d.body) } ∷ ds
    else record { start = n; body = Byte b ∷ [] } ∷ d ∷ ds

-- the bursts of ticks, the first of which is tick n of the line
unfoldable pub bursts_from : ℕ → ℕ → List Tick → List Burst
bursts_from cut n [] = []
bursts_from cut n (Silent ∷ l) = bursts_from cut (suc n) l
bursts_from cut n (Byte b ∷ l) = with_byte cut n b (bursts_from cut (suc n) l)

-- the bursts of a line, which is cut by the silence t3.5 of Modbus over Serial Line V1.02
abbrev pub bursts : List Tick → List Burst
bursts l = bursts_from T3_5_TICKS 0 l

-- the tick after the last byte of a burst
abbrev pub end_of : Burst → ℕ
end_of d = d.start + length d.body

-- Holds if `cut` silent ticks follow each of these bursts before tick m.
abbrev pub AreClosed : ℕ → ℕ → List Burst → Type 0
AreClosed cut m [] = Unit {0}
AreClosed cut m (d ∷ ds) = (end_of d + cut ≤ m) × AreClosed cut m ds
