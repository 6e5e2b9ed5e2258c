-- The ticks of a run are those of the items that it represents, bytes or silence.
use Rattle.std.proofs.Common.{◌≡◌, ℕ, List, [], ◌∷◌, map, replicate, refl, ap, sym}
use Rattle.yasir_ticks.proofs.TickRuns.{ticks_in-run}
use Rattle.yasir_ticks.specs.Ticks.{ticks_in, silent, Item.tick}
use Rattle.yasir_ticks.specs.declared.tick.Tick.TheVariants.{Silent, Byte}
use Rattle.yasir_ticks.specs.declared.tick_run.TickRun.TheVariants.{Silence}

pub byte_ticks : (bytes : List ℕ) → map Byte bytes ≡ ticks_in (map (λ b. tick (Byte b)) bytes)
byte_ticks [] = refl
byte_ticks (b ∷ bytes) = ap (λ l. Byte b ∷ l) (byte_ticks bytes)

pub silent_ticks : (n : ℕ) → silent n ≡ ticks_in (replicate n (tick Silent))
silent_ticks n = sym (ticks_in-run (Silence n))
