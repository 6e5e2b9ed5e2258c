-- What the outlet makes of the next tick to leave.
use Rattle.std.specs.Prelude.{◌≡◌, ℕ, ◌-◌, Bool, true, false, List, ◌∷◌, [], ◌++◌, Option, Some}
use Rattle.std.specs.Prelude.{None}
use Rattle.yasir_ticks.specs.declared.tick.Tick.{Tick}
use Rattle.yasir_ticks.specs.declared.tick.Tick.TheVariants.{Silent, Byte}
use Rattle.line_rules.specs.declared.line_rules.LineRules.{Ghosts as LineRules}
use Rattle.line_rules.specs.declared.outlet.Outlet.{Outlet}
use Rattle.line_rules.specs.Outlet.{OutletStandsForTicks, OutletRefuses, owed_by, refused_by}
use Rattle.line_rules.specs.Outlet.{emitted, owed_after, filled, filled_bytes}

-- the tick of a byte, or silence if there is none
abbrev pub tick_or_silence : Option ℕ → Tick
tick_or_silence None = Silent
tick_or_silence (Some b) = Byte b

-- Holds if the outlet, in the turn from `old` to `new`, makes `answer` of the next tick to leave,
-- after the bytes `x`. A byte goes through the outlet, as the last one or not. Silence lets out the
-- next byte of a fill. About the last byte of a burst that doesn't pass, this says something only
-- if the outlet knows all bytes of the burst.
abbrev pub HasTurned : {R : Type 0} → LineRules R → Outlet R → Outlet R → Bool → Bool → List ℕ
    → Tick → Tick → Type 0
HasTurned proto old new last passes x answer Silent =
    (answer ≡ tick_or_silence (filled proto.rules x (owed_by old)))
    × OutletStandsForTicks proto new (x ++ filled_bytes (filled proto.rules x (owed_by old)))
    × (owed_by new ≡ owed_by old - 1)
    × (owed_by old ≡ 0 → refused_by new ≡ refused_by old)
HasTurned proto old new last passes x answer (Byte b) =
    (last ≡ true → passes ≡ false → OutletRefuses proto old (x ++ b ∷ []))
    → (answer ≡ Byte (emitted proto.rules x b last passes))
    × OutletStandsForTicks proto new (x ++ b ∷ [])
    × (owed_by new ≡ owed_after proto.rules x b last passes)
    × (refused_by new ≡ refused_by old)
