-- What leaves for a burst and its fill, as far as the burst has come.
use Rattle.std.specs.Prelude.{ℕ, zero, suc, Bool, true, false, List, [], ◌∷◌, ◌++◌}
use Rattle.yasir_ticks.specs.declared.tick.Tick.{Tick}
use Rattle.yasir_ticks.specs.declared.tick.Tick.TheVariants.{Silent, Byte}
use Rattle.line_rules.specs.Rules.{Rules, spoil_of}
use Rattle.line_rules.specs.Outlet.{emitted, owed_after}

-- whether there are no ticks
abbrev pub is_none : List Tick → Bool
is_none [] = true
is_none (t ∷ ticks) = false

-- the next byte of a fill, after these bytes, if this many bytes of the fill follow it: 0, spoiled
-- if it is the last
abbrev pub fill_byte : Rules → List ℕ → ℕ → Tick
fill_byte rules left zero = Byte (spoil_of rules left 0)
fill_byte rules left (suc more) = Byte 0

-- a fill of this many bytes, after these bytes
unfoldable pub fill_out : Rules → List ℕ → ℕ → List Tick
fill_out rules left zero = []
fill_out rules left (suc owed) =
    fill_byte rules left owed ∷ fill_out rules (left ++ 0 ∷ []) owed

-- What leaves for these live ticks, which follow these bytes, with this many bytes of a fill owed.
-- If the burst doesn't pass, the bytes that it lacks follow as a fill, and the last byte of all is
-- spoiled.
unfoldable pub leaves : Rules → Bool → List ℕ → List Tick → ℕ → List Tick
leaves rules passed left [] owed = fill_out rules left owed
leaves rules passed left (Silent ∷ live) owed = Silent ∷ leaves rules passed left live owed
leaves rules passed left (Byte b ∷ live) owed =
    Byte (emitted rules left b (is_none live) passed)
    ∷ leaves rules passed (left ++ b ∷ []) live (owed_after rules left b (is_none live) passed)
