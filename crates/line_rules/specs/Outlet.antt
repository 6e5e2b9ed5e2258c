-- What leaves for a burst, byte by byte.
use Rattle.std.specs.Prelude.{◌≡◌, ℕ, ◌<◌, ◌==◌, ◌&&◌, not, Bool, List, [], ◌∷◌, ◌++◌, Option}
use Rattle.std.specs.Prelude.{Some, None, if◌then◌else◌}
use Rattle.line_rules.specs.Rules.{Rules, lacking_of, spoil_of}
use Rattle.line_rules.specs.declared.line_rules.LineRules.{Ghosts as LineRules}
use Rattle.line_rules.specs.declared.outlet.Outlet.{Outlet}

-- how many bytes of a fill haven't left yet
abbrev pub owed_by : {R : Type 0} → Outlet R → ℕ
owed_by value = value.owed

-- the value of the rules that represents all bytes of the last refused burst
abbrev pub refused_by : {R : Type 0} → Outlet R → R
refused_by value = value.refused

-- Holds if these are all bytes of the last refused burst.
abbrev pub OutletRefuses : {R : Type 0} → LineRules R → Outlet R → List ℕ → Type 0
OutletRefuses proto value x = proto.stands (refused_by value) x

-- Holds if `x` can be the bytes for which a byte has left: those of the burst as they came, and
-- then 00 for each byte of its fill. While a fill is owed, `x` has all bytes of the burst, and as
-- many more bytes of the fill are owed as the frame lacks.
pub record OutletStandsForTicks {R : Type 0} (proto : LineRules R) (value : Outlet R) (x : List ℕ) : Type 0
  where
    pub bytes : 0 < value.owed → OutletRefuses proto value x
    pub owes : 0 < value.owed → value.owed ≡ lacking_of proto.rules x

-- What leaves for the byte `b` after the bytes `x`: it is spoiled if it is the last one of a burst
-- that isn't passed and lacks no byte.
abbrev pub emitted : Rules → List ℕ → ℕ → Bool → Bool → ℕ
emitted rules x b last passed =
    if last && (not passed && lacking_of rules (x ++ b ∷ []) == 0) then spoil_of rules x b else b

-- how many bytes of a fill are owed after the byte `b`, which comes after the bytes `x`
abbrev pub owed_after : Rules → List ℕ → ℕ → Bool → Bool → ℕ
owed_after rules x b last passed =
    if last && not passed then lacking_of rules (x ++ b ∷ []) else 0

-- the next byte of a fill, after the bytes `x`, if `owed` bytes of it are owed: 00, but the last
-- one is spoiled
abbrev pub filled : Rules → List ℕ → ℕ → Option ℕ
filled rules x owed =
    if owed == 0 then None
    else if owed == 1 then Some (spoil_of rules x 0)
    else Some 0

-- the byte, before it is spoiled, for which `filled` returns one
abbrev pub filled_bytes : Option ℕ → List ℕ
filled_bytes None = []
filled_bytes (Some b) = 0 ∷ []
