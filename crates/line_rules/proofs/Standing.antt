-- What an outlet represents.
use Rattle.line_rules.specs.declared.line_rules.LineRules.{Ghosts as LineRules}
use Rattle.line_rules.specs.{Outlet.OutletStandsForTicks, Outlet.owed_by, declared.outlet.Outlet.Outlet}
use Rattle.std.proofs.Common.{◌≡◌, ℕ, List, arith}

-- If no fill is owed, an outlet represents any bytes.
pub stands-unowed : {R : Type 0} (proto : LineRules R) (value : Outlet R) (x : List ℕ)
    → owed_by value ≡ 0 → OutletStandsForTicks proto value x
stands-unowed proto value x none = record {
  bytes = λ some. absurd (omega arith);
  owes = λ some. absurd (omega arith);
}
