-- The spacer behind a box, if there is one.
use Rattle.std.specs.Prelude.{◌≡◌, ℕ, Bool, true, false, List, Option, Some, None}
use Rattle.yasir_ticks.specs.declared.tick.Tick.{Tick}
use Rattle.session_lists.specs.declared.guard.Guard.{Ghosts as Guard}

module _ {G : Type 0} (g : Guard G) where
  -- Holds if there is a guard just if `spaced` says so, and it has heard this line.
  abbrev pub Guards : Bool → Option G → List Tick → Type 0
  Guards spaced None line = spaced ≡ false
  Guards spaced (Some guard) line = (spaced ≡ true) × g.stands guard line

  -- how many ticks the guard has heard, or 0 if there is none
  abbrev pub guard_taken : Option G → ℕ
  guard_taken None = 0
  guard_taken (Some guard) = g.taken guard
