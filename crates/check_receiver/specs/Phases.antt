-- The phases of a receiver, and what hasn't left yet in each of them.
use Rattle.std.specs.Prelude.{◌≡◌, ℕ, ◌+◌, ◌<◌, nat_lt, Bool, true, false, if◌then◌else◌}
use Rattle.check_receiver.specs.declared.phase.Phase.{Phase}
use Rattle.check_receiver.specs.declared.phase.Phase.TheVariants.{Idle, Open, Leaving}

-- whether a verdict is open
abbrev pub is_open : Phase → Bool
is_open Idle = false
is_open Open = true
is_open (Leaving passed) = false

-- whether a burst that has passed is still leaving
abbrev pub passes_in : Phase → Bool
passes_in Idle = false
passes_in Open = false
passes_in (Leaving passed) = passed

-- Holds if these two numbers fit the phase: the last live tick leaves `until` steps from now, and
-- `owed` bytes of a fill are owed. Both are 0 if the receiver is idle, and not both while a noted
-- burst is still leaving.
abbrev pub LeftIn : Phase → ℕ → ℕ → Type 0
LeftIn Idle until owed = (until ≡ 0) × (owed ≡ 0)
LeftIn Open until owed = Unit {0}
LeftIn (Leaving passed) until owed = 0 < until + owed

-- the phase at the end of a step, if the last live tick leaves `until` steps later, and `owes` says
-- whether bytes of a fill are owed
abbrev pub settled : Phase → ℕ → Bool → Phase
settled Idle until owes = Idle
settled Open until owes = Open
settled (Leaving passed) until owes =
    if nat_lt 0 until then Leaving passed
    else if owes then Leaving passed
    else Idle
