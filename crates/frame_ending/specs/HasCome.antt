-- How far a walk over the bursts of a line has come, tick by tick.
use Rattle.std.specs.Prelude.{◌≡◌, ℕ, ◌<◌, ◌≤◌, List, [], ◌∷◌, ◌++◌, Option, Some, None, IfSome}
use Rattle.yasir_ticks.specs.Bursts.{Burst}
use Rattle.frame_ending.specs.Walk.{Walker, emitted_by, state_after}

-- the burst that waits for its note, if there is one
abbrev pub waiting_part : Option Burst → List Burst
waiting_part None = []
waiting_part (Some d) = d ∷ []

-- Holds if, from state s on, each of these bursts has its note before tick m.
abbrev pub AreNoted : {S N : Type 0} → Walker S N → S → ℕ → List Burst → Type 0
AreNoted w s m [] = Unit {0}
AreNoted w s m (d ∷ ds) = (w.tick s d < m) × AreNoted w (w.next s d) m ds

-- Holds if, before tick m, a walk that began in a state has come this far over these bursts: all
-- are noted except the one that waits. After the noted ones the state is s, and they have emitted_by
-- `emissions`.
pub record HasCome {S N : Type 0} (w : Walker S N) (begun : S) (m : ℕ) (ds : List Burst) (s : S)
    (emissions : List Burst) (waiting : Option Burst) : Type 0 where
  pub settled : List Burst
  pub is : ds ≡ settled ++ waiting_part waiting
  pub are_noted : AreNoted w begun m settled
  pub waits : IfSome waiting (λ d. m ≤ w.tick s d)
  pub state : state_after w begun settled ≡ s
  pub emits : emitted_by w begun settled ≡ emissions
