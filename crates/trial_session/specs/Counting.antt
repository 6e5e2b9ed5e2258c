-- What boxes make of a line, as far as it is counted.
use Rattle.std.specs.Prelude.{◌≡◌, ℕ, ◌+◌, List, [], ◌∷◌, ◌++◌, length, Option, Some, None}
use Rattle.yasir_ticks.specs.declared.tick.Tick.{Tick}
use Rattle.trial_session.specs.declared.fate.Fate.{Fate}
use Rattle.trial_session.specs.declared.fate.Fate.TheVariants.{Through, Refused, Dropped}

-- the other line of a line, and how many of its bursts have each fate
pub record Counting : Type 0 where
  pub other_line : List Tick → List Tick
  pub through : List Tick → ℕ
  pub refused : List Tick → ℕ
  pub dropped : List Tick → ℕ

-- how many bursts a step counts as having got through
abbrev pub through_in : Option Fate → ℕ
through_in None = 0
through_in (Some Through) = 1
through_in (Some Refused) = 0
through_in (Some Dropped) = 0

-- how many bursts a step counts as refused
abbrev pub refused_in : Option Fate → ℕ
refused_in None = 0
refused_in (Some Through) = 0
refused_in (Some Refused) = 1
refused_in (Some Dropped) = 0

-- how many bursts a step counts as dropped
abbrev pub dropped_in : Option Fate → ℕ
dropped_in None = 0
dropped_in (Some Through) = 0
dropped_in (Some Refused) = 0
dropped_in (Some Dropped) = 1

-- Holds if the other line of an empty line is empty, and none of its bursts is counted.
pub record CountsNothing (counting : Counting) : Type 0 where
  pub no_tick : counting.other_line [] ≡ []
  pub none_through : counting.through [] ≡ 0
  pub none_refused : counting.refused [] ≡ 0
  pub none_dropped : counting.dropped [] ≡ 0

-- Holds if, in a step that takes one more tick after this line, `tick` comes on the other line, and
-- a burst of this fate is counted, or none.
pub record CountsStep (counting : Counting) (line : List Tick) (t tick : Tick) (fate : Option Fate)
    : Type 0 where
  pub tick_is : counting.other_line (line ++ t ∷ []) ≡ counting.other_line line ++ tick ∷ []
  pub through_is : counting.through (line ++ t ∷ []) ≡ counting.through line + through_in fate
  pub refused_is : counting.refused (line ++ t ∷ []) ≡ counting.refused line + refused_in fate
  pub dropped_is : counting.dropped (line ++ t ∷ []) ≡ counting.dropped line + dropped_in fate

-- Holds if a run after this line is answered with as many ticks of the other line, and no burst is
-- counted in it.
pub record CountsRun (counting : Counting) (line run answer : List Tick) : Type 0 where
  pub long : length answer ≡ length run
  pub ticks_are : counting.other_line (line ++ run) ≡ counting.other_line line ++ answer
  pub through_is : counting.through (line ++ run) ≡ counting.through line
  pub refused_is : counting.refused (line ++ run) ≡ counting.refused line
  pub dropped_is : counting.dropped (line ++ run) ≡ counting.dropped line
