-- A walk over the bursts of a line, in order. It has a state, and for each burst a note with its
-- tick, and an emission.
use Rattle.std.specs.Prelude.{ℕ, ◌==◌, nat_lt, List, [], ◌∷◌, ◌++◌, length}
use Rattle.std.specs.List.{filter}
use Rattle.yasir_ticks.specs.Bursts.{Burst, bursts}
use Rattle.yasir_ticks.specs.declared.tick.Tick.{Tick}
use Rattle.frame_ending.specs.Laid.{laid}

pub record Walker (S N : Type 0) : Type 0 where
  -- the state after a burst
  pub next : S → Burst → S
  -- what is noted of a burst, and in the step of which tick
  pub note : S → Burst → N
  pub tick : S → Burst → ℕ
  -- what a burst emits on the other line: no burst, or one
  pub emission : S → Burst → List Burst

-- a note, and the tick of the step into which it falls
pub record Noted (N : Type 0) : Type 0 where
  pub tick : ℕ
  pub note : N

abbrev pub noted : {S N : Type 0} → Walker S N → S → Burst → Noted N
noted w s d = record { tick = w.tick s d; note = w.note s d }

-- the notes of these bursts, beginning in state s
abbrev pub walked : {S N : Type 0} → Walker S N → S → List Burst → List (Noted N)
walked w s [] = []
walked w s (d ∷ ds) = noted w s d ∷ walked w (w.next s d) ds

-- the emissions of these bursts, beginning in state s
abbrev pub emitted_by : {S N : Type 0} → Walker S N → S → List Burst → List Burst
emitted_by w s [] = []
emitted_by w s (d ∷ ds) = w.emission s d ++ emitted_by w (w.next s d) ds

-- the state after these bursts, beginning in state s
abbrev pub state_after : {S N : Type 0} → Walker S N → S → List Burst → S
state_after w s [] = s
state_after w s (d ∷ ds) = state_after w (w.next s d) ds

-- the notes that come before tick m
abbrev pub notes_before : {N : Type 0} → ℕ → List (Noted N) → List (Noted N)
notes_before m notes = filter (λ n. nat_lt n.tick m) notes

-- the notes that fall into the step of tick m
abbrev pub notes_at : {N : Type 0} → ℕ → List (Noted N) → List (Noted N)
notes_at m notes = filter (λ n. n.tick == m) notes

-- The notes of a line, and the ticks of the other line, as far as the line goes. What comes later
-- is left out: a line that goes on in silence has the same bursts.
abbrev pub notes_of : {S N : Type 0} → Walker S N → S → List Tick → List (Noted N)
notes_of w s line = notes_before (length line) (walked w s (bursts line))

abbrev pub line_of : {S N : Type 0} → Walker S N → S → List Tick → List Tick
line_of w s line = laid (length line) (emitted_by w s (bursts line))
