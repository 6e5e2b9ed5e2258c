-- What the ticks of a line so far say about its last burst: the running one, or the last one if
-- none runs.
use Rattle.std.specs.Prelude.{ℕ, ◌-◌, nat_le, min, Bool, false, ◌||◌, List, [], ◌∷◌, length, Option}
use Rattle.std.specs.Prelude.{Some, None}
use Rattle.line_rules.specs.Rules.{Rules, fills_room}
use Rattle.yasir_ticks.specs.Bursts.{Burst, bursts, end_of}
use Rattle.yasir_ticks.specs.declared.TheConstants.{T3_5_TICKS, T1_5_TICKS}
use Rattle.yasir_ticks.specs.declared.tick.Tick.{Tick}
use Rattle.frame_ending.specs.LiveBytes.{live_bytes, live_end, has_extra, has_pause}

-- the last of these bursts
unfoldable pub last_of : List Burst → Option Burst
last_of [] = None
last_of (d ∷ []) = Some d
last_of (d ∷ e ∷ ds) = last_of (e ∷ ds)

-- the running burst, or the last one if none runs
abbrev pub last_burst : List Tick → Option Burst
last_burst line = last_of (bursts line)

-- Each of the next definitions, up to `is_over_in`, is about the last burst, if there is one, after
-- m ticks of the line.
abbrev pub start_in : Option Burst → ℕ
start_in None = 0
start_in (Some d) = d.start

abbrev pub live_bytes_in : Rules → Option Burst → List ℕ
live_bytes_in rules None = []
live_bytes_in rules (Some d) = live_bytes rules d

abbrev pub last_live_in : Rules → Option Burst → ℕ
last_live_in rules None = 0
last_live_in rules (Some d) = live_end rules d - 1

abbrev pub has_extra_in : Rules → Option Burst → Bool
has_extra_in rules None = false
has_extra_in rules (Some d) = has_extra rules d

-- whether there are two silent ticks in a row in the burst or after it
abbrev pub has_paused_in : ℕ → Option Burst → Bool
has_paused_in m None = false
has_paused_in m (Some d) = has_pause d.body || nat_le T1_5_TICKS (m - end_of d)

-- how many silent ticks follow the burst, counted up to the fourth, which closes it
abbrev pub quiet_in : ℕ → Option Burst → ℕ
quiet_in m None = T3_5_TICKS
quiet_in m (Some d) = min T3_5_TICKS (m - end_of d)

-- whether no more bytes of the burst can be live
abbrev pub is_over_in : Rules → ℕ → Option Burst → Bool
is_over_in rules m None = false
is_over_in rules m (Some d) = has_paused_in m (Some d) || fills_room rules (live_bytes rules d)

-- the tick of the first byte of the last burst
abbrev pub start_so_far : List Tick → ℕ
start_so_far line = start_in (last_burst line)

-- the live bytes of the last burst
abbrev pub live_bytes_so_far : Rules → List Tick → List ℕ
live_bytes_so_far rules line = live_bytes_in rules (last_burst line)

-- the tick of the last live byte of the last burst
abbrev pub last_live_so_far : Rules → List Tick → ℕ
last_live_so_far rules line = last_live_in rules (last_burst line)

-- whether some byte of the last burst isn't live
abbrev pub has_extra_so_far : Rules → List Tick → Bool
has_extra_so_far rules line = has_extra_in rules (last_burst line)

-- whether there are two silent ticks in a row in the last burst or after it
abbrev pub has_paused_so_far : List Tick → Bool
has_paused_so_far line = has_paused_in (length line) (last_burst line)

-- how many silent ticks follow the last burst, counted up to the fourth, which closes it
abbrev pub quiet_so_far : List Tick → ℕ
quiet_so_far line = quiet_in (length line) (last_burst line)

-- whether no more bytes of the last burst can be live
abbrev pub is_over_so_far : Rules → List Tick → Bool
is_over_so_far rules line = is_over_in rules (length line) (last_burst line)
