-- What a receiver holds between two ticks of a link.
use Rattle.std.specs.Prelude.{◌≡◌, ℕ, ◌+◌, ◌-◌, ◌<◌, ◌≤◌, Bool, true, false, List, ◌++◌, length}
use Rattle.std.specs.Prelude.{Option, IfSome, IfNone, take, drop, slice_index_or}
use Rattle.yasir_ticks.specs.Ticks.{silent, bytes_in}
use Rattle.yasir_ticks.specs.Bursts.{Burst}
use Rattle.yasir_ticks.specs.declared.tick.Tick.{Tick}
use Rattle.yasir_ticks.specs.declared.tick.Tick.TheVariants.{Silent}
use Rattle.line_rules.specs.Rules.{Rules}
use Rattle.frame_ending.specs.LiveBytes.{live_bytes, live_ticks, live_end}
use Rattle.frame_ending.specs.Laid.{tick_at}
use Rattle.frame_ending.specs.HasCome.{HasCome}
use Rattle.link_format.specs.Profile.{Profile, delay, pause_len}
use Rattle.link_box.specs.Verdicts.{CheckState, after_live, kept_after}
use Rattle.link_box.specs.Checking.{checker, at_floor}
use Rattle.link_box.specs.Leaving.{leaves}

-- the bytes of a burst's trailer that have come so far
abbrev pub trailer_so_far : Rules → Burst → List ℕ
trailer_so_far rules d = bytes_in (drop pause_len (after_live rules d))

-- what leaves for a burst if nothing is spoiled, tick by tick from the burst's start on
abbrev pub as_it_came : Profile → Rules → Burst → List Tick
as_it_came profile rules d = silent (delay profile) ++ live_ticks rules d

-- Holds if, before tick m, the verdict on this burst is open. So far it isn't dropped: it didn't
-- start too soon, its header isn't bad, and, if two ticks have come after its live bytes, its
-- header isn't short. All ticks after its live bytes keep the shape of a pause and a trailer. Of
-- the burst the bytes `left` have left, and the ticks `live` haven't left yet.
pub record Opens (profile : Profile) (rules : Rules) (m earliest : ℕ) (d : Burst) (left : List ℕ)
    (live : List Tick) : Type 0 where
  pub from : d.start < m
  pub end_from : live_end rules d ≤ m
  pub near : m + 1 < live_end rules d + delay profile
  pub late : earliest ≤ d.start
  pub not_bad : rules.header_len ≤ length (live_bytes rules d)
      → rules.is_good_header (take rules.header_len (live_bytes rules d)) ≡ true
  pub not_short : live_end rules d + 2 ≤ m → rules.header_len ≤ length (live_bytes rules d)
  pub keeps : m - live_end rules d ≤ kept_after profile rules d
  pub live_is : live ≡ drop (m - d.start) (as_it_came profile rules d)
  pub left_is : left ≡ bytes_in (take (m - d.start) (as_it_came profile rules d))

-- Holds if, before tick m and with no verdict open, `leaves` gives what hasn't left yet of all that
-- bursts emit. When the next burst may start, all of it has left.
pub record Rests (rules : Rules) (passes : Bool) (m earliest : ℕ) (left : List ℕ)
    (live : List Tick) (owed : ℕ) (emissions : List Burst) : Type 0 where
  pub shows : (i : ℕ) → m ≤ i
      → tick_at emissions i ≡ slice_index_or (leaves rules passes left live owed) (i - m) Silent
  pub ends : 0 < length (leaves rules passes left live owed)
      → m + length (leaves rules passes left live owed) ≤ earliest

-- Holds if, before tick m, the walk over these bursts has come to the state `s`, with the burst
-- `waiting` not noted yet, if there is one. Of what the bursts emit the bytes `left` have left, and
-- the ticks `live` and a fill of `owed` bytes haven't left yet.
pub record HasWalked (profile : Profile) (rules : Rules) (floor m : ℕ) (ds : List Burst)
    (s : CheckState) (passes : Bool) (left : List ℕ) (live : List Tick) (owed : ℕ)
    (waiting : Option Burst) : Type 0 where
  pub emissions : List Burst
  pub come : HasCome (checker profile rules) (at_floor floor) m ds s emissions waiting
  pub unowed : 0 < length live → owed ≡ 0
  pub opens : IfSome waiting
      (λ d. Opens profile rules m s.earliest_start d left live × (passes ≡ false))
  pub rests : IfNone waiting
      (Rests rules passes m s.earliest_start left live owed emissions)
