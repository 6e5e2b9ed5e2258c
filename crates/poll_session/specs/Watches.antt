-- What is counted of what a box at one end hears.
use Rattle.std.specs.Prelude.{◌≡◌, ◌≤◌, ℕ, suc, ◌+◌, nat_le, List, [], ◌∷◌, ◌++◌, length}
use Rattle.std.specs.Prelude.{if◌then◌else◌}
use Rattle.yasir_ticks.specs.declared.TheConstants.{T1_5_TICKS}
use Rattle.yasir_ticks.specs.declared.tick.Tick.{Tick}
use Rattle.yasir_ticks.specs.declared.tick.Tick.TheVariants.{Silent, Byte}
use Rattle.link_format.specs.Directions.{opposite_of}
use Rattle.link_format.specs.declared.dir.Dir.{Dir}
use Rattle.session_lists.specs.ReplayLists.{KeepsFrames}
use Rattle.session_lists.specs.declared.frame_box.FrameBox.{Ghosts as FrameBox}
use Rattle.poll_session.specs.TurnedEnds.{poll_setup}
use Rattle.poll_session.specs.declared.watch.Watch.{Watch}

-- how many silent ticks a receiver has returned since its last byte, after one more
abbrev pub quiet_and : ℕ → Tick → ℕ
quiet_and quiet Silent = suc quiet
quiet_and quiet (Byte b) = 0

-- how many it has returned after these ticks
abbrev pub quiet_behind : ℕ → List Tick → ℕ
quiet_behind quiet [] = quiet
quiet_behind quiet (t ∷ made) = quiet_behind (quiet_and quiet t) made

-- 1 if a burst begins with this tick of a receiver and the box doesn't drive the wires with it
abbrev pub held_in : ℕ → Tick → Tick → ℕ
held_in quiet Silent driven = 0
held_in quiet (Byte b) Silent = if nat_le T1_5_TICKS quiet then 1 else 0
held_in quiet (Byte b) (Byte c) = 0

-- How many bursts of these ticks of a receiver a gate keeps back, if the box drives the wires with
-- those.
abbrev pub bursts_held : ℕ → List Tick → List Tick → ℕ
bursts_held quiet [] driven = 0
bursts_held quiet (t ∷ made) [] = 0
bursts_held quiet (t ∷ made) (d ∷ driven) =
    held_in quiet t d + bursts_held (quiet_and quiet t) made driven

module _ {X Y : Type 0} (x : FrameBox X) (y : FrameBox Y) where
  -- Holds if more ticks may be watched, after this many.
  pub record MayWatch (value : Watch X Y) (ticks : ℕ) : Type 0 where
    pub seals : x.able value.sealing
    pub checks : y.able value.checking
    pub sealing_ticks : x.taken value.sealing ≡ ticks
    pub checking_ticks : y.taken value.checking ≡ ticks
    pub few_quiet : value.quiet ≤ ticks + T1_5_TICKS
    pub few_held : value.held ≤ ticks

  -- Holds if these ticks of a device and of the link are heard, and the box drives the wires to its
  -- device with those. What its receiver makes of the link leaves one tick later.
  pub record HasWatched (dir : Dir) (value : Watch X Y) (device link driven : List Tick) :
      Type 0 where
    pub seals : KeepsFrames x value.sealing value.sealed (poll_setup dir) device
    pub checks : KeepsFrames y value.checking value.passed (poll_setup (opposite_of dir)) link
    pub made : List Tick
    pub made_is : made ++ value.made ∷ []
        ≡ Silent ∷ (y.numbering (poll_setup (opposite_of dir))).other_line link
    pub same_ticks : length made ≡ length driven
    pub quiet_is : value.quiet ≡ quiet_behind T1_5_TICKS made
    pub held_is : value.held ≡ bursts_held T1_5_TICKS made driven
