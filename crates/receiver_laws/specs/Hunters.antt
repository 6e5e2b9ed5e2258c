-- Devices that hunt for frames, whatever they make of longer silence inside a frame.
use Rattle.std.specs.Prelude.{◌≡◌, ℕ, ◌+◌, ◌<◌, List, [], ◌++◌, length}
use Rattle.yasir_ticks.specs.Ticks.{silent}
use Rattle.yasir_ticks.specs.BurstsOf.{IsContiguous}
use Rattle.yasir_ticks.specs.declared.TheConstants.{T1_5_TICKS}
use Rattle.yasir_ticks.specs.declared.tick.Tick.{Tick}
use Rattle.line_rules.specs.Rules.{Rules}
use Rattle.device_model.specs.Frames.{FrameRead}
use Rattle.device_model.specs.Hunt.{Timed, timed, hunt}

-- Holds for a front of ticks that are contiguous as the receiver's bursts are: for no ticks, or for
-- contiguous ticks and then less silence than would divide them.
pub data HunterIsFront : List Tick → Type 0 where
  nothing : HunterIsFront []
  up_to : (x : List Tick) (gap : ℕ) → gap < T1_5_TICKS → IsContiguous T1_5_TICKS x
      → HunterIsFront (x ++ silent gap)

-- A device that hunts: `read n` has the frames that it reads of ticks if the first of them is tick
-- n of the line and the device is at rest before it. It reads nothing of silence, and stays at
-- rest. If the hunt takes all of some contiguous ticks, whatever follows, the device takes them as
-- the hunt does, and is at rest after them. Of ticks that are broken off it reads nothing if the
-- hunt reads nothing.
pub record IsHunter (first second : ℕ) (rules : Rules) (read : ℕ → List Tick → List FrameRead) :
    Type 0 where
  pub none : (n : ℕ) → read n [] ≡ []
  pub waits : (n k : ℕ) (x : List Tick) → read n (silent k ++ x) ≡ read (n + k) x
  pub takes : (n m : ℕ) (x more : List Tick) (frames : List FrameRead)
      → IsContiguous T1_5_TICKS x → n + length x ≡ m
      → ((z : List Timed) → hunt first second rules 0 (timed n x ++ z)
      ≡ frames ++ hunt first second rules 0 z)
      → read n (x ++ more) ≡ frames ++ read m more
  pub breaks_off : (n : ℕ) (x : List Tick) → HunterIsFront x
      → hunt first second rules 0 (timed n x) ≡ [] → read n x ≡ []
