-- When all that was accepted has left.
use Rattle.std.specs.Prelude.{ℕ, ◌≤◌, List, [], ◌∷◌, ◌++◌, length}
use Rattle.yasir_ticks.specs.Ticks.{silent}
use Rattle.yasir_ticks.specs.Bursts.{Burst, end_of}
use Rattle.yasir_ticks.specs.declared.tick.Tick.{Tick}
use Rattle.device_model.specs.Frames.{FrameRead}
use Rattle.line_spacer.specs.Spacing.{accepted_of}

-- Holds if each of these bursts has ended by tick m.
abbrev pub HaveLeft : ℕ → List Burst → Type 0
HaveLeft m [] = Unit {0}
HaveLeft m (d ∷ ds) = (end_of d ≤ m) × HaveLeft m ds

-- Holds if all frames that are accepted of a line and `rest` silent ticks after it have left by the
-- end of that silence.
abbrev pub AllLeave : (List Tick → List FrameRead) → ℕ → ℕ → List Tick → ℕ → Type 0
AllLeave heard gap cap line rest =
    HaveLeft (length (line ++ silent rest)) (accepted_of heard gap cap (line ++ silent rest))
