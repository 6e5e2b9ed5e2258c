-- The lines of the notes of two boxes that take their ticks in step, in the order of steps.
use Rattle.std.specs.Prelude.{ℕ, zero, suc, ◌+◌, ◌≤◌, List, [], ◌∷◌, ◌++◌, cond, eqb, map}
use Rattle.std.specs.List.{flat_map}
use Rattle.frame_ending.specs.Walk.{Noted}
use Rattle.session_lists.specs.FrameList.{KeptFrames}

-- the line of each note, headed by the tick of the step into which the note falls
abbrev pub timed_lines : {A : Type 0} → (A → List ℕ) → List (Noted A) → List (KeptFrames ℕ)
timed_lines line_of notes = map (λ n. record { head = n.tick; frame = line_of n.note }) notes

-- the lines that fall into the step of this tick
abbrev pub lines_at : ℕ → List (KeptFrames ℕ) → List ℕ
lines_at n lines = flat_map (λ line. cond (eqb line.head n) line.frame []) lines

-- the lines of the steps before this tick, in the order of steps; within a step, those of the first
-- box come before those of the second one
abbrev pub lines_before : ℕ → List (KeptFrames ℕ) → List (KeptFrames ℕ) → List ℕ
lines_before zero first second = []
lines_before (suc n) first second =
    lines_before n first second ++ (lines_at n first ++ lines_at n second)

-- The steps of these lines rise: none is before tick `from`, and all are before tick `to`.
abbrev pub AreInOrder : ℕ → ℕ → List (KeptFrames ℕ) → Type 0
AreInOrder from to [] = from ≤ to
AreInOrder from to (line ∷ lines) = (from ≤ line.head) × AreInOrder (line.head + 1) to lines
