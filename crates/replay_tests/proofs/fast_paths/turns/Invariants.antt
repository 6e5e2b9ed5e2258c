use Rattle.std.proofs.Common.{◌≡◌, ◌≤◌, ◌-◌, length}
use Rattle.replay_tests.proofs.fast_paths.turns.Given as goal

abbrev pub invariant-loop-place : goal.invariant-loop-place
invariant-loop-place g l = (l.place ≤ length l.line) × (l.turns ≤ l.place)
    × (g.X.Turning.taken l.line_box ≡ l.place) × g.X.Turning.able l.line_box

abbrev pub decreases-loop-place : goal.decreases-loop-place
decreases-loop-place g l = length l.line - l.place
