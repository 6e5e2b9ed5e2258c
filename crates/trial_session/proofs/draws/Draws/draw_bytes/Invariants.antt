use Rattle.std.proofs.Common.{◌≡◌, length, take}
use Rattle.trial_session.specs.Draws.{draw_state_after, bytes_drawn}
use Rattle.trial_session.proofs.draws.Draws.draw_bytes.Given as goal

abbrev pub invariant-loop-place : goal.invariant-loop-place
invariant-loop-place l =
    (l.self.state ≡ draw_state_after l.place-index l.fn.self.state)
    × (take l.place-index l.places ≡ bytes_drawn l.place-index l.fn.self.state)
    × (length l.places ≡ length l.fn.places)
