-- Numbers that are drawn from a seed: a linear congruential generator (Knuth, MMIX). Each draw
-- gives the high half of its state.
use Rattle.std.specs.Prelude.{ℕ, zero, suc, ◌+◌, ◌*◌, ◌/◌, ◌%◌, ◌^◌, List, [], ◌∷◌, map}
use Rattle.trial_session.specs.declared.draws.Draws.{Draws}

-- the state after one more draw
abbrev pub next_state : ℕ → ℕ
next_state x = (6364136223846793005 * x + 1442695040888963407) % 2 ^ 64

-- what a draw gives that leaves this state: a number below 2^32
abbrev pub drawn : ℕ → ℕ
drawn x = x / 2 ^ 32

-- the state after this many draws
unfoldable pub draw_state_after : ℕ → ℕ → ℕ
draw_state_after zero x = x
draw_state_after (suc n) x = draw_state_after n (next_state x)

-- what the nth draw from a state on gives, counted from 1
abbrev pub nth_drawn : ℕ → ℕ → ℕ
nth_drawn n x = drawn (draw_state_after n x)

-- this many draws from a state on
unfoldable pub draws : ℕ → ℕ → List ℕ
draws zero x = []
draws (suc n) x = drawn (next_state x) ∷ draws n (next_state x)

-- this many draws from a state on, as bytes
abbrev pub bytes_drawn : ℕ → ℕ → List ℕ
bytes_drawn n x = map (λ d. d % 256) (draws n x)

-- the state of a generator
abbrev pub draw_state : Draws → ℕ
draw_state value = value.state
