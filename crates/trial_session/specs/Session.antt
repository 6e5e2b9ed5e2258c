-- A session that is made from a seed: the line of the device, and what happens to the link.
use Rattle.std.specs.Prelude.{ℕ, zero, suc, ◌+◌, ◌-◌, ◌*◌, ◌%◌, List, [], ◌++◌, length, map, take}
use Rattle.std.specs.Prelude.{drop}
use Rattle.yasir_ticks.specs.Ticks.{silent}
use Rattle.yasir_ticks.specs.declared.tick.Tick.{Tick}
use Rattle.yasir_ticks.specs.declared.tick.Tick.TheVariants.{Byte}
use Rattle.trial_session.specs.Draws.{draw_state_after, nth_drawn}
use Rattle.trial_session.specs.DrawnFrames.{Drawing}
use Rattle.trial_session.specs.Alterations.{alteration_of, altered}
use Rattle.trial_session.specs.declared.alteration.Alteration.{Alteration}

-- how many ticks each frame has for itself, on the device's line and on the link
abbrev pub period_len : ℕ
period_len = 640

-- the ticks of a period: its frame, and then silence
abbrev pub period_line : List ℕ → List Tick
period_line frame = map (λ b. Byte b) frame ++ silent (period_len - length frame)

module _ (drawing : Drawing) where
  -- the state after the frame of a period is drawn, if the period began in this state
  abbrev pub after_frame : ℕ → ℕ
  after_frame x = draw_state_after (drawing.draws x) x

  -- the state at the end of that period: three more draws are made, for the alteration of the link
  abbrev pub after_period : ℕ → ℕ
  after_period x = draw_state_after 3 (after_frame x)

  -- the state at the start of a period, counted from 0, in the session of this seed
  unfoldable pub state_at : ℕ → ℕ → ℕ
  state_at seed zero = seed
  state_at seed (suc n) = after_period (state_at seed n)

  -- The alteration of the link in the period that begins in this state, if `behind` ticks follow
  -- the frame in a packet. It is drawn by a kind, a place within the packet, and a value from 1 to
  -- 255.
  abbrev pub alteration_in : ℕ → ℕ → Alteration
  alteration_in behind x =
      alteration_of (nth_drawn 1 (after_frame x) % 8)
      (nth_drawn 2 (after_frame x) % (length (drawing.frame x) + behind))
      (1 + nth_drawn 3 (after_frame x) % 255)

  -- the device's line of this many periods
  unfoldable pub session_line : ℕ → ℕ → List Tick
  session_line seed zero = []
  session_line seed (suc n) = session_line seed n ++ period_line (drawing.frame (state_at seed n))

  -- the ticks of a period, counted from 0, on a line
  abbrev pub ticks_of_session : ℕ → List Tick → List Tick
  ticks_of_session n line = take period_len (drop (period_len * n) line)

  -- the first periods of a link, each altered as in the session of this seed
  unfoldable pub altered_link : ℕ → ℕ → ℕ → List Tick → List Tick
  altered_link behind seed zero link = []
  altered_link behind seed (suc n) link = altered_link behind seed n link
      ++ altered (alteration_in behind (state_at seed n)) (ticks_of_session n link)
