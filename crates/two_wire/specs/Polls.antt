-- Polls one after the other over a line: what the master says, and what the devices say.
use Rattle.std.specs.Prelude.{◌≡◌, ◌≤◌, ◌<◌, ◌+◌, ℕ, false, true, List, [], ◌∷◌, ◌++◌, length}
use Rattle.yasir_ticks.specs.Bursts.{bursts}
use Rattle.yasir_ticks.specs.BurstsOf.{IsContiguous}
use Rattle.yasir_ticks.specs.Ticks.{silent}
use Rattle.yasir_ticks.specs.declared.TheConstants.{T3_5_TICKS}
use Rattle.yasir_ticks.specs.declared.tick.Tick.{Tick}
use Rattle.line_rules.specs.Rules.{Rules}
use Rattle.frame_ending.specs.LiveBytes.{live_bytes, has_extra}
use Rattle.link_format.specs.Profile.{Profile, delay, words}
use Rattle.two_wire.specs.Polling.{Polling, lateness}

-- A further frame of an answer, `gap` silent ticks behind the frame before it.
pub record Further : Type 0 where
  pub gap : ℕ
  pub frame : List Tick

-- A poll. A device hears the request, begins to answer it `wait` silent ticks after its end, and
-- says frames behind the first one or none; `rest` silent ticks after it has heard the last one the
-- master goes on. Or none answers, and the master goes on after `wait` silent ticks.
pub data Poll : Type 0 where
  answered : (request : List Tick) (wait : ℕ) (answer : List Tick) (others : List Further)
      (rest : ℕ) → Poll
  unanswered : (request : List Tick) (wait : ℕ) → Poll

-- the further frames of an answer, and then this, and how many ticks they take
abbrev pub said_on : List Further → List Tick → List Tick
said_on [] behind = behind
said_on (further ∷ others) behind =
    silent further.gap ++ (further.frame ++ said_on others behind)

abbrev pub further_len : List Further → ℕ
further_len [] = 0
further_len (further ∷ others) = further.gap + (length further.frame + further_len others)

-- how many ticks after its request the master goes on, if it is answered, and whatever is said is
-- heard at the other end `late` ticks later
abbrev pub poll_len : ℕ → ℕ → List Tick → List Further → ℕ → ℕ
poll_len late wait answer others rest =
    late + (wait + (length answer + (further_len others + (late + rest))))

-- All is heard `late` ticks later, and at the end `last` silent ticks follow.
module _ (late last : ℕ) where
  -- what the master says, if its next request begins after n silent ticks
  abbrev pub asked : ℕ → List Poll → List Tick
  asked n [] = silent (n + last)
  asked n (answered request wait answer others rest ∷ ps) =
      silent n ++ (request ++ asked (poll_len late wait answer others rest) ps)
  asked n (unanswered request wait ∷ ps) = silent n ++ (request ++ asked wait ps)

  -- what the devices say, if they hear the next request begin after n silent ticks
  abbrev pub replied : ℕ → List Poll → List Tick
  replied n [] = silent (n + last)
  replied n (answered request wait answer others rest ∷ ps) =
      silent (n + (length request + wait))
      ++ (answer ++ said_on others (replied (late + (late + rest)) ps))
  replied n (unanswered request wait ∷ ps) = replied (n + (length request + wait)) ps

-- Holds for the ticks of a frame: they begin and end with a byte, and all bytes are live and are a
-- frame.
pub record AreFrame (rules : Rules) (ticks : List Tick) : Type 0 where
  pub contiguous : IsContiguous T3_5_TICKS ticks
  pub whole : has_extra rules (record { start = 0; body = ticks }) ≡ false
  pub framed : rules.is_frame (live_bytes rules (record { start = 0; body = ticks })) ≡ true

module _ (rules : Rules) (p : Polling) where
  -- Holds if the further frames of an answer can be sealed behind one another, and each begins before
  -- the gate at the master's end takes the answer to have ended.
  abbrev pub FollowInTurn : List Further → Type 0
  FollowInTurn [] = Unit {0}
  FollowInTurn (further ∷ others) =
      AreFrame rules further.frame × (delay p.ba + 3 ≤ further.gap)
      × (further.gap < p.waits_a.pause) × FollowInTurn others

  -- Holds for polls in which all take turns. At the master's end the request has ended, for the gate
  -- there, when the answer begins, and still waits for one. At the devices' end an answer has ended,
  -- for the gate there, when the next request begins, or none was waited for any more, and that
  -- request can be sealed.
  abbrev pub TakeTurns : List Poll → Type 0
  TakeTurns [] = Unit {0}
  TakeTurns (answered request wait answer others rest ∷ ps) =
      AreFrame rules request × AreFrame rules answer × FollowInTurn others
      × (p.lag + T3_5_TICKS ≤ lateness p.ab p.late + (lateness p.ab p.late + wait))
      × (lateness p.ab p.late + (lateness p.ab p.late + wait) < p.waits_a.window + p.lag)
      × (p.waits_b.pause + p.lag ≤ lateness p.ab p.late + (lateness p.ab p.late + rest))
      × TakeTurns ps
  TakeTurns (unanswered request wait ∷ ps) =
      AreFrame rules request × (p.waits_b.window ≤ wait) × (delay p.ab + 3 ≤ wait)
      × (p.lag ≤ lateness p.ab p.late + (lateness p.ab p.late + wait)) × TakeTurns ps

-- Holds if there are numbers for the frames of this line, and the receiver's floor isn't above the
-- transmitter's, nor too far below it.
pub record HasNumbers (profile : Profile) (floor behind : ℕ) (line : List Tick) : Type 0 where
  pub numbers : floor + length (bursts line) ≤ profile.limit
  pub not_above : behind ≤ floor
  pub near : floor < behind + words profile

-- this polling, where the first request begins after so many silent ticks, the master and the
-- devices say these polls, and then nothing for so many ticks
abbrev pub polls_of : Polling → ℕ → List Poll → ℕ → Polling
polls_of p start ps more = record p {
  master = record {
    line = asked (lateness p.ab p.late) 0 start ps;
    more = lateness p.ab p.late + more;
  };
  devices = record {
    line = replied (lateness p.ab p.late) 0 (lateness p.ab p.late + start) ps;
    more = more;
  };
}

-- Holds if all take turns in these polls, the first request doesn't come before the gate at the
-- devices' end has waited, both profiles have the same delay, an answer may go on while its frame
-- does, there are numbers for all frames, and at least as many silent ticks as all is late follow the
-- last poll.
pub record PollInTurn (rules : Rules) (p : Polling) (start : ℕ) (ps : List Poll) (more : ℕ) :
    Type 0 where
  pub same_delay : delay p.ba ≡ delay p.ab
  pub wide : T3_5_TICKS ≤ p.waits_a.pause
  pub begins : p.waits_b.window ≤ lateness p.ab p.late + start
  pub turns : TakeTurns rules p ps
  pub requests : HasNumbers p.ab p.requests_floor p.requests_behind
      (asked (lateness p.ab p.late) 0 start ps)
  pub answers : HasNumbers p.ba p.answers_floor p.answers_behind
      (replied (lateness p.ab p.late) 0 (lateness p.ab p.late + start) ps)
  pub silence : lateness p.ab p.late ≤ more
  pub heard : p.lag ≤ more
