-- What the master of a session of polls asks.
use Rattle.std.specs.Prelude.{◌≡◌, ◌≤◌, ℕ, zero, suc, nat_lt, List, [], ◌∷◌, ◌++◌, take}
use Rattle.std.specs.Prelude.{Option, Some, None, slice_get, if◌then◌else◌}
use Rattle.yasir_ticks.specs.declared.tick.Tick.{Tick}
use Rattle.yasir_ticks.specs.declared.tick.Tick.TheVariants.{Silent, Byte}
use Rattle.trial_session.specs.Draws.{draw_state, draw_state_after}
use Rattle.trial_session.specs.DrawnFrames.{Drawing}
use Rattle.poll_session.specs.declared.master.Master.{Master}

-- the bytes that are said in these ticks
abbrev pub said_bytes : List Tick → List ℕ
said_bytes [] = []
said_bytes (Silent ∷ ticks) = said_bytes ticks
said_bytes (Byte b ∷ ticks) = b ∷ said_bytes ticks

module _ (drawing : Drawing) (seed : ℕ) where
  -- the state of the generator before it draws a request, counted from 0
  unfoldable pub request_state : ℕ → ℕ
  request_state zero = seed
  request_state (suc n) = draw_state_after (drawing.draws (request_state n)) (request_state n)

  -- a request, counted from 0
  abbrev pub request_drawn : ℕ → List ℕ
  request_drawn n = drawing.frame (request_state n)

  -- the bytes of this many requests, one after the other
  unfoldable pub requests_drawn : ℕ → List ℕ
  requests_drawn zero = []
  requests_drawn (suc n) = requests_drawn n ++ request_drawn n

  -- Holds if these ticks of a master, who is to ask `count` requests, say `asked` of them whole, as
  -- they are drawn from the seed, and then at most the front of one more.
  pub record AsksDrawn (count asked : ℕ) (ticks : List Tick) : Type 0 where
    pub within : asked ≤ count
    pub begun : ℕ
    pub says : said_bytes ticks ≡ requests_drawn asked ++ take begun (request_drawn asked)
    pub whole : asked ≡ count → begun ≡ 0

  -- Holds if the master has said these ticks.
  pub record HasAsked (value : Master) (ticks : List Tick) : Type 0 where
    pub state_is : draw_state value.draws ≡ request_state (suc value.asked)
    pub frame_is : value.frame.items ≡ request_drawn value.asked
    pub asks : said_bytes ticks ≡ requests_drawn value.asked ++ take value.at value.frame.items
    pub ends : value.asked ≡ value.count → value.at ≡ 0

-- a byte as a tick
abbrev pub byte_tick : Option ℕ → Tick
byte_tick None = Silent
byte_tick (Some b) = Byte b

-- the byte that comes next in what the master asks, if there is one
abbrev pub wanted : Master → Tick
wanted value =
    if nat_lt value.asked value.count then byte_tick (slice_get value.frame.items value.at)
    else Silent
