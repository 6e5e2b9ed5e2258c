-- The order in which a live line reads, writes and flushes.
use Rattle.std.specs.Prelude.{◌≡◌, ℕ, List, [], ◌∷◌, ◌++◌, true}
use Rattle.yasir_ticks.specs.Ticks.{ticks_in}
use Rattle.yasir_ticks.specs.TickText.{ended_items}
use Rattle.yasir_ticks.specs.declared.tick.Tick.{Tick}
use Rattle.line_texts.specs.Sending.{LineAndNotes}
use Rattle.line_commands.specs.History.{Event, History, told_then, bytes_read_before, written}
use Rattle.line_commands.specs.History.{is_flushed}
use Rattle.line_commands.specs.History.Event.{reads, writes, flushes}
use Rattle.line_commands.specs.LiveText.{IsTextOf}
use Rattle.line_commands.specs.declared.port.Output.TheVariants.{Out, Log}

-- the ticks of the lines that have ended in what was read
abbrev pub ticks_read : List Event → List Tick
ticks_read events = ticks_in (ended_items (bytes_read_before events))

module _ (made : LineAndNotes) where
  -- All that is made of the ticks that were read is written and flushed.
  pub record HasHandedOn (events : List Event) : Type 0 where
    pub text : IsTextOf (written Out events) (made.other_line (ticks_read events))
    pub notes : written Log events ≡ made.note_lines (ticks_read events)
    pub out_flushed : is_flushed Out events ≡ true
    pub log_flushed : is_flushed Log events ≡ true

  -- With these bytes, `out` has got a front of a text of what is made of some first ticks of a
  -- line, and all notes that fall into these ticks are written and flushed.
  pub record HasNoted (line : List Tick) (events : List Event) (bytes : List ℕ) : Type 0 where
    pub early : List Tick
    pub later : List Tick
    pub is : line ≡ early ++ later
    pub rest : List ℕ
    pub text : IsTextOf ((written Out events ++ bytes) ++ rest) (made.other_line early)
    pub notes : written Log events ≡ made.note_lines early
    pub flushed : is_flushed Log events ≡ true

  -- what must hold of the calls before a call
  abbrev pub MayCome : List Tick → List Event → Event → Type 0
  MayCome line before (reads got) = HasHandedOn before
  MayCome line before (writes Out bytes) = HasNoted line before bytes
  MayCome line before (writes Log bytes) = Unit {0}
  MayCome line before (flushes to well) = Unit {0}

  -- Each of these calls comes when it may come.
  abbrev pub IsInOrder : List Tick → List Event → Type 0
  IsInOrder line events = (before after : List Event) (event : Event)
      → events ≡ before ++ event ∷ after → MayCome line before event

  -- each of the calls `events`, which follow the calls `before`, comes when it may come: stated
  -- call by call
  abbrev pub EachMayCome : List Tick → List Event → List Event → Type 0
  EachMayCome line before [] = Unit {0}
  EachMayCome line before (event ∷ events) =
      MayCome line before event × EachMayCome line (before ++ event ∷ []) events

  -- Since `start`, this was read, and what is made of this line was written and flushed, in order.
  pub record Handed (start now : History) (read : List ℕ) (line : List Tick) :
      Type 0 where
    pub events : List Event
    pub is : now ≡ told_then start events
    pub read_is : bytes_read_before events ≡ read
    pub text : IsTextOf (written Out events) (made.other_line line)
    pub notes : written Log events ≡ made.note_lines line
    pub out_flushed : is_flushed Out events ≡ true
    pub log_flushed : is_flushed Log events ≡ true
    pub in_order : EachMayCome line [] events

  -- A write or a flush failed: since `start`, each output has got a front of what is made of this
  -- line.
  pub record HandedFronts (start now : History) (read : List ℕ) (line : List Tick) :
      Type 0 where
    pub events : List Event
    pub is : now ≡ told_then start events
    pub read_is : bytes_read_before events ≡ read
    pub out_rest : List ℕ
    pub text : IsTextOf (written Out events ++ out_rest) (made.other_line line)
    pub log_rest : List ℕ
    pub notes : written Log events ++ log_rest ≡ made.note_lines line
    pub in_order : EachMayCome line [] events
