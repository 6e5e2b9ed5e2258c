-- The order in which both ways of a live line are read, written and flushed. The calls are those of
-- one port: one stream is read, one is written (`Out`), and the notes go to a third (`Log`). Each
-- of the three is a stream of both ways.
use Rattle.std.specs.Prelude.{◌≡◌, ℕ, List, [], ◌∷◌, ◌++◌, true}
use Rattle.yasir_ticks.specs.Ticks.{ticks_in}
use Rattle.yasir_ticks.specs.TickText.{ended_items}
use Rattle.yasir_ticks.specs.declared.tick.Tick.{Tick}
use Rattle.line_texts.specs.Sending.{LineAndNotes}
use Rattle.line_commands.specs.History.{Event, History, told_then, bytes_read_before, written}
use Rattle.line_commands.specs.History.{is_flushed}
use Rattle.line_commands.specs.History.Event.{reads, writes, flushes}
use Rattle.line_commands.specs.LiveText.{IsTextOf}
use Rattle.line_commands.specs.declared.port.Output.TheVariants.{Out, Log}
use Rattle.live_line.specs.WayText.{text_on, AreEnded}
use Rattle.live_line.specs.declared.ways.Way.{Way}
use Rattle.live_line.specs.declared.ways.Way.TheVariants.{Outgoing, Incoming}

-- the ticks of the lines of each way that have ended in a stream
abbrev pub lines_in : List ℕ → Way → List Tick
lines_in stream way = ticks_in (ended_items (text_on way stream))

-- the lines of both ways, with more ticks in one of them
abbrev pub grown : (Way → List Tick) → Way → List Tick → Way → List Tick
grown lines Outgoing run Outgoing = lines Outgoing ++ run
grown lines Outgoing run Incoming = lines Incoming
grown lines Incoming run Outgoing = lines Outgoing
grown lines Incoming run Incoming = lines Incoming ++ run

-- What is made of the line of each way.
module _ (made : Way → LineAndNotes) where
  -- All that is made of the ticks that were read is written and flushed, for both ways.
  pub record HasHandedOnBoth (events : List Event) : Type 0 where
    pub text : (way : Way) → IsTextOf (text_on way (written Out events))
        ((made way).other_line (lines_in (bytes_read_before events) way))
    pub notes : (way : Way) → text_on way (written Log events)
        ≡ (made way).note_lines (lines_in (bytes_read_before events) way)
    pub out_flushed : is_flushed Out events ≡ true
    pub log_flushed : is_flushed Log events ≡ true

  -- With these bytes, each way of `out` has got a front of a text of what is made of some first
  -- ticks of its line, and all notes that fall into these ticks are written and flushed.
  pub record HasNotedBoth (lines : Way → List Tick) (events : List Event) (bytes : List ℕ) :
      Type 0 where
    pub early : Way → List Tick
    pub later : Way → List Tick
    pub is : (way : Way) → lines way ≡ early way ++ later way
    pub rest : Way → List ℕ
    pub text : (way : Way) → IsTextOf (text_on way (written Out events ++ bytes) ++ rest way)
        ((made way).other_line (early way))
    pub notes : (way : Way) → text_on way (written Log events) ≡ (made way).note_lines (early way)
    pub flushed : is_flushed Log events ≡ true

  -- what must hold of the calls before a call
  abbrev pub MayComeBoth : (Way → List Tick) → List Event → Event → Type 0
  MayComeBoth lines before (reads got) = HasHandedOnBoth before
  MayComeBoth lines before (writes Out bytes) = HasNotedBoth lines before bytes
  MayComeBoth lines before (writes Log bytes) = Unit {0}
  MayComeBoth lines before (flushes to well) = Unit {0}

  -- Each of these calls comes when it may come.
  abbrev pub IsInOrderBoth : (Way → List Tick) → List Event → Type 0
  IsInOrderBoth lines events = (before after : List Event) (event : Event)
      → events ≡ before ++ event ∷ after → MayComeBoth lines before event

  -- each of the calls `events`, which follow the calls `before`, comes when it may come: stated
  -- call by call
  abbrev pub EachMayComeBoth : (Way → List Tick) → List Event → List Event → Type 0
  EachMayComeBoth lines before [] = Unit {0}
  EachMayComeBoth lines before (event ∷ events) =
      MayComeBoth lines before event × EachMayComeBoth lines (before ++ event ∷ []) events

  -- Since `start`, this stream was read, and what is made of these lines was written and flushed,
  -- in order. No line of a stream that is written is open.
  pub record HandedBoth (start now : History) (read : List ℕ) (lines : Way → List Tick) :
      Type 0 where
    pub events : List Event
    pub is : now ≡ told_then start events
    pub read_is : bytes_read_before events ≡ read
    pub text : (way : Way) → IsTextOf (text_on way (written Out events))
        ((made way).other_line (lines way))
    pub notes : (way : Way) → text_on way (written Log events) ≡ (made way).note_lines (lines way)
    pub out_ended : AreEnded (written Out events)
    pub log_ended : AreEnded (written Log events)
    pub out_flushed : is_flushed Out events ≡ true
    pub log_flushed : is_flushed Log events ≡ true
    pub in_order : EachMayComeBoth lines [] events

  -- A write or a flush failed: since `start`, each output has got, for each way, a front of what is
  -- made of its line.
  pub record HandedBothFronts (start now : History) (read : List ℕ) (lines : Way → List Tick) :
      Type 0 where
    pub events : List Event
    pub is : now ≡ told_then start events
    pub read_is : bytes_read_before events ≡ read
    pub out_rest : Way → List ℕ
    pub text : (way : Way) → IsTextOf (text_on way (written Out events) ++ out_rest way)
        ((made way).other_line (lines way))
    pub log_rest : Way → List ℕ
    pub notes : (way : Way) → text_on way (written Log events) ++ log_rest way
        ≡ (made way).note_lines (lines way)
    pub in_order : EachMayComeBoth lines [] events
