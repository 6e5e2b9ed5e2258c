-- What calls that write to a port do for one of its two ways.
use Rattle.std.specs.Prelude.{◌≡◌, ◌≢◌, ◌⊎◌, ℕ, List, [], ◌∷◌, ◌++◌, true, false, Result}
use Rattle.std.specs.Prelude.{OnOk, OnErr}
use Rattle.std.specs.List.{flat_map}
use Rattle.yasir_io.specs.declared.Failed.{Failed}
use Rattle.yasir_ticks.specs.declared.tick.Tick.{Tick}
use Rattle.line_texts.specs.Sending.{LineAndNotes, AnswersNoted}
use Rattle.line_commands.specs.History.{Event, History, told_then}
use Rattle.line_commands.specs.History.Event.{writes, flushes}
use Rattle.line_commands.specs.Sent.{WritesCause}
use Rattle.line_commands.specs.declared.port.Output.{Output}
use Rattle.line_commands.specs.declared.port.Port.{Ghosts as Port}
use Rattle.live_line.specs.BothWays.{grown, HandedBoth, HandedBothFronts}
use Rattle.live_line.specs.WayText.{text_on, AreEnded, HasLettered}
use Rattle.live_line.specs.declared.lettered.Lettering.{Lettering}
use Rattle.live_line.specs.declared.ways.Way.{Way}

-- all bytes of these pieces
abbrev pub joined : List (List ℕ) → List ℕ
joined pieces = flat_map (λ piece. piece) pieces

-- After a stream whose lines have ended, these bytes add this text to that of a way, and nothing to
-- the other way's.
pub record AddsText (way : Way) (stream text bytes : List ℕ) : Type 0 where
  pub own : text_on way (stream ++ bytes) ≡ text_on way stream ++ text
  pub others : (other : Way) → other ≢ way → text_on other (stream ++ bytes) ≡ text_on other stream

-- After a stream whose lines have ended, these bytes add a front of this text to that of a way, and
-- nothing to the other way's.
pub record AddsFront (way : Way) (stream text bytes : List ℕ) : Type 0 where
  pub front : List ℕ
  pub rest : List ℕ
  pub is : text ≡ front ++ rest
  pub adds : AddsText way stream front bytes

-- the calls that write these pieces to an output, and flush it after each
abbrev pub sent_pieces : Output → List (List ℕ) → List Event
sent_pieces to pieces = flat_map (λ piece. writes to piece ∷ flushes to true ∷ []) pieces

module _ {P : Type 0} (p : Port P) where
  -- This text was written to an output, with the letter of a way before each line, and flushed.
  pub record PutsText (old new : P) (lettering : Lettering) (way : Way) (to : Output)
      (text : List ℕ) : Type 0 where
    pub pieces : List (List ℕ)
    pub told : p.history new ≡ told_then (p.history old) (sent_pieces to pieces)
    pub lettered : (stream : List ℕ) → AreEnded stream
        → HasLettered lettering way stream text (joined pieces)

  -- The same, with the lettering that it was written by.
  pub record SendsText (old new : P) (way : Way) (to : Output) (text : List ℕ) : Type 0 where
    pub lettering : Lettering
    pub puts : PutsText old new lettering way to text

  -- A call failed. Only a front of this text was written, with the letter of a way before each line.
  pub record BreaksText (old new : P) (way : Way) (to : Output) (text : List ℕ) : Type 0 where
    pub pieces : List (List ℕ)
    pub cut : List ℕ
    pub more : List Event
    pub tail : (more ≡ []) ⊎ (more ≡ flushes to false ∷ [])
    pub told : p.history new
        ≡ told_then (p.history old) (sent_pieces to pieces ++ writes to cut ∷ more)
    pub adds : (stream : List ℕ) → AreEnded stream
        → AddsFront way stream text (joined pieces ++ cut)

  -- The text was written and flushed, or, after an error, a front of it was written.
  pub record SendsWay (old new : P) (way : Way) (to : Output) (text : List ℕ)
      (result : Result (Unit {0}) Failed) : Type 0 where
    pub ok : OnOk result (SendsText old new way to text)
    pub err : OnErr result (BreaksText old new way to text)
    pub cause : WritesCause p old new result

  -- What is made of some ticks of a way was handed on: these ticks of the other line and these
  -- notes. Nothing changed in the other way. If a call failed, fronts were handed on.
  pub record HandsOnWay (old new : P) (way : Way) (answer : List Tick) (note : List ℕ)
      (result : Result (Unit {0}) Failed) : Type 0 where
    pub ok : OnOk result ((made : Way → LineAndNotes) (start : History) (read : List ℕ)
        (lines : Way → List Tick) (run : List Tick)
        → AnswersNoted (made way) (lines way) run answer note
        → HandedBoth made start (p.history old) read lines
        → HandedBoth made start (p.history new) read (grown lines way run))
    pub err : OnErr result ((made : Way → LineAndNotes) (start : History) (read : List ℕ)
        (lines : Way → List Tick) (run : List Tick)
        → AnswersNoted (made way) (lines way) run answer note
        → HandedBoth made start (p.history old) read lines
        → HandedBothFronts made start (p.history new) read (grown lines way run))
    pub cause : WritesCause p old new result
