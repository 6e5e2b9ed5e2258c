-- What is made of each way may be stated way by way: whatever is handed on of it is handed on of
-- what
-- is the same for each way.
use Rattle.line_commands.specs.History.{Event, History, written, bytes_read_before}
use Rattle.line_commands.specs.History.Event.{reads, writes, flushes}
use Rattle.line_commands.specs.LiveText.{IsTextOf}
use Rattle.line_commands.specs.declared.port.Output.TheVariants.{Out, Log}
use Rattle.line_texts.specs.Sending.{LineAndNotes}
use Rattle.live_line.specs.BothWays.{HandedBoth, HandedBothFronts, EachMayComeBoth, MayComeBoth}
use Rattle.live_line.specs.BothWays.{lines_in}
use Rattle.live_line.specs.WayText.{text_on}
use Rattle.live_line.specs.declared.ways.Way.{Way}
use Rattle.std.proofs.Common.{◌≡◌, ℕ, List, [], ◌∷◌, ◌++◌, subst}
use Rattle.yasir_ticks.specs.declared.tick.Tick.{Tick}

module _ (made other : Way → LineAndNotes) (same : (way : Way) → made way ≡ other way)
    (lines : Way → List Tick) where
  text_as : (way : Way) (text : List ℕ) (line : List Tick)
      → IsTextOf text ((made way).other_line line) → IsTextOf text ((other way).other_line line)
  text_as way text line = subst (λ m. IsTextOf text (m.other_line line)) (same way)

  notes_as : (way : Way) (notes : List ℕ) (line : List Tick) → notes ≡ (made way).note_lines line
      → notes ≡ (other way).note_lines line
  notes_as way notes line = subst (λ m. notes ≡ m.note_lines line) (same way)

  may_as : (before : List Event) (event : Event) → MayComeBoth made lines before event
      → MayComeBoth other lines before event
  may_as before (reads got) may = record {
    text = λ way. text_as way (text_on way (written Out before))
        (lines_in (bytes_read_before before) way) (may.text way);
    notes = λ way. notes_as way (text_on way (written Log before))
        (lines_in (bytes_read_before before) way) (may.notes way);
    out_flushed = may.out_flushed;
    log_flushed = may.log_flushed;
  }
  may_as before (writes Out bytes) may = record {
    early = may.early;
    later = may.later;
    is = may.is;
    rest = may.rest;
    text = λ way. text_as way (text_on way (written Out before ++ bytes) ++ may.rest way)
        (may.early way) (may.text way);
    notes = λ way. notes_as way (text_on way (written Log before)) (may.early way) (may.notes way);
    flushed = may.flushed;
  }
  may_as before (writes Log bytes) may = tt
  may_as before (flushes to well) may = tt

  each_as : (before events : List Event) → EachMayComeBoth made lines before events
      → EachMayComeBoth other lines before events
  each_as before [] each = tt
  each_as before (event ∷ events) each =
      (may_as before event each.0, each_as (before ++ event ∷ []) events each.1)

  pub handed_alike : (start now : History) (read : List ℕ) → HandedBoth made start now read lines
      → HandedBoth other start now read lines
  handed_alike start now read handed = record {
    events = handed.events;
    is = handed.is;
    read_is = handed.read_is;
    text = λ way. text_as way (text_on way (written Out handed.events)) (lines way)
        (handed.text way);
    notes = λ way. notes_as way (text_on way (written Log handed.events)) (lines way)
        (handed.notes way);
    out_ended = handed.out_ended;
    log_ended = handed.log_ended;
    out_flushed = handed.out_flushed;
    log_flushed = handed.log_flushed;
    in_order = each_as [] handed.events handed.in_order;
  }

  pub fronts_alike : (start now : History) (read : List ℕ)
      → HandedBothFronts made start now read lines → HandedBothFronts other start now read lines
  fronts_alike start now read fronts = record {
    events = fronts.events;
    is = fronts.is;
    read_is = fronts.read_is;
    out_rest = fronts.out_rest;
    text = λ way. text_as way (text_on way (written Out fronts.events) ++ fronts.out_rest way)
        (lines way) (fronts.text way);
    log_rest = fronts.log_rest;
    notes = λ way. notes_as way (text_on way (written Log fronts.events) ++ fronts.log_rest way)
        (lines way) (fronts.notes way);
    in_order = each_as [] fronts.events fronts.in_order;
  }
