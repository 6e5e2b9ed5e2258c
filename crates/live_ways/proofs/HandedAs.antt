-- Whatever is handed on of lines is handed on of lines that are the same tick by tick.
use Rattle.line_commands.specs.History.{Event, History, written}
use Rattle.line_commands.specs.History.Event.{reads, writes, flushes}
use Rattle.line_commands.specs.LiveText.{IsTextOf}
use Rattle.line_commands.specs.declared.port.Output.TheVariants.{Out, Log}
use Rattle.line_texts.specs.Sending.{LineAndNotes}
use Rattle.live_line.specs.BothWays.{HandedBoth, EachMayComeBoth, MayComeBoth}
use Rattle.live_line.specs.WayText.{text_on}
use Rattle.live_line.specs.declared.ways.Way.{Way}
use Rattle.std.proofs.Common.{◌≡◌, ◌∙◌, ℕ, List, [], ◌∷◌, ◌++◌, ap, sym, subst}
use Rattle.yasir_ticks.specs.declared.tick.Tick.{Tick}

module _ (made : Way → LineAndNotes) (lines other : Way → List Tick)
    (same : (way : Way) → lines way ≡ other way) where
  may_as : (before : List Event) (event : Event) → MayComeBoth made lines before event
      → MayComeBoth made other before event
  may_as before (reads got) may = may
  may_as before (writes Out bytes) may = record {
    early = may.early;
    later = may.later;
    is = λ way. sym (same way) ∙ may.is way;
    rest = may.rest;
    text = may.text;
    notes = may.notes;
    flushed = may.flushed;
  }
  may_as before (writes Log bytes) may = tt
  may_as before (flushes to well) may = tt

  each_as : (before events : List Event) → EachMayComeBoth made lines before events
      → EachMayComeBoth made other before events
  each_as before [] each = tt
  each_as before (event ∷ events) each =
      (may_as before event each.0, each_as (before ++ event ∷ []) events each.1)

  pub handed_as : (start now : History) (read : List ℕ) → HandedBoth made start now read lines
      → HandedBoth made start now read other
  handed_as start now read handed = record {
    events = handed.events;
    is = handed.is;
    read_is = handed.read_is;
    text = λ way. subst (λ line. IsTextOf (text_on way (written Out handed.events))
        ((made way).other_line line)) (same way) (handed.text way);
    notes = λ way. handed.notes way ∙ ap (made way).note_lines (same way);
    out_ended = handed.out_ended;
    log_ended = handed.log_ended;
    out_flushed = handed.out_flushed;
    log_flushed = handed.log_flushed;
    in_order = each_as [] handed.events handed.in_order;
  }
