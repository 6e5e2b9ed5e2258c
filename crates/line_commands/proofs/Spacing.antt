-- What happens to the consumer when its spacer and its texts have taken a run.
use Rattle.{frame_ending.specs.Answered.answered, device_model.specs.Frames.FrameRead}
use Rattle.line_spacer.specs.Arrivals.{arriving}
use Rattle.line_spacer.specs.{Owing.still_read, Spacing.lost_of, Stands.AnswersSpaced}
use Rattle.line_texts.proofs.Sending.{sends_added}
use Rattle.line_texts.specs.{Adding.TextAdds, Adding.TextHasRoom, Sending.AnswersNoted, Sending.SinkTexts}
use Rattle.line_texts.specs.Sending.{SendsTexts, HasSentFronts}
use Rattle.line_texts.specs.{Texts.texts_held, Texts.waiting_in, declared.texts.Texts.Texts}
use Rattle.line_commands.proofs.RunsGiven.{ticks_more, first_given, last_stopped}
use Rattle.line_commands.specs.OwedTexts.{StopsWriting, WritesAllOwed, WritesFirstTexts, frames_owed}
use Rattle.line_commands.specs.SpacedLines.{KeepsHeld, MaySpace, OwesTexts}
use Rattle.line_commands.specs.SpacedLines.{StopsWithin, spacing, writing_behind}
use Rattle.line_commands.specs.{SpacedLinesLaws.holds-then, SpacedTexts.most_waiting}
use Rattle.line_commands.specs.SpacedTexts.{lost_line, lost_lines, arrival_lines, spaced_texts}
use Rattle.line_commands.specs.declared.spaced_lines.SpacedLines.{SpacedLines}
use Rattle.line_commands.specs.declared.spacers.LineSpacer.{Ghosts as LineSpacer}
use Rattle.std.proofs.Common.{◌≡◌, ◌∙◌, ℕ, ◌+◌, ◌-◌, ◌<◌, ◌≤◌, List, [], ◌∷◌, ◌++◌, length, take}
use Rattle.std.proofs.Common.{drop, map, Ok, Err, Option, None, refl, sym, ap, subst, arith}
use Rattle.std.proofs.Common.{append-nil, append_assoc, length-append, take-append-drop}
use Rattle.std.proofs.lemmas.{Grind.flat_map-append, List.length-take-le}
use Rattle.tick_drive.specs.Consumers.{Gives, GivesFirst}
use Rattle.tick_drive.specs.declared.consumer.Stop.{Stop, TheVariants.WriteFault}
use Rattle.yasir_io.specs.declared.sink.Sink.{Ghosts as Sink}
use Rattle.yasir_ticks.{specs.TickRun.run_ticks}
use Rattle.yasir_ticks.specs.{TickRun.run_items, Ticks.Item, Ticks.ticks_in}
use Rattle.yasir_ticks.specs.declared.{tick.Tick.Tick, tick_run.TickRun.TickRun}

-- the lines for frames that are lost in one step
lines_of_step : (step : ℕ) (lost : List FrameRead)
    → arrival_lines (map (arriving step) lost) ≡ lost_lines lost
lines_of_step step [] = refl
lines_of_step step (f ∷ lost) = ap (λ l. lost_line f ++ l) (lines_of_step step lost)

-- what a spacer answers to a run, as ticks and note lines
spacing_noted : (reads : List Tick → List FrameRead) (gap : ℕ) (line run answer : List Tick)
    (step : ℕ) (lost : List FrameRead)
    → AnswersSpaced reads gap most_waiting line run answer step lost
    → AnswersNoted (spaced_texts reads gap) line run answer (lost_lines lost)
spacing_noted reads gap line run answer step lost answers = record {
  ticks_are = answers.ticks_leave;
  note_is = ap arrival_lines answers.are_lost
      ∙ flat_map-append (λ a. lost_line a.frame) (lost_of reads gap most_waiting line)
      (map (arriving step) lost)
      ∙ ap (λ l. arrival_lines (lost_of reads gap most_waiting line) ++ l)
      (lines_of_step step lost);
}

-- For a spacer that has given the answers to the first n of the `owed` ticks, and whose texts have
-- taken them (`added`).
module _ {B O L : Type 0} (b : LineSpacer B) (o : Sink O) (l : Sink L) (old new : SpacedLines B O L)
    (added : Texts) (owed : ℕ) (read : Option ℕ) (n : ℕ) (left : List ℕ) (lost : List FrameRead)
    (owes : (line ticks : List Tick) → length ticks ≡ owed
    → b.owes old.spacer.now line ticks (frames_owed b o l old read)
    → b.owes new.spacer.now (line ++ take n ticks) (drop n ticks)
    (still_read (drop n ticks) (frames_owed b o l old read)))
    (answers : (line ticks : List Tick) → length ticks ≡ owed
    → b.owes old.spacer.now line ticks (frames_owed b o l old read)
    → AnswersSpaced b.reads b.gap most_waiting line (take n ticks) (answered n left)
    (length line + (n - 1)) lost)
    (adds : TextAdds (waiting_in old.texts.now) (waiting_in added) (answered n left)
    (lost_lines lost)) where
  abbrev Sent : SinkTexts → List Tick → Type 0
  Sent start line = SendsTexts (spaced_texts b.reads b.gap) (waiting_in added) start
      (texts_held o l (writing_behind old)) line

  added_sends : (start : SinkTexts) (line ticks : List Tick) → length ticks ≡ owed
      → OwesTexts b o l old (frames_owed b o l old read) start line ticks
      → Sent start (line ++ take n ticks)
  added_sends start line ticks long before =
      sends_added (spaced_texts b.reads b.gap) line (take n ticks) (answered n left)
      (lost_lines lost) (spacing_noted b.reads b.gap line (take n ticks) (answered n left)
      (length line + (n - 1)) lost (answers line ticks long before.owes)) (waiting_in old.texts.now)
      (waiting_in added) start (texts_held o l (writing_behind old)) before.sends adds

  -- The answers are on their way, and there is room for more.
  pub some_written : 0 < n → n ≤ owed → b.taken new.spacer.now ≡ b.taken old.spacer.now
      → b.lent new.spacer.now ≡ b.lent old.spacer.now → TextHasRoom new.texts.now
      → ((start : SinkTexts) (line : List Tick) → Sent start line
      → SendsTexts (spaced_texts b.reads b.gap) (waiting_in new.texts.now) start
      (texts_held o l (writing_behind new)) line)
      → KeepsHeld o l old new (Ok tt) → WritesFirstTexts b o l old new owed read n
  some_written some within counts lends room on keeps = record {
    some = some;
    within = within;
    moved = λ start line ticks long before. record {
      owes = owes line ticks long before.owes;
      sends = on start (line ++ take n ticks) (added_sends start line ticks long before);
    };
    counts = counts;
    lends = lends;
    room = room;
    keeps = keeps;
  }

  -- A write of what waited failed.
  pub some_stopped : ((start : SinkTexts) (line : List Tick) → Sent start line
      → HasSentFronts (spaced_texts b.reads b.gap) start (texts_held o l (writing_behind new)) line)
      → KeepsHeld o l old new (Err WriteFault) → StopsWriting b o l old new owed read WriteFault
  some_stopped stops keeps = record {
    why = refl;
    stopped = λ start line ticks long before. record {
      early = line ++ take n ticks;
      later = drop n ticks;
      is = append_assoc line (take n ticks) (drop n ticks)
          ∙ ap (λ x. line ++ x) (take-append-drop n ticks);
      makes = stops start (line ++ take n ticks) (added_sends start line ticks long before);
    };
    keeps = keeps;
  }

-- For a spacer that has heard the first n ticks of a run. `read` says what was read in the last of
-- them.
module _ {B O L : Type 0} (b : LineSpacer B) (o : Sink O) (l : Sink L)
    (old heard : SpacedLines B O L) (run : TickRun) (n : ℕ) (read : Option ℕ)
    (some : 0 < n) (within : n ≤ length (run_ticks run))
    (counts : b.taken heard.spacer.now ≡ b.taken old.spacer.now + n)
    (more : heard.owed ≡ old.owed + n)
    (owes : (line owed : List Tick) → length owed ≡ old.owed → b.owes old.spacer.now line owed []
    → b.owes heard.spacer.now line (owed ++ take n (run_ticks run)) (frames_owed b o l heard read))
    (sends : (start : SinkTexts) (line : List Tick)
    → SendsTexts (spaced_texts b.reads b.gap) (waiting_in old.texts.now) start
    (texts_held o l (writing_behind old)) line
    → SendsTexts (spaced_texts b.reads b.gap) (waiting_in heard.texts.now) start
    (texts_held o l (writing_behind heard)) line)
    (keeps : KeepsHeld o l old heard (Ok tt)) where
  abbrev given : List Tick
  given = take n (run_ticks run)

  -- the first n ticks of the run are those of its first n items
  all : (items : List Item) (before : List Tick) → ticks_in items ≡ before
      → ticks_in (items ++ take n (run_items run)) ≡ before ++ given
  all items before are = ticks_more items run n ∙ ap (λ x. x ++ given) are

  long : (behind : List Tick) → length behind ≡ old.owed → length (behind ++ given) ≡ heard.owed
  long behind many =
      let sum = length-append behind given in
      let as_many : length given ≡ n = length-take-le n (run_ticks run) within in
      let sums = more in
      omega arith

  owing : (start : SinkTexts) (line behind : List Tick) → length behind ≡ old.owed
      → OwesTexts b o l old [] start line behind
      → OwesTexts b o l heard (frames_owed b o l heard read) start line (behind ++ given)
  owing start line behind many before = record {
    owes = owes line behind many before.owes;
    sends = sends start line before.sends;
  }

  -- Nothing was read, and no answer is added yet.
  pub none_read : read ≡ None → MaySpace b o l old → TextHasRoom heard.texts.now
      → GivesFirst (spacing b o l) old heard (run_items run) n
  none_read none able room = first_given (spacing b o l) old heard run n some within
      (λ start items before. record {
        line = before.line;
        behind = before.behind ++ given;
        are = all items (before.line ++ before.behind) before.are
            ∙ append_assoc before.line before.behind given;
        many = long before.behind before.many;
        texts = subst (λ r. OwesTexts b o l heard (frames_owed b o l heard r) start before.line
            (before.behind ++ given)) none
            (owing start before.line before.behind before.many before.texts);
      }) counts (record { few = omega (arith, counts, more, able.few); room = room }) keeps

  -- The answers that were owed are added.
  pub read_written : (new : SpacedLines B O L) → WritesAllOwed b o l heard new read
      → GivesFirst (spacing b o l) old new (run_items run) n
  read_written new wrote = first_given (spacing b o l) old new run n some within
      (λ start items before. record {
        line = before.line ++ (before.behind ++ given);
        behind = [];
        are = all items (before.line ++ before.behind) before.are
            ∙ (append_assoc before.line before.behind given
            ∙ sym (append-nil (before.line ++ (before.behind ++ given))));
        many = sym wrote.none;
        texts = wrote.moved start before.line (before.behind ++ given)
            (long before.behind before.many)
            (owing start before.line before.behind before.many before.texts);
      }) (wrote.counts ∙ counts) (record { few = omega (arith, wrote.none); room = wrote.room })
      (holds-then b o l old heard new (Ok tt) keeps wrote.keeps)

  -- A write failed when the answers were added.
  pub read_stopped : (new : SpacedLines B O L) (stop : Stop)
      → StopsWriting b o l heard new heard.owed read stop
      → Gives (spacing b o l) old new (run_items run) (Err stop)
  read_stopped new stop wrote = last_stopped (spacing b o l) old new run n some within stop
      (λ start items before. record {
        why = wrote.why;
        within = subst (StopsWithin b o l new start)
            (sym (all items (before.line ++ before.behind) before.are
            ∙ append_assoc before.line before.behind given))
            (wrote.stopped start before.line (before.behind ++ given)
            (long before.behind before.many)
            (owing start before.line before.behind before.many before.texts));
      }) (holds-then b o l old heard new (Err stop) keeps wrote.keeps)
