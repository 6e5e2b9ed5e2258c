-- The answers that a spacer owes are added part by part.
use Rattle.{device_model.specs.Frames.frames_lent, line_spacer.proofs.Owing.still-some}
use Rattle.{line_spacer.specs.Owing.still_read, line_texts.specs.Adding.TextHasRoom}
use Rattle.line_texts.specs.Sending.{SinkTexts}
use Rattle.line_commands.specs.OwedTexts.{StopsWriting, WritesAllOwed, WritesFirstTexts, frames_owed}
use Rattle.line_commands.specs.SpacedLines.{KeepsHeld, OwesTexts, StopsWithin}
use Rattle.line_commands.specs.SpacedLinesLaws.{holds-then, keeps-none}
use Rattle.line_commands.specs.declared.spaced_lines.SpacedLines.{SpacedLines}
use Rattle.line_commands.specs.declared.spacers.LineSpacer.{Ghosts as LineSpacer}
use Rattle.std.proofs.Common.{◌≡◌, ◌∙◌, ℕ, ◌+◌, ◌-◌, ◌<◌, ◌≤◌, List, [], ◌++◌, length, take, drop}
use Rattle.std.proofs.Common.{Ok, Err, Option, None, refl, sym, ap, subst, arith, append-nil}
use Rattle.std.proofs.Common.{append_assoc, length-drop, take-add, take-append-drop}
use Rattle.std.proofs.lemmas.List.{drop_all, drop-drop, nil_from_length, take_all}
use Rattle.tick_drive.specs.declared.consumer.Stop.{Stop}
use Rattle.yasir_io.specs.declared.sink.Sink.{Ghosts as Sink}
use Rattle.yasir_ticks.specs.declared.tick.Tick.{Tick}

module _ {B O L : Type 0} (b : LineSpacer B) (o : Sink O) (l : Sink L) where
  -- Of the `owed` ticks, `left` are left, the answers to those before them are added, and there is
  -- room for more.
  pub record AreWritten (start now : SpacedLines B O L) (owed left : ℕ) (read : Option ℕ) :
      Type 0 where
    pub done : ℕ
    pub sum : done + left ≡ owed
    pub moved : (origin : SinkTexts) (line ticks : List Tick) → length ticks ≡ owed
        → OwesTexts b o l start (frames_owed b o l start read) origin line ticks
        → OwesTexts b o l now (still_read (drop done ticks) (frames_owed b o l start read)) origin
        (line ++ take done ticks) (drop done ticks)
    pub counts : b.taken now.spacer.now ≡ b.taken start.spacer.now
    pub lends : b.lent now.spacer.now ≡ b.lent start.spacer.now
    pub room : TextHasRoom now.texts.now
    pub keeps : KeepsHeld o l start now (Ok tt)

  pub none_written : (lines : SpacedLines B O L) (owed : ℕ) (read : Option ℕ) → 0 < owed
      → TextHasRoom lines.texts.now → AreWritten lines lines owed owed read
  none_written lines owed read some room = record {
    done = 0;
    sum = omega arith;
    moved = λ origin line ticks long before.
        let there : 0 < length ticks = omega arith in
        subst (λ f. OwesTexts b o l lines f origin (line ++ []) ticks)
        (sym (still-some ticks (frames_owed b o l lines read) there))
        (subst (λ x. OwesTexts b o l lines (frames_owed b o l lines read) origin x ticks)
        (sym (append-nil line)) before);
    counts = refl;
    lends = refl;
    room = room;
    keeps = keeps-none b o l lines;
  }

  module _ (start now new : SpacedLines B O L) (owed left : ℕ) (read : Option ℕ)
      (are : AreWritten start now owed left read) where
    same-frames : frames_owed b o l start read ≡ frames_owed b o l now read
    same-frames = ap (frames_lent read) (sym are.lends)

    -- The ticks that are left are owed, as the next part needs it.
    at-next : (origin : SinkTexts) (line ticks : List Tick) → 0 < left → length ticks ≡ owed
        → OwesTexts b o l start (frames_owed b o l start read) origin line ticks
        → OwesTexts b o l now (frames_owed b o l now read) origin (line ++ take are.done ticks)
        (drop are.done ticks)
    at-next origin line ticks some long before =
        let rest = length-drop are.done ticks in
        let sum = are.sum in
        let there : 0 < length (drop are.done ticks) = omega arith in
        subst (λ f. OwesTexts b o l now f origin (line ++ take are.done ticks)
        (drop are.done ticks))
        (still-some (drop are.done ticks) (frames_owed b o l start read) there ∙ same-frames)
        (are.moved origin line ticks long before)

    left-long : (ticks : List Tick) → length ticks ≡ owed → length (drop are.done ticks) ≡ left
    left-long ticks long =
        let rest = length-drop are.done ticks in let sum = are.sum in omega arith

    -- The answers to n more ticks are added.
    pub some_more : (n : ℕ) → WritesFirstTexts b o l now new left read n
        → AreWritten start new owed (left - n) read
    some_more n wrote =
        let some = wrote.some in
        let within = wrote.within in
        let begun = are.sum in
        let there : 0 < left = omega arith in
        record {
          done = are.done + n;
          sum = omega arith;
          moved = λ origin line ticks long before.
              let front = take are.done ticks in
              let behind = drop are.done ticks in
              let after = wrote.moved origin (line ++ front) behind (left-long ticks long)
              (at-next origin line ticks there long before) in
              let joined : (line ++ front) ++ take n behind ≡ line ++ take (are.done + n) ticks =
              append_assoc line front (take n behind)
              ∙ ap (λ x. line ++ x) (sym (take-add are.done n ticks)) in
              subst (λ x. OwesTexts b o l new (still_read x (frames_owed b o l start read)) origin
              (line ++ take (are.done + n) ticks) x) (drop-drop n are.done ticks)
              (subst (λ x. OwesTexts b o l new
              (still_read (drop n behind) (frames_owed b o l start read)) origin x (drop n behind))
              joined
              (subst (λ f. OwesTexts b o l new (still_read (drop n behind) f) origin
              ((line ++ front) ++ take n behind) (drop n behind)) (sym same-frames) after));
          counts = wrote.counts ∙ are.counts;
          lends = wrote.lends ∙ are.lends;
          room = wrote.room;
          keeps = holds-then b o l start now new (Ok tt) are.keeps wrote.keeps;
        }

    -- A write failed when the answers that are left were added.
    pub more_stopped : (stop : Stop) → 0 < left → StopsWriting b o l now new left read stop
        → StopsWriting b o l start new owed read stop
    more_stopped stop some wrote = record {
      why = wrote.why;
      stopped = λ origin line ticks long before.
          subst (StopsWithin b o l new origin)
          (append_assoc line (take are.done ticks) (drop are.done ticks)
          ∙ ap (λ x. line ++ x) (take-append-drop are.done ticks))
          (wrote.stopped origin (line ++ take are.done ticks) (drop are.done ticks)
          (left-long ticks long) (at-next origin line ticks some long before));
      keeps = holds-then b o l start now new (Err stop) are.keeps wrote.keeps;
    }

    -- If no tick is left, all answers are added.
    pub all_written : left ≤ 0 → (origin : SinkTexts) (line ticks : List Tick)
        → length ticks ≡ owed
        → OwesTexts b o l start (frames_owed b o l start read) origin line ticks
        → OwesTexts b o l now [] origin (line ++ ticks) []
    all_written none origin line ticks long before =
        let sum = are.sum in
        let over : length ticks ≤ are.done = omega arith in
        subst (λ x. OwesTexts b o l now [] origin (line ++ x) [])
        (take_all are.done ticks over)
        (subst (λ x. OwesTexts b o l now (still_read x (frames_owed b o l start read)) origin
        (line ++ take are.done ticks) x) (drop_all are.done ticks over)
        (are.moved origin line ticks long before))

  -- If nothing was owed, all answers are added.
  pub nothing_owed : (lines : SpacedLines B O L) → lines.owed ≡ 0 → TextHasRoom lines.texts.now
      → WritesAllOwed b o l lines lines None
  nothing_owed lines none room = record {
    none = none;
    moved = λ origin line ticks long before.
        let empty : ticks ≡ [] = nil_from_length ticks (long ∙ none) in
        subst (λ x. OwesTexts b o l lines [] origin (line ++ x) []) (sym empty)
        (subst (λ x. OwesTexts b o l lines [] origin x []) (sym (append-nil line))
        (subst (λ x. OwesTexts b o l lines [] origin line x) empty before));
    counts = refl;
    room = room;
    keeps = keeps-none b o l lines;
  }
