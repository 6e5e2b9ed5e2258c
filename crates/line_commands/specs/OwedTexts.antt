-- What is added to the texts of the answers that a spacer owes.
use Rattle.std.specs.Prelude.{◌≡◌, ℕ, ◌<◌, ◌≤◌, List, [], ◌++◌, length, take, drop, Option, Result}
use Rattle.std.specs.Prelude.{Ok, Err}
use Rattle.yasir_io.specs.declared.sink.Sink.{Ghosts as Sink}
use Rattle.yasir_ticks.specs.declared.tick.Tick.{Tick}
use Rattle.device_model.specs.Frames.{FrameRead, frames_lent}
use Rattle.tick_drive.specs.declared.consumer.Stop.{Stop}
use Rattle.tick_drive.specs.declared.consumer.Stop.TheVariants.{WriteFault}
use Rattle.line_spacer.specs.Owing.{still_read}
use Rattle.line_texts.specs.Adding.{TextHasRoom}
use Rattle.line_texts.specs.Sending.{SinkTexts}
use Rattle.line_commands.specs.SpacedLines.{KeepsHeld, OwesTexts, StopsWithin}
use Rattle.line_commands.specs.declared.spacers.LineSpacer.{Ghosts as LineSpacer}
use Rattle.line_commands.specs.declared.spaced_lines.SpacedLines.{SpacedLines}

module _ {B O L : Type 0} (b : LineSpacer B) (o : Sink O) (l : Sink L) where
  -- the frame that the spacer's device lends, if `read` has the tick of its first byte
  abbrev pub frames_owed : SpacedLines B O L → Option ℕ → List FrameRead
  frames_owed lines read = frames_lent read (b.lent lines.spacer.now)

  -- Holds if the answers to the first n of the `owed` ticks were added, and there is room for more.
  pub record WritesFirstTexts (old new : SpacedLines B O L) (owed : ℕ) (read : Option ℕ) (n : ℕ) :
      Type 0 where
    pub some : 0 < n
    pub within : n ≤ owed
    pub moved : (start : SinkTexts) (line ticks : List Tick) → length ticks ≡ owed
        → OwesTexts b o l old (frames_owed old read) start line ticks
        → OwesTexts b o l new (still_read (drop n ticks) (frames_owed old read)) start
        (line ++ take n ticks) (drop n ticks)
    pub counts : b.taken new.spacer.now ≡ b.taken old.spacer.now
    pub lends : b.lent new.spacer.now ≡ b.lent old.spacer.now
    pub room : TextHasRoom new.texts.now
    pub keeps : KeepsHeld o l old new (Ok tt)

  -- Holds if a write failed when the answers to some of the `owed` ticks were added.
  pub record StopsWriting (old new : SpacedLines B O L) (owed : ℕ) (read : Option ℕ) (stop : Stop) :
      Type 0 where
    pub why : stop ≡ WriteFault
    pub stopped : (start : SinkTexts) (line ticks : List Tick) → length ticks ≡ owed
        → OwesTexts b o l old (frames_owed old read) start line ticks
        → StopsWithin b o l new start (line ++ ticks)
    pub keeps : KeepsHeld o l old new (Err stop)

  -- Holds if the result is the number of ticks whose answers were added, or that a write failed.
  abbrev pub WritesSome : SpacedLines B O L → SpacedLines B O L → ℕ → Option ℕ → Result ℕ Stop
      → Type 0
  WritesSome old new owed read (Ok n) = WritesFirstTexts old new owed read n
  WritesSome old new owed read (Err stop) = StopsWriting old new owed read stop

  -- Holds if the answers to all ticks that were owed were added, and there is room for more.
  pub record WritesAllOwed (old new : SpacedLines B O L) (read : Option ℕ) : Type 0 where
    pub none : new.owed ≡ 0
    pub moved : (start : SinkTexts) (line ticks : List Tick) → length ticks ≡ old.owed
        → OwesTexts b o l old (frames_owed old read) start line ticks
        → OwesTexts b o l new [] start (line ++ ticks) []
    pub counts : b.taken new.spacer.now ≡ b.taken old.spacer.now
    pub room : TextHasRoom new.texts.now
    pub keeps : KeepsHeld o l old new (Ok tt)

  -- Holds if the result is that they were all added, or that a write failed.
  abbrev pub WritesOwed : SpacedLines B O L → SpacedLines B O L → Option ℕ
      → Result (Unit {0}) Stop → Type 0
  WritesOwed old new read (Ok done) = WritesAllOwed old new read
  WritesOwed old new read (Err stop) = StopsWriting old new old.owed read stop
