-- What is said of a consumer that drives a spacer. It holds references to the spacer, the texts and
-- the two sinks.
use Rattle.std.specs.Prelude.{◌≡◌, ◌≤◌, List, [], ◌++◌, length, Result}
use Rattle.yasir_io.specs.Flushed.{NoneFlushed}
use Rattle.yasir_io.specs.declared.sink.Sink.{Ghosts as Sink}
use Rattle.yasir_ticks.specs.Ticks.{Item, ticks_in}
use Rattle.yasir_ticks.specs.declared.tick.Tick.{Tick}
use Rattle.device_model.specs.Frames.{FrameRead}
use Rattle.tick_drive.specs.Consumers.{Consuming, IsSinkCause, is_write_fault}
use Rattle.tick_drive.specs.declared.consumer.Stop.{Stop}
use Rattle.tick_drive.specs.declared.consumer.Stop.TheVariants.{WriteFault}
use Rattle.line_texts.specs.Adding.{TextHasRoom}
use Rattle.line_texts.specs.Sending.{SinkTexts, SendsTexts, HasSentFronts}
use Rattle.line_texts.specs.Texts.{Writing, writing, texts_held, waiting_in}
use Rattle.line_commands.specs.OverInput.{OfFront}
use Rattle.line_commands.specs.SpacedTexts.{spaced_texts}
use Rattle.line_commands.specs.declared.spacers.LineSpacer.{Ghosts as LineSpacer}
use Rattle.line_commands.specs.declared.spaced_lines.SpacedLines.{SpacedLines}

-- the texts and the two sinks, behind the references
abbrev pub writing_behind : {B O L : Type 0} → SpacedLines B O L → Writing O L
writing_behind lines = writing lines.texts.now lines.out.now lines.log.now

-- Holds if the references are those that were held before, no sink was flushed, and the count of
-- faults of a sink rose exactly if the result is a write fault.
pub record KeepsHeld {B O L : Type 0} (o : Sink O) (l : Sink L) (old new : SpacedLines B O L)
    (result : Result (Unit {0}) Stop) : Type 0 where
  pub spacer : new.spacer.ghost_name ≡ old.spacer.ghost_name
  pub texts : new.texts.ghost_name ≡ old.texts.ghost_name
  pub out : new.out.ghost_name ≡ old.out.ghost_name
  pub log : new.log.ghost_name ≡ old.log.ghost_name
  pub sinks : IsSinkCause (o.faults old.out.now) (o.faults new.out.now) (l.faults old.log.now)
      (l.faults new.log.now) (is_write_fault result)
  pub flushes : NoneFlushed o l old.out.now new.out.now old.log.now new.log.now

module _ {B O L : Type 0} (b : LineSpacer B) (o : Sink O) (l : Sink L) where
  -- Holds if the spacer has answered this line, and its texts are on their way to the two sinks,
  -- which held `start` at first. It owes the answers to the `owed` ticks after the line. Of the
  -- frames that were read in these ticks it has taken in all but `frames`, which were read in the
  -- last one.
  pub record OwesTexts (lines : SpacedLines B O L) (frames : List FrameRead) (start : SinkTexts)
      (line owed : List Tick) : Type 0 where
    pub owes : b.owes lines.spacer.now line owed frames
    pub sends : SendsTexts (spaced_texts b.reads b.gap) (waiting_in lines.texts.now) start
        (texts_held o l (writing_behind lines)) line

  -- Holds if the spacer has taken these ticks. It owes the answers to the last of them, and has
  -- taken in all frames that were read there.
  pub record SpacesTicks (lines : SpacedLines B O L) (start : SinkTexts) (ticks : List Tick) :
      Type 0 where
    pub line : List Tick
    pub behind : List Tick
    pub are : ticks ≡ line ++ behind
    pub many : length behind ≡ lines.owed
    pub texts : OwesTexts lines [] start line behind

  abbrev pub SpacesItems : SpacedLines B O L → SinkTexts → List Item → Type 0
  SpacesItems lines start items = SpacesTicks lines start (ticks_in items)

  -- Each of the two sinks has got a front of its text of this line, the notes first.
  abbrev pub HasSpacedFronts : SpacedLines B O L → SinkTexts → List Tick → Type 0
  HasSpacedFronts lines start =
      HasSentFronts (spaced_texts b.reads b.gap) start (texts_held o l (writing_behind lines))

  -- Holds if a write failed: the sinks have got a front of each text of a front of these ticks.
  abbrev pub StopsWithin : SpacedLines B O L → SinkTexts → List Tick → Type 0
  StopsWithin lines start = OfFront (HasSpacedFronts lines start)

  -- Holds if a write failed, at the last of these items or before.
  pub record StopsSpacing (lines : SpacedLines B O L) (stop : Stop) (start : SinkTexts)
      (items : List Item) : Type 0 where
    pub why : stop ≡ WriteFault
    pub within : StopsWithin lines start (ticks_in items)

  -- Holds if the spacer owes no more answers than it has taken ticks, and there is room for what
  -- the next ones complete.
  pub record MaySpace (lines : SpacedLines B O L) : Type 0 where
    pub few : lines.owed ≤ b.taken lines.spacer.now
    pub room : TextHasRoom lines.texts.now

  -- What is said of such a consumer.
  abbrev pub spacing : Consuming (SpacedLines B O L)
  spacing = record {
    Origin = SinkTexts;
    stands = SpacesItems;
    stopped = StopsSpacing;
    taken = λ lines. b.taken lines.spacer.now;
    able = MaySpace;
    went = KeepsHeld o l;
  }
