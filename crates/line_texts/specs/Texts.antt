-- What calls do to the two texts that are on their way, and to the two sinks that they go to.
use Rattle.std.specs.Prelude.{◌≡◌, [], Result, OnOk, OnErr}
use Rattle.yasir_io.specs.Flushed.{NoneFlushed}
use Rattle.yasir_io.specs.TextBuffer.{waiting_bytes}
use Rattle.yasir_io.specs.declared.Failed.{Failed}
use Rattle.yasir_io.specs.declared.sink.Sink.{Ghosts as Sink}
use Rattle.line_texts.specs.Adding.{TextHasRoom}
use Rattle.line_texts.specs.Sending.{SinkTexts, sink_texts, Waiting, waiting, HaveCause}
use Rattle.line_texts.specs.Sending.{WritesAllTexts, WritesPartOfTexts}
use Rattle.line_texts.specs.declared.texts.Texts.{Texts}

abbrev pub waiting_in : Texts → Waiting
waiting_in texts = waiting texts.writer texts.ticks.items (waiting_bytes texts.notes)

-- the texts, and the two sinks
pub record Writing (O L : Type 0) : Type 0 where
  pub texts : Texts
  pub out : O
  pub log : L

abbrev pub writing : {O L : Type 0} → Texts → O → L → Writing O L
writing texts out log = record { texts = texts; out = out; log = log }

module _ {O L : Type 0} (o : Sink O) (l : Sink L) where
  abbrev pub texts_held : Writing O L → SinkTexts
  texts_held at = sink_texts (o.held at.out) (l.held at.log)

  -- A call with this result failed only if one of the sinks did, and it flushed neither.
  pub record Writes (old new : Writing O L) (result : Result (Unit {0}) Failed) : Type 0 where
    pub cause : HaveCause (o.faults old.out) (o.faults new.out) (l.faults old.log)
        (l.faults new.log) result
    pub flushes : NoneFlushed o l old.out new.out old.log new.log

  -- All that waited was written: the notes to the log, and then the ticks. Nothing waits but the
  -- line that isn't filled yet, which is as it was, so there is room.
  pub record HandsOut (old new : Writing O L) (result : Result (Unit {0}) Failed) : Type 0 where
    pub writer : new.texts.writer ≡ old.texts.writer
    pub no_ticks : OnOk result (new.texts.ticks.items ≡ [])
    pub no_notes : OnOk result (waiting_bytes new.texts.notes ≡ [])
    pub room : OnOk result (TextHasRoom new.texts)
    pub all : OnOk result (WritesAllTexts (waiting_in old.texts) (texts_held old) (texts_held new))
    pub part : OnErr result (WritesPartOfTexts (waiting_in old.texts) (texts_held old) (texts_held new))
    pub writes : Writes old new result
