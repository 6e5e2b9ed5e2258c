-- The text of a line, from its first tick to its last one.
use Rattle.line_capture.specs.Placed.{plain, PlacedSends, PlacesAll, PlacesPart, WrittenLine, WrittenPart}
use Rattle.{line_capture.specs.declared.placing.LineEnd.LineEnd, line_stamps.specs.Places.line_of_places}
use Rattle.line_stamps.specs.declared.{capture.CaptureByte.CaptureByte, timing.Timing.Timing}
use Rattle.line_texts.{proofs.Sending.begins, specs.Sending.SinkTexts, specs.Sending.sink_texts}
use Rattle.line_texts.specs.{Sending.TextsHaveSent, Sending.HasSentFronts, Texts.Writing, Texts.writing}
use Rattle.line_texts.specs.{Texts.texts_held, Writer.WriterHasWritten, declared.texts.Texts.Texts}
use Rattle.std.proofs.Common.{◌≡◌, ◌∙◌, ℕ, List, [], ◌∷◌, ◌++◌, Option, refl, sym, ap, append-nil}
use Rattle.{std.specs.Io.KnownBytes.append_known, yasir_io.proofs.OutputLemmas.append_known-nil}
use Rattle.yasir_io.specs.{Output.GotPrefix, TextBuffer.waiting_bytes}
use Rattle.yasir_io.specs.declared.{Failed.Failed, sink.Sink.Ghosts as Sink}

front_none : (front rest : List ℕ) → [] ≡ front ++ rest → front ≡ []
front_none [] rest is = refl
front_none (x ∷ front) rest is = cc

-- Of an empty text nothing was written.
pub got_nothing : (a b : Option (List ℕ)) → GotPrefix a b [] → b ≡ a
got_nothing a b p =
    p.got ∙ ap (append_known a) (front_none p.front p.rest p.all) ∙ append_known-nil a

module _ {O L : Type 0} (o : Sink O) (l : Sink L) where
  pub begun : (texts : Texts) (out : O) (log : L) → WriterHasWritten texts.writer [] []
      → texts.ticks.items ≡ [] → waiting_bytes texts.notes ≡ []
      → PlacedSends o l (sink_texts (o.held out) (l.held log)) (writing texts out log) []
  begun texts out log written ticks notes =
      begins plain texts.writer texts.ticks.items (waiting_bytes texts.notes)
      (sink_texts (o.held out) (l.held log)) refl refl written ticks notes

  module _ (t : Timing) (cs : List CaptureByte) (old new : Writing O L)
      (start : PlacedSends o l (texts_held o l old) old []) where
    pub part_line : (failed : Failed) → PlacesPart o l t cs old new failed
        → WrittenPart t cs (o.held old.out) (o.held new.out)
    part_line failed part =
        let sent = part.stops (texts_held o l old) start in record {
          front = part.front;
          rest = part.rest;
          is_front = part.is_front;
          ticks = sent.ticks;
          later = sent.later;
          are = sent.is;
          got = sent.sent.text;
        }

    pub part_log : (failed : Failed) → PlacesPart o l t cs old new failed
        → l.held new.log ≡ l.held old.log
    part_log failed part =
        got_nothing _ _ (part.stops (texts_held o l old) start).sent.note_text

    module _ (end : LineEnd) (all : PlacesAll o l t cs old new end) where
      pub sends_line : PlacedSends o l (texts_held o l old) new (line_of_places t all.front)
      sends_line = all.goes (texts_held o l old) start

      pub sent_line : (now : SinkTexts) → TextsHaveSent plain (texts_held o l old) now (line_of_places t all.front)
          → WrittenLine t cs (o.held old.out) now.out end
      sent_line now sent = record {
        front = all.front;
        rest = all.rest;
        is_front = all.is_front;
        stop = all.stop;
        placed = all.placed;
        text = sent.text;
      }

      pub sent_log : (now : SinkTexts) → TextsHaveSent plain (texts_held o l old) now (line_of_places t all.front)
          → now.log ≡ l.held old.log
      sent_log now sent = sent.note_text ∙ append_known-nil (l.held old.log)

      pub stopped_line : (now : SinkTexts) → HasSentFronts plain (texts_held o l old) now (line_of_places t all.front)
          → WrittenPart t cs (o.held old.out) now.out
      stopped_line now sent = record {
        front = all.front;
        rest = all.rest;
        is_front = all.is_front;
        ticks = line_of_places t all.front;
        later = [];
        are = sym (append-nil _);
        got = sent.text;
      }

      pub stopped_log : (now : SinkTexts) → HasSentFronts plain (texts_held o l old) now (line_of_places t all.front)
          → now.log ≡ l.held old.log
      stopped_log now sent = got_nothing _ _ sent.note_text
