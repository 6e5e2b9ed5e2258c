use Rattle.line_stamps.specs.Walks.{WalkBegins}
use Rattle.capture_text.proofs.{Reading.text_begins, SeenTexts.seen_begins}
use Rattle.capture_text.specs.CaptureText.{IsTextCapture, IsRowCause}
use Rattle.capture_text.specs.Reader.{IsSeenText, HasSeen, IsPlaceOf, TextReaderRefuses}
use Rattle.capture_text.specs.declared.{fault.BadText.BadText, reader.TextReader.TextReader}
use Rattle.line_stamps.specs.declared.{capture.CaptureByte.CaptureByte, seen.Seen.Seen}
use Rattle.std.proofs.Common.{ℕ, List, Result, Ok, Err, IfErr, OnOk, None}
use Rattle.capture_text.proofs.reader.TextReaderCaptureReader.finish.Goals as goal

right : {A : Type 0} (text : List ℕ) (items : List Seen) (reader : TextReader) (r : Result A BadText)
    → (s : HasSeen reader text items) → OnOk r (IsTextCapture text s.bytes)
    → OnOk r (IsSeenText text items)
right text items reader (Ok a) s o = record { bytes = s.bytes; right = o; items_are = s.items_are }
right text items reader (Err bad) s o = tt

refused : {A : Type 0} (text : List ℕ) (items : List Seen) (r : Result A BadText)
    → WalkBegins IsSeenText text items
    → IfErr r (λ bad. ((all : List CaptureByte) → IsTextCapture text all → ⊥)
    × IsPlaceOf bad text × IsRowCause text None bad.why)
    → IfErr r (λ bad. ((all : List Seen) → IsSeenText text all → ⊥) × TextReaderRefuses text items None bad)
refused text items (Ok a) begins o = tt
refused text items (Err bad) begins o = (
  λ all whole. o.0 whole.bytes whole.right,
  record { begins = begins; place = o.1; cause = o.2 },
)

pub returns-clause-right : goal.returns-clause-right
returns-clause-right c = λ text items s.
    right text items c.args.self c.finish.result s (c.finish.ensures.right text s.bytes s.stands)

pub returns-clause-refused : goal.returns-clause-refused
returns-clause-refused c = λ text items s.
    refused text items c.finish.result
    (seen_begins text s.bytes items
    (text_begins c.args.self.place text s.bytes s.stands.walks) s.items_are)
    (c.finish.ensures.refused text s.bytes s.stands)
