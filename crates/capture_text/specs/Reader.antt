-- What a reader of a text capture represents.
use Rattle.std.specs.Prelude.{◌≡◌, ℕ, ◌+◌, List, length, map, Option, Some, None, Ok}
use Rattle.line_stamps.specs.declared.capture.CaptureByte.{CaptureByte}
use Rattle.line_stamps.specs.Walks.{walk, WalkBegins}
use Rattle.line_stamps.specs.declared.seen.Seen.{Seen}
use Rattle.line_stamps.specs.declared.seen.Seen.TheVariants.{Byte}
use Rattle.capture_text.specs.CaptureText.{lines_ended, IsTextCapture, IsRowCause}
use Rattle.capture_text.specs.TextStep.{text_step_at}
use Rattle.capture_text.specs.declared.fault.BadText.{BadText}
use Rattle.capture_text.specs.declared.place.Place.TheVariants.{Start}
use Rattle.capture_text.specs.declared.reader.TextReader.{TextReader}

abbrev pub text_bytes_taken : TextReader → ℕ
text_bytes_taken reader = reader.taken

-- The reader has taken this text and refused no byte of it, and these are the bytes of the capture
-- so far.
pub record TextReaderStandsFor (reader : TextReader) (text : List ℕ) (items : List CaptureByte) : Type 0 where
  pub walks : walk text_step_at Start text ≡ Ok (reader.place, items)
  pub open_yet : reader.refused ≡ None
  pub counted : reader.taken ≡ length text
  pub lines : reader.ended ≡ lines_ended text

-- The reader has refused its text with this refusal, and returns it from then on.
abbrev pub TextReaderHasRefused : TextReader → BadText → Type 0
TextReaderHasRefused reader bad = reader.refused ≡ Some bad

-- A refusal gives the place after this text, and its line.
pub record IsPlaceOf (bad : BadText) (text : List ℕ) : Type 0 where
  pub offset : bad.offset ≡ length text
  pub line : bad.line ≡ lines_ended text + 1

-- A text capture, and what is seen in it: its bytes, and no events.
pub record IsSeenText (text : List ℕ) (items : List Seen) : Type 0 where
  pub bytes : List CaptureByte
  pub right : IsTextCapture text bytes
  pub items_are : items ≡ map Byte bytes

-- The reader has taken this text and refused no byte of it, and this is what was seen so far.
pub record HasSeen (reader : TextReader) (text : List ℕ) (items : List Seen) : Type 0 where
  pub bytes : List CaptureByte
  pub stands : TextReaderStandsFor reader text bytes
  pub items_are : items ≡ map Byte bytes

-- A byte, or the end of the text, is refused after this text, with this place and cause. A text
-- capture begins with the text, with these items.
pub record TextReaderRefuses (text : List ℕ) (items : List Seen) (next : Option ℕ) (bad : BadText) : Type 0 where
  pub begins : WalkBegins IsSeenText text items
  pub place : IsPlaceOf bad text
  pub cause : IsRowCause text next bad.why
