-- The forms of captures: which files are captures, with which bytes of the line and events, and why
-- others are refused.
use Rattle.std.specs.Prelude.{ℕ, Bool, true, false, List, [], ◌∷◌, ◌++◌, Some, None, Result}
use Rattle.line_stamps.specs.Fields.{AreFieldsSoFar}
use Rattle.line_stamps.specs.Walks.{WalkBegins, WalkBeginsNone}
use Rattle.capture_pcap.specs.Pcap.{IsCapture}
use Rattle.capture_pcap.specs.Reader.{PcapReaderRefuses}
use Rattle.capture_text.specs.Logic2.{logic2_row, logic2_name}
use Rattle.capture_text.specs.RowReader.{RowReaderRefuses}
use Rattle.capture_text.specs.Rows.{IsExport, AreRowsSoFar}
use Rattle.capture_text.specs.Sigrok.{trace_row, trace_name}
use Rattle.capture_text.specs.declared.row_fault.RowFault.{RowFault}
use Rattle.capture_text.specs.declared.row.Row.{Row}
use Rattle.capture_text.specs.declared.row.Stage.{Stage}
use Rattle.capture_text.specs.Reader.{IsSeenText, TextReaderRefuses}
use Rattle.line_stamps.specs.declared.seen.Seen.{Seen}
use Rattle.line_capture.specs.declared.bad_capture.BadCapture.{BadCapture}
use Rattle.line_capture.specs.declared.bad_capture.BadCapture.TheVariants.{Text, Pcap, Rows, ByteError}
use Rattle.line_capture.specs.declared.words.TakeForm.{TakeForm}
use Rattle.line_capture.specs.declared.words.TakeForm.TheVariants as take_forms

-- A form of captures.
pub record Format : Type 1 where
  -- the file is a capture with these items, in this order
  pub is : List ℕ → List Seen → Type 0
  -- after these bytes of a file, with these items, this byte is refused like this
  pub refuses : List ℕ → List Seen → ℕ → BadCapture → Type 0
  -- a file with these items that ends here is refused like this
  pub lacks : List ℕ → List Seen → BadCapture → Type 0
  -- these bytes are right so far, with these items, whether or not a capture begins with them; and
  -- each capture that does has these items first
  pub begins : List ℕ → List Seen → Type 0
  -- whether an error of a byte follows the byte, and isn't in its place
  pub error_follows : Bool

-- Holds if this file isn't a capture.
abbrev pub IsNone : (List ℕ → List Seen → Type 0) → List ℕ → Type 0
IsNone is file = (all : List Seen) → is file all → ⊥

-- Holds if no text capture begins with these bytes and this one, and the refusal is right.
abbrev pub RefusesCaptureText : List ℕ → List Seen → ℕ → BadCapture → Type 0
RefusesCaptureText file items b (Text bad) =
    WalkBeginsNone IsSeenText (file ++ b ∷ []) × TextReaderRefuses file items (Some b) bad
RefusesCaptureText file items b (Pcap bad) = ⊥
RefusesCaptureText file items b (Rows bad) = ⊥
RefusesCaptureText file items b (ByteError offset) = ⊥

-- Holds if the file isn't a text capture, and the refusal of its end is right.
abbrev pub LacksText : List ℕ → List Seen → BadCapture → Type 0
LacksText file items (Text bad) = IsNone IsSeenText file × TextReaderRefuses file items None bad
LacksText file items (Pcap bad) = ⊥
LacksText file items (Rows bad) = ⊥
LacksText file items (ByteError offset) = ⊥

-- text captures
abbrev pub text_format : Format
text_format = record {
  is = IsSeenText;
  refuses = RefusesCaptureText;
  lacks = LacksText;
  begins = WalkBegins IsSeenText;
  error_follows = false;
}

-- Holds if no pcap or pcapng file begins with these bytes and this one, and the refusal of the
-- field that this byte ends is right.
abbrev pub RefusesPcap : List ℕ → List Seen → ℕ → BadCapture → Type 0
RefusesPcap file items b (Pcap bad) =
    WalkBeginsNone IsCapture (file ++ b ∷ []) × PcapReaderRefuses file items (Some b) bad
RefusesPcap file items b (Text bad) = ⊥
RefusesPcap file items b (Rows bad) = ⊥
RefusesPcap file items b (ByteError offset) = ⊥

-- Holds if the file isn't a pcap or pcapng file, and the refusal of its end is right.
abbrev pub LacksPcap : List ℕ → List Seen → BadCapture → Type 0
LacksPcap file items (Pcap bad) = IsNone IsCapture file × PcapReaderRefuses file items None bad
LacksPcap file items (Text bad) = ⊥
LacksPcap file items (Rows bad) = ⊥
LacksPcap file items (ByteError offset) = ⊥

-- pcap and pcapng files of a serial line
abbrev pub pcap_format : Format
pcap_format = record {
  is = IsCapture;
  refuses = RefusesPcap;
  lacks = LacksPcap;
  begins = AreFieldsSoFar IsCapture;
  error_follows = false;
}

module _ (row_at : Stage → List ℕ → Result Row RowFault) (name_of : List ℕ → List ℕ) where
  -- Holds if no export of this form begins with these bytes and this one, and the refusal is right.
  abbrev pub RefusesRows : List ℕ → List Seen → ℕ → BadCapture → Type 0
  RefusesRows file items b (Rows bad) = WalkBeginsNone (IsExport row_at name_of) (file ++ b ∷ [])
      × RowReaderRefuses row_at name_of file items (Some b) bad
  RefusesRows file items b (Text bad) = ⊥
  RefusesRows file items b (Pcap bad) = ⊥
  RefusesRows file items b (ByteError offset) = ⊥

  -- Holds if the file isn't an export of this form, and the refusal of its end is right.
  abbrev pub LacksRows : List ℕ → List Seen → BadCapture → Type 0
  LacksRows file items (Rows bad) =
      IsNone (IsExport row_at name_of) file × RowReaderRefuses row_at name_of file items None bad
  LacksRows file items (Text bad) = ⊥
  LacksRows file items (Pcap bad) = ⊥
  LacksRows file items (ByteError offset) = ⊥

  -- the exports of a logic analyser in rows of this form
  abbrev pub rows_format : Bool → Format
  rows_format follows = record {
    is = IsExport row_at name_of;
    refuses = RefusesRows;
    lacks = LacksRows;
    begins = AreRowsSoFar row_at name_of;
    error_follows = follows;
  }

-- the format of a form that is taken
abbrev pub format_of : TakeForm → Format
format_of take_forms.Pcap = pcap_format
format_of take_forms.Text = text_format
format_of take_forms.Logic2 = rows_format logic2_row logic2_name false
format_of take_forms.Sigrok = rows_format trace_row trace_name true
