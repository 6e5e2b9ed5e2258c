-- A file that is refused isn't a capture, and a capture has no other items than its own.
use Rattle.line_stamps.specs.{Fields.before_field, Walks.walk}
use Rattle.capture_pcap.proofs.Reading.{reads_pcap}
use Rattle.capture_pcap.specs.{Pcap.IsCapture, PcapStep.step_at as pcap_step}
use Rattle.capture_pcap.specs.declared.stage.Stage.TheVariants.{Magic}
use Rattle.capture_text.{proofs.RowLaws.reads_rows, specs.Logic2.logic2_row}
use Rattle.capture_text.specs.{Logic2.logic2_name, Rows.IsExport, Rows.first_state}
use Rattle.capture_text.specs.{Rows.rows_step_at, Sigrok.trace_row, Sigrok.trace_name}
use Rattle.capture_text.specs.declared.row_fault.RowFault.{RowFault}
use Rattle.capture_text.specs.declared.row.Row.{Row}
use Rattle.capture_text.specs.declared.row.Stage.{Stage}
use Rattle.capture_text.{proofs.Reading.reads_text, specs.CaptureText.IsTextCapture}
use Rattle.capture_text.specs.{Reader.IsSeenText, TextStep.text_step_at}
use Rattle.capture_text.specs.declared.place.Place.TheVariants.{Start}
use Rattle.line_capture.specs.Formats.{Format, text_format, pcap_format, format_of, RefusesRows}
use Rattle.line_capture.specs.Formats.{LacksRows, rows_format}
use Rattle.line_capture.specs.declared.bad_capture.BadCapture.{BadCapture, TheVariants.Text}
use Rattle.line_capture.specs.declared.bad_capture.BadCapture.TheVariants.{Pcap, Rows, ByteError}
use Rattle.line_capture.specs.declared.words.TakeForm.{TakeForm}
use Rattle.line_stamps.specs.declared.capture.CaptureByte.{CaptureByte}
use Rattle.line_stamps.specs.declared.seen.Seen.{Seen, TheVariants.Byte}
use Rattle.std.proofs.Common.{◌≡◌, ◌∙◌, ℕ, List, [], ◌∷◌, ◌++◌, Result, Ok, Err, sym, ap, subst}
use Rattle.std.proofs.Common.{append_assoc, map, Bool, true, false}
use Rattle.line_capture.specs.declared.words.TakeForm.TheVariants as take_forms

pub record IsSound (format : Format) : Type 0 where
  pub refused : (front : List ℕ) (items : List Seen) (byte : ℕ) (bad : BadCapture) (more : List ℕ)
      (all : List Seen) → format.refuses front items byte bad → format.is (front ++ byte ∷ more) all
      → ⊥
  pub lacking : (file : List ℕ) (items : List Seen) (bad : BadCapture) (all : List Seen)
      → format.lacks file items bad → format.is file all → ⊥
  pub first : (file : List ℕ) (items : List Seen) (more : List ℕ) (all : List Seen)
      → format.begins file items → format.is (file ++ more) all
      → (others : List Seen) × (all ≡ items ++ others)
  pub alike : (file : List ℕ) (one other : List Seen) → format.is file one → format.is file other
      → one ≡ other

-- a byte in front of what follows it
one-more : (front : List ℕ) (byte : ℕ) (more : List ℕ)
    → front ++ byte ∷ more ≡ (front ++ byte ∷ []) ++ more
one-more front byte more = sym (append_assoc front (byte ∷ []) more)

abbrev items_in : {P I F : Type 0} → List I → Result (P × List I) F → List I
items_in none (Ok came) = came.1
items_in none (Err why) = none

-- Two walks over the same bytes have the same items.
walks_alike : {P I F : Type 0} (x : Result (P × List I) F) (p q : P) (a b : List I)
    → x ≡ Ok (p, a) → x ≡ Ok (q, b) → a ≡ b
walks_alike x p q a b first second = ap (items_in a) (sym first) ∙ ap (items_in a) second

text_alike : (text : List ℕ) (a b : List CaptureByte) → IsTextCapture text a → IsTextCapture text b
    → a ≡ b
text_alike text a b one other =
    let first = reads_text.complete text a one in
    let second = reads_text.complete text b other in
    walks_alike (walk text_step_at Start text) first.0 second.0 a b first.1 second.1

pcap_alike : (file : List ℕ) (a b : List Seen) → IsCapture file a → IsCapture file b → a ≡ b
pcap_alike file a b one other =
    let first = reads_pcap.complete file a one in
    let second = reads_pcap.complete file b other in
    walks_alike (walk pcap_step (before_field Magic) file) first.0 second.0 a b first.1 second.1

text_refused : (front : List ℕ) (items : List Seen) (byte : ℕ) (bad : BadCapture) (more : List ℕ)
    (all : List Seen) → text_format.refuses front items byte bad
    → IsSeenText (front ++ byte ∷ more) all → ⊥
text_refused front items byte (Text bad) more all refuses is =
    refuses.0 more all (subst (λ l. IsSeenText l all) (one-more front byte more) is)
text_refused front items byte bad more all refuses is = absurd refuses

text_lacking : (file : List ℕ) (items : List Seen) (bad : BadCapture) (all : List Seen)
    → text_format.lacks file items bad → IsSeenText file all → ⊥
text_lacking file items (Text bad) all lacks is = lacks.0 all is
text_lacking file items bad all lacks is = absurd lacks

pcap_refused : (front : List ℕ) (items : List Seen) (byte : ℕ) (bad : BadCapture) (more : List ℕ)
    (all : List Seen) → pcap_format.refuses front items byte bad
    → IsCapture (front ++ byte ∷ more) all → ⊥
pcap_refused front items byte (Pcap bad) more all refuses is =
    refuses.0 more all (subst (λ l. IsCapture l all) (one-more front byte more) is)
pcap_refused front items byte bad more all refuses is = absurd refuses

pcap_lacking : (file : List ℕ) (items : List Seen) (bad : BadCapture) (all : List Seen)
    → pcap_format.lacks file items bad → IsCapture file all → ⊥
pcap_lacking file items (Pcap bad) all lacks is = lacks.0 all is
pcap_lacking file items bad all lacks is = absurd lacks

module _ (row_at : Stage → List ℕ → Result Row RowFault) (name_of : List ℕ → List ℕ) where
  rows_alike : (file : List ℕ) (a b : List Seen) → IsExport row_at name_of file a
      → IsExport row_at name_of file b → a ≡ b
  rows_alike file a b one other =
      let reads = reads_rows row_at name_of in
      let first = reads.complete file a one in
      let second = reads.complete file b other in
      walks_alike (walk (rows_step_at row_at name_of) (first_state, []) file) first.0 second.0 a b
      first.1 second.1

  rows_refused : (front : List ℕ) (items : List Seen) (byte : ℕ) (bad : BadCapture) (more : List ℕ)
      (all : List Seen) → RefusesRows row_at name_of front items byte bad
      → IsExport row_at name_of (front ++ byte ∷ more) all → ⊥
  rows_refused front items byte (Rows bad) more all refuses is =
      refuses.0 more all
      (subst (λ l. IsExport row_at name_of l all) (one-more front byte more) is)
  rows_refused front items byte bad more all refuses is = absurd refuses

  rows_lacking : (file : List ℕ) (items : List Seen) (bad : BadCapture) (all : List Seen)
      → LacksRows row_at name_of file items bad → IsExport row_at name_of file all → ⊥
  rows_lacking file items (Rows bad) all lacks is = lacks.0 all is
  rows_lacking file items bad all lacks is = absurd lacks

  sound_rows : (follows : Bool) → IsSound (rows_format row_at name_of follows)
  sound_rows follows = record {
    refused = rows_refused;
    lacking = rows_lacking;
    first = λ file items more all begins is. begins.each more all is;
    alike = rows_alike;
  }

sound_text : IsSound text_format
sound_text = record {
  refused = text_refused;
  lacking = text_lacking;
  first = λ file items more all begins is. begins.each more all is;
  alike = λ file one other a b. a.items_are
      ∙ ap (map Byte) (text_alike file a.bytes b.bytes a.right b.right) ∙ sym b.items_are;
}

sound_pcap : IsSound pcap_format
sound_pcap = record {
  refused = pcap_refused;
  lacking = pcap_lacking;
  first = λ file items more all begins is. begins.each more all is;
  alike = pcap_alike;
}

pub sound_form : (form : TakeForm) → IsSound (format_of form)
sound_form take_forms.Pcap = sound_pcap
sound_form take_forms.Text = sound_text
sound_form take_forms.Logic2 = sound_rows logic2_row logic2_name false
sound_form take_forms.Sigrok = sound_rows trace_row trace_name true
