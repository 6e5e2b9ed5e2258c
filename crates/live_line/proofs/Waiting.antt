-- What one way makes of its ticks, as it waits and as it is handed on.
use Rattle.line_commands.proofs.Texts.{text_one}
use Rattle.line_commands.specs.History.{History}
use Rattle.line_commands.specs.LiveText.{IsTextOf}
use Rattle.line_commands.specs.Sent.{WritesCause}
use Rattle.line_commands.specs.declared.port.Port.{Ghosts as Port}
use Rattle.line_texts.proofs.Added.{answers_both}
use Rattle.line_texts.specs.Adding.{TextAdds, Waits, ClosesText}
use Rattle.line_texts.specs.Sending.{LineAndNotes, AnswersNoted, Waiting}
use Rattle.line_texts.specs.Writer.{WriterHasWritten}
use Rattle.link_format.specs.Setup.{Setup}
use Rattle.live_line.specs.BothWays.{HandedBoth}
use Rattle.live_line.specs.SentBoth.{HandsOnWay}
use Rattle.live_line.specs.WayBoxes.{AddsTick}
use Rattle.live_line.specs.WayLines.{HasTakenOn, PortKept, WayOutside, HandedOn, HandedFronts}
use Rattle.live_line.specs.WayLines.{waits_in, settled_in, way_in}
use Rattle.live_line.specs.declared.way_box.WayBox.{Ghosts as WayBox}
use Rattle.live_line.specs.declared.way_lines.WayLines.{WayLines}
use Rattle.live_line.specs.declared.ways.Way.{Way}
use Rattle.std.proofs.Common.{◌≡◌, ◌∙◌, ℕ, List, [], ◌∷◌, ◌++◌, true, false, Ok, Err}
use Rattle.std.proofs.Common.{refl, ap, sym, subst, append_assoc, append-nil}
use Rattle.yasir_io.specs.declared.Failed.{Failed}
use Rattle.yasir_io.specs.declared.disk.SlotDisk.{Ghosts as SlotDisk}
use Rattle.yasir_ticks.specs.declared.tick.Tick.{Tick}

-- what waits, with ticks and a note that were added
waits_more : (old new : Waiting) (answer more : List Tick) (note next : List ℕ)
    → Waits old answer note → TextAdds old new more next → Waits new (answer ++ more) (note ++ next)
waits_more old new answer more note next waits adds = record {
  written = subst (WriterHasWritten new.writer (answer ++ more)) (sym adds.ticks)
      (adds.taken answer old.ticks waits.written);
  notes_are = adds.notes ∙ ap (λ l. l ++ next) waits.notes_are;
}

module _ {X : Type 0} (x : WayBox X) where
  -- one more tick was taken
  pub taken_more : (old new : WayLines X) (setup : Setup) (early line : List Tick) (t : Tick)
      → settled_in new ≡ settled_in old → HasTakenOn x old setup early line
      → AddsTick x.made x.stands (way_in new) (waits_in old) (waits_in new) setup line t
      → HasTakenOn x new setup early (line ++ t ∷ [])
  taken_more old new setup early line t same has adds = record {
    stood = adds.stood;
    settled = same ∙ has.settled;
    later = has.later ++ t ∷ [];
    is = ap (λ l. l ++ t ∷ []) has.is ∙ append_assoc early has.later (t ∷ []);
    answer = has.answer ++ adds.answer;
    note = has.note ++ adds.note;
    noted = answers_both (x.made setup) early has.later (t ∷ []) has.answer adds.answer has.note
        adds.note has.noted
        (subst (λ l. AnswersNoted (x.made setup) l (t ∷ []) adds.answer adds.note) has.is adds.noted);
    waits = waits_more (waits_in old) (waits_in new) has.answer adds.answer has.note adds.note
        has.waits adds.adds;
  }

  -- nothing was taken, and nothing waits
  pub taken_none : (at : WayLines X) (setup : Setup) (line : List Tick) → x.stands (way_in at) setup line
      → settled_in at ≡ x.number_for setup line → Waits (waits_in at) [] []
      → HasTakenOn x at setup line line
  taken_none at setup line stood settled waits = record {
    stood = stood;
    settled = settled;
    later = [];
    is = sym (append-nil line);
    answer = [];
    note = [];
    noted = record {
      ticks_are = ap (x.made setup).other_line (append-nil line)
          ∙ sym (append-nil ((x.made setup).other_line line));
      note_is = ap (x.made setup).note_lines (append-nil line)
          ∙ sym (append-nil ((x.made setup).note_lines line));
    };
    waits = waits;
  }

module _ {P : Type 0} (p : Port P) where
  pub port_same : (port : P) → PortKept p port port false
  port_same port = record { left_same = refl; read_same = refl; same = λ e to. refl; failed = λ e. cc }

  pub port_wrote : (old new : P) → WritesCause p {T = Unit {0}} {E = Failed} old new (Ok tt)
      → PortKept p old new false
  port_wrote old new cause = record {
    left_same = cause.left_same;
    read_same = cause.read_same;
    same = λ e. cause.same;
    failed = λ e. cc;
  }

  pub port_failed : (old new : P) (e : Failed)
      → WritesCause p {T = Unit {0}} {E = Failed} old new (Err e) → PortKept p old new true
  port_failed old new e cause = record {
    left_same = cause.left_same;
    read_same = cause.read_same;
    same = λ is. cc;
    failed = λ is. cause.failed;
  }

module _ {X P D : Type 0} (x : WayBox X) (p : Port P) (d : SlotDisk D) (way : Way)
    (old : WayOutside X P D)
    (closed : WayLines X) (notes text : List ℕ) (closes : ClosesText (waits_in old.lines) (waits_in closed))
    (notes_are : notes ≡ (waits_in closed).notes) (text_is : text ≡ (waits_in closed).ticks) where
  -- the notes and the text that wait are those of the ticks that wait
  both_wait : (answer : List Tick) (note : List ℕ) → Waits (waits_in old.lines) answer note
      → (notes ≡ note) × IsTextOf text answer
  both_wait answer note waits = (
    notes_are ∙ (closes.notes ∙ waits.notes_are),
    subst (λ l. IsTextOf l answer) (sym (text_is ∙ closes.whole answer note waits)) (text_one answer),
  )

  as_made : (made : Way → LineAndNotes) (setup : Setup) (early : Way → List Tick) (later answer : List Tick)
      (note : List ℕ) → made way ≡ x.made setup → AnswersNoted (x.made setup) (early way) later answer note
      → notes ≡ note → AnswersNoted (made way) (early way) later answer notes
  as_made made setup early later answer note is noted same =
      subst (λ m. AnswersNoted m (early way) later answer notes) (sym is)
      (subst (λ l. AnswersNoted (x.made setup) (early way) later answer l) (sym same) noted)

  module _ (new : WayOutside X P D) where
    pub handed_all : ((answer : List Tick) → IsTextOf text answer
        → HandsOnWay p old.port new.port way answer notes (Ok tt))
        → ((setup : Setup) (line : List Tick) → x.stands (way_in old.lines) setup line
        → x.stands (way_in new.lines) setup line)
        → settled_in new.lines ≡ x.number (way_in old.lines) → Waits (waits_in new.lines) [] []
        → ((value : X) (setup : Setup) (line : List Tick) → x.stands value setup line
        → x.number value ≡ x.number_for setup line)
        → (made : Way → LineAndNotes) (start : History) (read : List ℕ) (early : Way → List Tick)
        (setup : Setup) (line : List Tick) → made way ≡ x.made setup
        → HandedBoth made start (p.history old.port) read early
        → HasTakenOn x old.lines setup (early way) line
        → HandedOn x p d way new made start read early setup line
    handed_all hands stays settled waits number_is made start read early setup line is handed has =
        let both = both_wait has.answer has.note has.waits in
        record {
          later = has.later;
          is = has.is;
          handed = (hands has.answer both.1).ok made start read early has.later
              (as_made made setup early has.later has.answer has.note is has.noted both.0) handed;
          taken = taken_none x new.lines setup line (stays setup line has.stood)
              (settled ∙ number_is (way_in old.lines) setup line has.stood) waits;
        }

    pub handed_fronts : (e : Failed) → ((answer : List Tick) → IsTextOf text answer
        → HandsOnWay p old.port new.port way answer notes (Err e))
        → settled_in new.lines ≡ x.number (way_in old.lines)
        → ((value : X) (setup : Setup) (line : List Tick) → x.stands value setup line
        → x.number value ≡ x.number_for setup line)
        → (made : Way → LineAndNotes) (start : History) (read : List ℕ) (early : Way → List Tick)
        (setup : Setup) (line : List Tick) → made way ≡ x.made setup
        → HandedBoth made start (p.history old.port) read early
        → HasTakenOn x old.lines setup (early way) line
        → HandedFronts x p d way new made start read early setup line
    handed_fronts e hands settled number_is made start read early setup line is handed has =
        let both = both_wait has.answer has.note has.waits in
        record {
          later = has.later;
          is = has.is;
          fronts = (hands has.answer both.1).err made start read early has.later
              (as_made made setup early has.later has.answer has.note is has.noted both.0) handed;
          settled = settled ∙ number_is (way_in old.lines) setup line has.stood;
        }
