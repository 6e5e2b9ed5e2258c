-- How what is made of a line goes on to the two sinks as ticks are taken, and how it ends.
use Rattle.line_texts.specs.{Adding.TextAdds, Adding.TextHasRoom, Sending.LineAndNotes}
use Rattle.line_texts.specs.Sending.{AnswersNoted}
use Rattle.line_texts.specs.Sending.{SinkTexts, Waiting, waiting, NotesFirst, SendsTexts, TextsHaveSent}
use Rattle.line_texts.specs.Sending.{HasSentFronts, WritesAllTexts, WritesPartOfTexts}
use Rattle.line_texts.specs.Texts.{Writing, waiting_in, texts_held, HandsOut}
use Rattle.line_texts.specs.{Writer.WriterHasWritten, Writer.unfilled}
use Rattle.line_texts.specs.declared.{line_writer.LineWriter.LineWriter, texts.Texts.Texts}
use Rattle.std.proofs.Common.{◌≡◌, ◌∙◌, ℕ, ◌+◌, ◌≤◌, length, arith, inl, inr, List, [], ◌++◌, Option, Result, Ok, Err, refl}
use Rattle.std.proofs.Common.{sym, ap, subst, append_assoc, append-nil}
use Rattle.std.specs.{Io.KnownBytes.append_known, Prelude.OnOk}
use Rattle.yasir_io.proofs.OutputLemmas.{append_known-nil, append_known-twice, prefix_of_more, more_waits}
use Rattle.yasir_io.specs.{Output.Buffered, TextBuffer.waiting_bytes}
use Rattle.yasir_io.specs.declared.{Failed.Failed, sink.Sink.Ghosts as Sink}
use Rattle.yasir_ticks.specs.{CanonicalText.canonical_text, Ticks.AreTicks, declared.tick.Tick.Tick}

-- ---- texts on their way

-- A piece is added after what waits.
pub buffered_more : (a b : Option (List ℕ)) (text waits piece all : List ℕ)
    → all ≡ waits ++ piece → Buffered a b waits text → Buffered a b all (text ++ piece)
buffered_more a b text waits piece all is goes =
    subst (λ left. Buffered a b left (text ++ piece)) (sym is) (more_waits a b waits text piece goes)

-- all that waited was written
pub drained : {T E : Type 0} (result : Result T E) (before now : Option (List ℕ))
    (waits left : List ℕ) → OnOk result (now ≡ append_known before waits)
    → OnOk result (left ≡ []) → OnOk result (Buffered before now left waits)
drained (Ok x) before now waits left all none = record {
  front = waits;
  got = all;
  all = sym (append-nil waits) ∙ ap (λ l. waits ++ l) (sym none);
}
drained (Err e) before now waits left all none = tt

pub room_drained : {T E : Type 0} (result : Result T E) (left : List ℕ) → OnOk result (left ≡ [])
    → OnOk result (length left + 66 ≤ 65536)
room_drained (Ok x) left none = omega (arith, ap length none)
room_drained (Err e) left none = tt

-- where nothing waits, there is room
pub room_handed : {T E : Type 0} (result : Result T E) (texts : Texts)
    → OnOk result (texts.ticks.items ≡ []) → OnOk result (waiting_bytes texts.notes ≡ [])
    → OnOk result (TextHasRoom texts)
room_handed (Ok x) texts ticks notes =
    record { ticks = omega (arith, ap length ticks); notes = omega (arith, ap length notes) }
room_handed (Err e) texts ticks notes = tt

pub always_on_ok : {T E P : Type 0} (r : Result T E) → P → OnOk r P
always_on_ok (Ok x) p = p
always_on_ok (Err e) p = tt

-- what a writer has completed begins the text of its ticks
pub answered-begins : (writer : LineWriter) (ticks : List Tick) (answered : List ℕ)
    → WriterHasWritten writer ticks answered
    → (rest : List ℕ) × (answered ++ rest ≡ canonical_text ticks)
answered-begins writer ticks answered has = (
  canonical_text (unfilled writer ++ []),
  has.text [] ∙ ap canonical_text (append-nil ticks),
)

-- ---- the notes go first

-- All notes went to the log.
pub notes_all : (made : LineAndNotes) (line : List Tick) (front rest : List ℕ)
    → AreTicks (made.other_line line)
    → canonical_text (made.other_line line) ≡ front ++ rest
    → NotesFirst made line front (made.note_lines line)
notes_all made line front rest are text = record {
  early = line;
  later = [];
  is = sym (append-nil line);
  are = are;
  rest = rest;
  text = text;
  more = [];
  notes = sym (append-nil (made.note_lines line));
}

-- ---- no tick yet

-- nothing is on its way yet
pub begins : (made : LineAndNotes) (writer : LineWriter) (ticks notes : List ℕ)
    (texts : SinkTexts) → made.other_line [] ≡ [] → made.note_lines [] ≡ []
    → WriterHasWritten writer [] [] → ticks ≡ [] → notes ≡ []
    → SendsTexts made (waiting writer ticks notes) texts texts []
begins made writer ticks notes texts no_tick no_note written no_ticks no_notes =
    let has : WriterHasWritten writer (made.other_line []) [] =
    subst (λ line. WriterHasWritten writer line []) (sym no_tick) written in record {
      text = record {
        answered = [];
        written = has;
        text = record { front = []; got = sym (append_known-nil texts.out); all = sym no_ticks };
      };
      note_text = record {
        front = [];
        got = sym (append_known-nil texts.log);
        all = no_note ∙ sym no_notes;
      };
      notes_first = record {
        early = [];
        later = [];
        is = refl;
        are = has.are;
        rest = canonical_text (made.other_line []);
        text = refl;
        more = [];
        notes = sym (ap (λ l. l ++ []) no_note);
      };
    }

-- ---- some more ticks

-- A run and a note that are added are on their way too.
pub sends_added : (made : LineAndNotes) (line run answer : List Tick) (note : List ℕ)
    → AnswersNoted made line run answer note
    → (old new : Waiting) (before now : SinkTexts) → SendsTexts made old before now line
    → TextAdds old new answer note → SendsTexts made new before now (line ++ run)
sends_added made line run answer note answers old new before now sends adds =
    let text = sends.text.text in
    let notes = sends.note_text in
    let first = sends.notes_first in
    record {
      text = record {
        answered = sends.text.answered ++ adds.line;
        written = subst (λ ticks. WriterHasWritten new.writer ticks (sends.text.answered ++ adds.line))
            (sym answers.ticks_are)
            (adds.taken (made.other_line line) sends.text.answered sends.text.written);
        text = record {
          front = text.front;
          got = text.got;
          all = ap (λ l. l ++ adds.line) text.all ∙ append_assoc text.front old.ticks adds.line
              ∙ ap (λ l. text.front ++ l) (sym adds.ticks);
        };
      };
      note_text = record {
        front = notes.front;
        got = notes.got;
        all = answers.note_is ∙ ap (λ l. l ++ note) notes.all
            ∙ append_assoc notes.front old.notes note
            ∙ ap (λ l. notes.front ++ l) (sym adds.notes);
      };
      notes_first = record {
        early = first.early;
        later = first.later ++ run;
        is = ap (λ l. l ++ run) first.is ∙ append_assoc first.early first.later run;
        are = first.are;
        rest = first.rest;
        text = first.text;
        more = first.more;
        notes = first.notes;
      };
    }

-- ---- what waits is written

-- each sink has got a front of what is on its way
pub fronts_sent : (made : LineAndNotes) (waits : Waiting) (before now : SinkTexts)
    (line : List Tick) → SendsTexts made waits before now line
    → HasSentFronts made before now line
fronts_sent made waits before now line sends =
    let rest = answered-begins waits.writer (made.other_line line) sends.text.answered
    sends.text.written in
    record {
      are = sends.text.written.are;
      text = record {
        front = sends.text.text.front;
        rest = waits.ticks ++ rest.0;
        got = sends.text.text.got;
        all = sym rest.1 ∙ ap (λ l. l ++ rest.0) sends.text.text.all
            ∙ append_assoc sends.text.text.front waits.ticks rest.0;
      };
      note_text = record {
        front = sends.note_text.front;
        rest = waits.notes;
        got = sends.note_text.got;
        all = sends.note_text.all;
      };
      notes_first = sends.notes_first;
    }

module _ (made : LineAndNotes) (line : List Tick) (waits : Waiting) (before s0 s1 : SinkTexts)
    (sends : SendsTexts made waits before s0 line) where
  abbrev text : Buffered before.out s0.out waits.ticks sends.text.answered
  text = sends.text.text

  abbrev notes : Buffered before.log s0.log waits.notes (made.note_lines line)
  notes = sends.note_text

  -- more of the ticks' text was written
  went_out : (more : List ℕ) → s1.out ≡ append_known s0.out more
      → s1.out ≡ append_known before.out (text.front ++ more)
  went_out more is = is ∙ ap (λ known. append_known known more) text.got
      ∙ append_known-twice before.out text.front more

  -- all notes were written
  logged : s1.log ≡ append_known s0.log waits.notes
      → s1.log ≡ append_known before.log (made.note_lines line)
  logged is = is ∙ ap (λ known. append_known known waits.notes) notes.got
      ∙ append_known-twice before.log notes.front waits.notes
      ∙ ap (append_known before.log) (sym notes.all)

  -- All that waited was written.
  all_sent : (writer : LineWriter) → writer ≡ waits.writer → WritesAllTexts waits s0 s1
      → SendsTexts made (waiting writer [] []) before s1 line
  all_sent writer same all =
      let front = text.front ++ waits.ticks in
      let rest = answered-begins waits.writer (made.other_line line) sends.text.answered
      sends.text.written in record {
        text = record {
          answered = sends.text.answered;
          written = subst (λ w. WriterHasWritten w (made.other_line line) sends.text.answered) (sym same)
              sends.text.written;
          text = record {
            front = front;
            got = went_out waits.ticks all.ticks;
            all = text.all ∙ sym (append-nil front);
          };
        };
        note_text = record {
          front = made.note_lines line;
          got = logged all.notes;
          all = sym (append-nil (made.note_lines line));
        };
        notes_first = notes_all made line front rest.0 sends.text.written.are
            (sym rest.1 ∙ ap (λ l. l ++ rest.0) text.all);
      }

  -- The last line of the ticks waits too.
  module _ (last : List ℕ)
      (whole : sends.text.answered ++ last ≡ canonical_text (made.other_line line)) where
    canonical_is : canonical_text (made.other_line line) ≡ text.front ++ (waits.ticks ++ last)
    canonical_is = sym whole ∙ ap (λ l. l ++ last) text.all
        ∙ append_assoc text.front waits.ticks last

    abbrev ends : Waiting
    ends = waiting waits.writer (waits.ticks ++ last) waits.notes

    pub ends_all : WritesAllTexts ends s0 s1 → TextsHaveSent made before s1 line
    ends_all all = record {
      are = sends.text.written.are;
      text = went_out (waits.ticks ++ last) all.ticks
          ∙ ap (append_known before.out) (sym canonical_is);
      note_text = logged all.notes;
    }

    pub ends_part : WritesPartOfTexts ends s0 s1 → HasSentFronts made before s1 line
    ends_part (inl stops) =
        let first = sends.notes_first in
        let more = stops.1 in record {
          are = sends.text.written.are;
          text = record {
            front = text.front;
            rest = waits.ticks ++ last;
            got = stops.0 ∙ text.got;
            all = canonical_is;
          };
          note_text = record {
            front = notes.front ++ more.front;
            rest = more.rest;
            got = more.got ∙ ap (λ known. append_known known more.front) notes.got
                ∙ append_known-twice before.log notes.front more.front;
            all = notes.all ∙ ap (λ l. notes.front ++ l) more.all
                ∙ sym (append_assoc notes.front more.front more.rest);
          };
          notes_first = record {
            early = first.early;
            later = first.later;
            is = first.is;
            are = first.are;
            rest = first.rest;
            text = first.text;
            more = first.more ++ more.front;
            notes = ap (λ l. l ++ more.front) first.notes
                ∙ append_assoc (made.note_lines first.early) first.more more.front;
          };
        }
    ends_part (inr stops) =
        let more = stops.0 in
        let all = canonical_is ∙ ap (λ l. text.front ++ l) more.all
        ∙ sym (append_assoc text.front more.front more.rest) in record {
          are = sends.text.written.are;
          text = record {
            front = text.front ++ more.front;
            rest = more.rest;
            got = went_out more.front more.got;
            all = all;
          };
          note_text = record {
            front = made.note_lines line;
            rest = [];
            got = logged stops.1;
            all = sym (append-nil (made.note_lines line));
          };
          notes_first = notes_all made line (text.front ++ more.front) more.rest
              sends.text.written.are all;
        }

module _ {O L : Type 0} (o : Sink O) (l : Sink L) (made : LineAndNotes) (line : List Tick)
    (old new : Writing O L) (before : SinkTexts)
    (sends : SendsTexts made (waiting_in old.texts) before (texts_held o l old) line) where
  -- what was handed out is still on its way, or has gone
  pub sends_handed : HandsOut o l old new (Ok tt)
      → SendsTexts made (waiting_in new.texts) before (texts_held o l new) line
  sends_handed hands =
      let writer = new.texts.writer in
      let held = texts_held o l new in
      subst (λ ticks. SendsTexts made (waiting writer ticks (waiting_bytes new.texts.notes)) before
      held line) (sym hands.no_ticks)
      (subst (λ notes. SendsTexts made (waiting writer [] notes) before held line)
      (sym hands.no_notes)
      (all_sent made line (waiting_in old.texts) before (texts_held o l old) held sends writer
      hands.writer hands.all))

  -- a write failed
  pub sent_handed : (e : Failed) → HandsOut o l old new (Err e)
      → HasSentFronts made before (texts_held o l new) line
  sent_handed e hands =
      let rest = answered-begins old.texts.writer (made.other_line line) sends.text.answered
      sends.text.written in
      ends_part made line (waiting_in old.texts) before (texts_held o l old) (texts_held o l new)
      sends rest.0 rest.1 (elim hands.part as (λ _. WritesPartOfTexts (waiting old.texts.writer
      (old.texts.ticks.items ++ rest.0) (waiting_bytes old.texts.notes)) (texts_held o l old)
      (texts_held o l new)) [
        | inl stops ↦ inl stops
        | inr stops ↦ inr (
          prefix_of_more (o.held old.out) (o.held new.out) old.texts.ticks.items rest.0 stops.0,
          stops.1,
        )
      ])
