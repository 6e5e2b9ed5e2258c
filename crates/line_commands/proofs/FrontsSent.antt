-- What was sent whole was sent in part.
use Rattle.line_texts.proofs.Sending.{notes_all}
use Rattle.line_texts.specs.Sending.{LineAndNotes, SinkTexts, TextsHaveSent, HasSentFronts}
use Rattle.std.proofs.Common.{List, [], sym, append-nil}
use Rattle.yasir_ticks.specs.{CanonicalText.canonical_text, declared.tick.Tick.Tick}

pub fronts_of_all : (made : LineAndNotes) (before now : SinkTexts) (line : List Tick)
    → TextsHaveSent made before now line → HasSentFronts made before now line
fronts_of_all made before now line sent = record {
  are = sent.are;
  text = record {
    front = canonical_text (made.other_line line);
    rest = [];
    got = sent.text;
    all = sym (append-nil _);
  };
  note_text = record {
    front = made.note_lines line;
    rest = [];
    got = sent.note_text;
    all = sym (append-nil _);
  };
  notes_first = notes_all made line (canonical_text (made.other_line line)) [] sent.are
      (sym (append-nil _));
}
