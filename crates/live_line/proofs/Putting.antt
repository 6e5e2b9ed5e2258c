-- A text that is written in pieces, each line with the letter of its way before it.
use Rattle.line_commands.proofs.{Histories.told_twice, Histories.told_none, SentBytes.cause_then}
use Rattle.line_commands.specs.History.{History, told_then, Event.writes, Event.flushes}
use Rattle.line_commands.specs.LiveText.{IsTextOf}
use Rattle.line_commands.specs.Sent.{WritesCause, SendsTicks}
use Rattle.line_commands.specs.declared.port.Output.{Output, TheVariants.Out, TheVariants.Log}
use Rattle.line_commands.specs.declared.port.Port.{Ghosts as Port}
use Rattle.live_line.proofs.Ended.{ended_text}
use Rattle.live_line.proofs.Growing.{Splits, front_adds, front_keeps}
use Rattle.live_line.proofs.SentBoth.{NotedBoth, noted_sent, noted_cut, text_sent, text_cut}
use Rattle.live_line.specs.BothWays.{HandedBoth}
use Rattle.live_line.specs.SentBoth.{AddsText, AddsFront, joined, sent_pieces, PutsText}
use Rattle.live_line.specs.SentBoth.{SendsWay, HandsOnWay}
use Rattle.live_line.specs.WayText.{text_on, AreEnded, HasLettered}
use Rattle.live_line.specs.declared.lettered.Lettering.{Lettering}
use Rattle.live_line.specs.declared.ways.Way.{Way}
use Rattle.line_texts.specs.Sending.{LineAndNotes, AnswersNoted}
use Rattle.std.proofs.Common.{◌≡◌, ◌∙◌, ℕ, List, [], ◌∷◌, ◌++◌, true, false, Bool, Result, Ok}
use Rattle.std.proofs.Common.{Err, refl, ap, sym, subst, append-nil, append_assoc, take, drop, length, ◌-◌}
use Rattle.std.proofs.lemmas.Grind.{flat_map-append}
use Rattle.std.proofs.lemmas.List.{take_rest, take-append-drop}
use Rattle.yasir_io.specs.declared.Failed.{Failed}
use Rattle.yasir_ticks.specs.{declared.tick.Tick.Tick}

-- A front of the bytes of a lettering adds a front of its text.
pub adds_front : (lettering : Lettering) (way : Way) (stream text front rest : List ℕ)
    → HasLettered lettering way stream text (front ++ rest) → AddsFront way stream text front
adds_front lettering way stream text front rest has =
    let splits : Splits way stream front text = front_adds way stream front rest text has.own in
    record {
      front = splits.early;
      rest = splits.later;
      is = splits.is;
      adds = record {
        own = splits.own;
        others = λ other apart. front_keeps other stream front rest (has.others other apart);
      };
    }

pub adds_all : (lettering : Lettering) (way : Way) (stream text bytes : List ℕ)
    → HasLettered lettering way stream text bytes → AddsText way stream text bytes
adds_all lettering way stream text bytes has = record { own = has.own; others = has.others }

front_longer : (way : Way) (stream text more bytes : List ℕ) → AddsFront way stream text bytes
    → AddsFront way stream (text ++ more) bytes
front_longer way stream text more bytes front = record {
  front = front.front;
  rest = front.rest ++ more;
  is = ap (λ l. l ++ more) front.is ∙ append_assoc front.front front.rest more;
  adds = front.adds;
}

-- a list, cut in two
pub cut_at : (left : List ℕ) (n : ℕ)
    → left ≡ take n left ++ take (length left - n) (drop n left)
cut_at left n = sym (ap (λ l. take n left ++ l) (take_rest left n) ∙ take-append-drop n left)

-- If each line of a text has ended, so has each line of the stream behind it.
pub ended_behind : (lettering : Lettering) (way : Way) (stream text bytes : List ℕ)
    → HasLettered lettering way stream text bytes → AreEnded text → AreEnded (stream ++ bytes)
ended_behind lettering way stream text bytes has ended = by lettering.begins refl
  where
    by : (begins : Bool) → lettering.begins ≡ begins → AreEnded (stream ++ bytes)
    by true is = has.closed is
    by false is = absurd (has.unended is ended)

module _ {P : Type 0} (p : Port P) (way : Way) (to : Output) (text : List ℕ) where
  -- The first bytes of the text were written, and these are left.
  pub record HasPut (old now : P) (lettering : Lettering) (left : List ℕ) : Type 0 where
    pub done : List ℕ
    pub is : text ≡ done ++ left
    pub puts : PutsText p old now lettering way to done
    pub cause : WritesCause p {T = Unit {0}} {E = Failed} old now (Ok tt)

  pub put_none : (old : P) (lettering : Lettering)
      → ((stream : List ℕ) → AreEnded stream → HasLettered lettering way stream [] [])
      → HasPut old old lettering text
  put_none old lettering begun = record {
    done = [];
    is = refl;
    puts = record {
      pieces = [];
      told = told_none (p.history old);
      lettered = begun;
    };
    cause = record { left_same = refl; read_same = refl; same = λ other. refl; failed = tt };
  }

  abbrev Puts : Lettering → Lettering → List ℕ → List ℕ → Type 0
  Puts lettering then piece bytes = (other : Way) (stream before written : List ℕ)
      → HasLettered lettering other stream before written
      → HasLettered then other stream (before ++ piece) (written ++ bytes)

  module _ (old now next : P) (lettering then : Lettering) (left piece more bytes : List ℕ)
      (has : HasPut old now lettering left) (left_is : left ≡ piece ++ more)
      (put : Puts lettering then piece bytes) where
    abbrev done_is : text ≡ (has.done ++ piece) ++ more
    done_is = has.is ∙ (ap (λ l. has.done ++ l) left_is ∙ sym (append_assoc has.done piece more))

    pub put_more : SendsTicks p {T = Unit {0}} {E = Failed} now next to bytes (Ok tt)
        → HasPut old next then more
    put_more sends =
        let pieces : List (List ℕ) = has.puts.pieces in
        let all : joined (pieces ++ bytes ∷ []) ≡ joined pieces ++ bytes =
        flat_map-append (λ l. l) pieces (bytes ∷ []) ∙ ap (λ l. joined pieces ++ l) (append-nil bytes) in
        record {
          done = has.done ++ piece;
          is = done_is;
          puts = record {
            pieces = pieces ++ bytes ∷ [];
            told = sends.ok ∙ (ap (λ h. told_then h (writes to bytes ∷ flushes to true ∷ [])) has.puts.told
                ∙ (told_twice (p.history old) (sent_pieces to pieces) (writes to bytes ∷ flushes to true ∷ [])
                ∙ ap (told_then (p.history old)) (sym (flat_map-append
                (λ l. writes to l ∷ flushes to true ∷ []) pieces (bytes ∷ [])))));
            lettered = λ stream ended. subst (HasLettered then way stream (has.done ++ piece)) (sym all)
                (put way stream has.done (joined pieces) (has.puts.lettered stream ended));
          };
          cause = cause_then p old now next (Ok tt) has.cause sends.cause;
        }

    pub put_broken : (e : Failed) → SendsTicks p {T = Unit {0}} now next to bytes (Err e)
        → SendsWay p old next way to text (Err e)
    put_broken e sends =
        let pieces : List (List ℕ) = has.puts.pieces in
        let cut : List ℕ = sends.err.front in
        record {
          ok = tt;
          err = record {
            pieces = pieces;
            cut = cut;
            more = sends.err.more;
            tail = sends.err.tail;
            told = sends.err.told ∙ (ap (λ h. told_then h (writes to cut ∷ sends.err.more)) has.puts.told
                ∙ told_twice (p.history old) (sent_pieces to pieces) (writes to cut ∷ sends.err.more));
            adds = λ stream ended. subst (λ l. AddsFront way stream l (joined pieces ++ cut))
                (sym done_is) (front_longer way stream (has.done ++ piece) more (joined pieces ++ cut)
                (adds_front then way stream (has.done ++ piece) (joined pieces ++ cut) sends.err.rest
                (subst (HasLettered then way stream (has.done ++ piece))
                (ap (λ l. joined pieces ++ l) sends.err.is
                ∙ sym (append_assoc (joined pieces) cut sends.err.rest))
                (put way stream has.done (joined pieces) (has.puts.lettered stream ended)))));
          };
          cause = cause_then p old now next (Err e) has.cause sends.cause;
        }

  pub put_all : (old now : P) (lettering : Lettering) (left : List ℕ) → left ≡ []
      → HasPut old now lettering left → SendsWay p old now way to text (Ok tt)
  put_all old now lettering left none has =
      let all : text ≡ has.done = has.is ∙ (ap (λ l. has.done ++ l) none ∙ append-nil has.done) in
      record {
        ok = record {
          lettering = lettering;
          puts = subst (PutsText p old now lettering way to) (sym all) has.puts;
        };
        err = tt;
        cause = has.cause;
      }

-- ---- notes, and then a text

module _ {P : Type 0} (p : Port P) (old mid new : P) (way : Way) (notes text : List ℕ)
    (answer : List Tick) (is : IsTextOf text answer) where
  abbrev Answers : (Way → LineAndNotes) → (Way → List Tick) → List Tick → Type 0
  Answers made lines run = AnswersNoted (made way) (lines way) run answer notes

  none_added : (stream : List ℕ) → AddsText way stream [] []
  none_added stream = record {
    own = ap (text_on way) (append-nil stream) ∙ sym (append-nil (text_on way stream));
    others = λ other apart. ap (text_on other) (append-nil stream);
  }

  pub hands_notes : (e : Failed) → SendsWay p old mid way Log notes (Err e)
      → HandsOnWay p old mid way answer notes (Err e)
  hands_notes e sends = record {
    ok = tt;
    err = λ made start read lines run answers handed.
        let broken = sends.err.adds _ handed.log_ended in
        noted_cut made start read lines way run answer notes text answers is (p.history old)
        (p.history mid) handed sends.err.pieces broken.front broken.rest sends.err.cut sends.err.more
        broken.is broken.adds (none_added _) sends.err.tail sends.err.told;
    cause = sends.cause;
  }

  module _ (ended : AreEnded notes) (first : SendsWay p old mid way Log notes (Ok tt)) where
    noted : (made : Way → LineAndNotes) (start : History) (read : List ℕ) (lines : Way → List Tick)
        (run : List Tick) (answers : Answers made lines run)
        → HandedBoth made start (p.history old) read lines
        → NotedBoth made start read lines way run answer notes text answers is (p.history mid)
    noted made start read lines run answers handed =
        let has = first.ok.puts.lettered _ handed.log_ended in
        noted_sent made start read lines way run answer notes text answers is (p.history old)
        (p.history mid) handed first.ok.puts.pieces
        (adds_all first.ok.lettering way _ notes (joined first.ok.puts.pieces) has)
        (ended_behind first.ok.lettering way _ notes (joined first.ok.puts.pieces) has ended)
        first.ok.puts.told

    pub hands_text : (result : Result (Unit {0}) Failed) → SendsWay p mid new way Out text result
        → HandsOnWay p old new way answer notes result
    hands_text (Ok x) sends = record {
      ok = λ made start read lines run answers handed.
          let at = noted made start read lines run answers handed in
          let has = sends.ok.puts.lettered _ at.out_ended in
          text_sent made start read lines way run answer notes text answers is (p.history mid)
          (p.history new) at sends.ok.puts.pieces
          (adds_all sends.ok.lettering way _ text (joined sends.ok.puts.pieces) has)
          (ended_behind sends.ok.lettering way _ text (joined sends.ok.puts.pieces) has
          (ended_text text answer is))
          sends.ok.puts.told;
      err = tt;
      cause = cause_then p old mid new (Ok x) first.cause sends.cause;
    }
    hands_text (Err e) sends = record {
      ok = tt;
      err = λ made start read lines run answers handed.
          let at = noted made start read lines run answers handed in
          let broken = sends.err.adds _ at.out_ended in
          text_cut made start read lines way run answer notes text answers is (p.history mid)
          (p.history new) at sends.err.pieces broken.front broken.rest sends.err.cut sends.err.more
          broken.is broken.adds sends.err.tail sends.err.told;
      cause = cause_then p old mid new (Err e) first.cause sends.cause;
    }
