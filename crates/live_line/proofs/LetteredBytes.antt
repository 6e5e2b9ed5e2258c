-- Bytes of a text that are put after a stream, each line behind its letter.
use Rattle.std.proofs.Common.{◌≡◌, ◌≢◌, ◌∙◌, ◌==◌, ℕ, zero, suc, List, [], ◌∷◌, ◌++◌, Bool, true, false}
use Rattle.std.proofs.Common.{refl, ap, sym, subst, arith, append-nil, append_assoc, eqb-true, eq-eqb, cond}
use Rattle.yasir_ticks.proofs.Lines.{IsFree, lines_of-more}
use Rattle.yasir_ticks.specs.TickText.{Lines, lines_of}
use Rattle.live_line.proofs.Texts.{begun, begun_last, gone_on, gone_on_last, gone_on_other, ended}
use Rattle.live_line.proofs.Texts.{ended_last, ended_other}
use Rattle.live_line.specs.WayText.{letter_of, text_on, AreEnded, HasLettered}
use Rattle.live_line.specs.declared.lettered.Lettering.{Lettering}
use Rattle.live_line.specs.declared.ways.Way.{Way}

abbrev pub lettering_of : Way → Bool → Lettering
lettering_of way begins = record { way = way; begins = begins }

-- the same, behind the letter of a line
record Inside (way : Way) (stream text bytes : List ℕ) : Type 0 where
  own : text_on way (stream ++ bytes) ≡ text_on way stream ++ text
  others : (other : Way) → other ≢ way → text_on other (stream ++ bytes) ≡ text_on other stream
  within : (rest : List ℕ) × ((lines_of (stream ++ bytes)).last ≡ letter_of way ∷ rest)

abbrev pub lettered_byte : Way → Bool → ℕ → List ℕ
lettered_byte way begins b = cond begins (letter_of way ∷ b ∷ []) (b ∷ [])

module _ (way : Way) (stream : List ℕ) where
  pub none_put : AreEnded stream → HasLettered (lettering_of way true) way stream [] []
  none_put closed = record {
    is_way = refl;
    own = ap (text_on way) (append-nil stream) ∙ sym (append-nil (text_on way stream));
    others = λ other apart. ap (text_on other) (append-nil stream);
    closed = λ e. ap (λ l. (lines_of l).last) (append-nil stream) ∙ closed;
    within = λ e. cc;
    unended = λ e. cc;
  }

  module _ (text bytes : List ℕ) where
    joined : (x : List ℕ) → (stream ++ bytes) ++ x ≡ stream ++ (bytes ++ x)
    joined x = append_assoc stream bytes x

    -- the letter, before a line
    letter_put : HasLettered (lettering_of way true) way stream text bytes
        → Inside way stream text (bytes ++ letter_of way ∷ [])
    letter_put so = record {
      own = ap (text_on way) (sym (joined (letter_of way ∷ [])))
          ∙ (begun (stream ++ bytes) way way (so.closed refl) ∙ so.own);
      others = λ other apart. ap (text_on other) (sym (joined (letter_of way ∷ [])))
          ∙ (begun (stream ++ bytes) way other (so.closed refl) ∙ so.others other apart);
      within = (
        [],
        ap (λ l. (lines_of l).last) (sym (joined (letter_of way ∷ [])))
            ∙ begun_last (stream ++ bytes) way (so.closed refl),
      );
    }

    lone_free : (b : ℕ) → b ≢ 10 → IsFree (b ∷ [])
    lone_free b apart zero h = apart
    lone_free b apart (suc k) h = absurd (omega arith)

    is_longer : (xs : List ℕ) (b : ℕ) → xs ++ b ∷ [] ≢ []
    is_longer [] b = λ e. cc
    is_longer (x ∷ xs) b = λ e. cc

    -- a byte of the line
    byte_put : (b : ℕ) (begins : Bool) → begins ≡ (b == 10) → Inside way stream text bytes
        → HasLettered (lettering_of way begins) way stream (text ++ b ∷ []) (bytes ++ b ∷ [])
    byte_put b true is so =
        let feed : 10 ≡ b = sym (eqb-true b 10 (sym is)) in
        let at = so.within in
        subst (λ n. HasLettered (lettering_of way true) way stream (text ++ n ∷ []) (bytes ++ n ∷ []))
        feed (record {
          is_way = refl;
          own = ap (text_on way) (sym (joined (10 ∷ [])))
              ∙ (ended (stream ++ bytes) way at.0 at.1 ∙ (ap (λ l. l ++ 10 ∷ []) so.own
              ∙ append_assoc (text_on way stream) text (10 ∷ [])));
          others = λ other apart. ap (text_on other) (sym (joined (10 ∷ [])))
              ∙ (ended_other (stream ++ bytes) way at.0 at.1 other apart ∙ so.others other apart);
          closed = λ e. ap (λ l. (lines_of l).last) (sym (joined (10 ∷ [])))
              ∙ ended_last (stream ++ bytes) way at.0 at.1;
          within = λ e. cc;
          unended = λ e. cc;
        })
    byte_put b false is so =
        let apart : b ≢ 10 = λ e. cc (is, eq-eqb b 10 e) in
        let at = so.within in
        let free : IsFree (b ∷ []) = lone_free b apart in
        record {
          is_way = refl;
          own = ap (text_on way) (sym (joined (b ∷ [])))
              ∙ (gone_on (stream ++ bytes) way at.0 at.1 (b ∷ []) free ∙ (ap (λ l. l ++ b ∷ []) so.own
              ∙ append_assoc (text_on way stream) text (b ∷ [])));
          others = λ other other_is. ap (text_on other) (sym (joined (b ∷ [])))
              ∙ (gone_on_other (stream ++ bytes) way at.0 at.1 (b ∷ []) other free other_is
              ∙ so.others other other_is);
          closed = λ e. cc;
          within = λ e. (
            at.0 ++ b ∷ [],
            ap (λ l. (lines_of l).last) (sym (joined (b ∷ [])))
                ∙ gone_on_last (stream ++ bytes) way at.0 at.1 (b ∷ []) free,
          );
          unended = λ e. λ none. is_longer (lines_of text).last b
              (sym (ap (λ (l : Lines). l.last) (lines_of-more text b apart)) ∙ none);
        }

  -- A byte, with the letter before it if a line begins with it.
  pub next_put : (text bytes : List ℕ) (b : ℕ) (begins next : Bool) → next ≡ (b == 10)
      → HasLettered (lettering_of way begins) way stream text bytes
      → HasLettered (lettering_of way next) way stream (text ++ b ∷ [])
      (bytes ++ lettered_byte way begins b)
  next_put text bytes b true next is so =
      subst (HasLettered (lettering_of way next) way stream (text ++ b ∷ []))
      (append_assoc bytes (letter_of way ∷ []) (b ∷ []))
      (byte_put text (bytes ++ letter_of way ∷ []) b next is (letter_put text bytes so))
  next_put text bytes b false next is so =
      byte_put text bytes b next is (record { own = so.own; others = so.others; within = so.within refl })
