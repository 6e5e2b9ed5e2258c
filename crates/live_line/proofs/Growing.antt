-- The text of a way never loses a byte as a stream goes on.
use Rattle.std.proofs.Common.{◌≡◌, ◌≢◌, ◌∙◌, ◌==◌, ℕ, List, [], ◌∷◌, ◌++◌, Bool, true, false}
use Rattle.std.proofs.Common.{refl, ap, sym, append-nil, append_assoc, eqb-true, cond}
use Rattle.std.proofs.lemmas.Grind.{flat_map-append}
use Rattle.std.proofs.lemmas.List.{append_cancel_left}
use Rattle.std.specs.List.{flat_map}
use Rattle.yasir_ticks.proofs.Lines.{lines_of-lf, lines_of-more}
use Rattle.yasir_ticks.specs.TickText.{lines_of}
use Rattle.live_line.proofs.Texts.{by_lines}
use Rattle.live_line.specs.WayText.{letter_of, own_part, own_line, text_on}
use Rattle.live_line.specs.declared.ways.Way.{Way}

-- A list with another one put behind it.
pub record GoesOn (front whole : List ℕ) : Type 0 where
  pub more : List ℕ
  pub is : whole ≡ front ++ more

goes_then : (a b c : List ℕ) → GoesOn a b → GoesOn b c → GoesOn a c
goes_then a b c first then = record {
  more = first.more ++ then.more;
  is = then.is ∙ (ap (λ l. l ++ then.more) first.is ∙ append_assoc a first.more then.more);
}

line_more : (way : Way) (line : List ℕ) → GoesOn (own_part way line) (own_line way line)
line_more way [] = record { more = []; is = refl }
line_more way (c ∷ line) = own (c == letter_of way)
  where
    own : (is : Bool) → GoesOn (cond is line []) (cond is (line ++ 10 ∷ []) [])
    own true = record { more = 10 ∷ []; is = refl }
    own false = record { more = []; is = refl }

part_more : (way : Way) (line : List ℕ) (b : ℕ)
    → GoesOn (own_part way line) (own_part way (line ++ b ∷ []))
part_more way [] b = own (b == letter_of way)
  where
    own : (is : Bool) → GoesOn [] (cond is [] [])
    own true = record { more = []; is = refl }
    own false = record { more = []; is = refl }
part_more way (c ∷ line) b = own (c == letter_of way)
  where
    own : (is : Bool) → GoesOn (cond is line []) (cond is (line ++ b ∷ []) [])
    own true = record { more = b ∷ []; is = refl }
    own false = record { more = []; is = refl }

module _ (way : Way) (stream : List ℕ) where
  abbrev before : List ℕ
  before = flat_map (own_line way) (lines_of stream).ended

  abbrev last : List ℕ
  last = (lines_of stream).last

  more_behind : (x y : List ℕ) → GoesOn x y → GoesOn (before ++ x) (before ++ y)
  more_behind x y goes = record {
    more = goes.more;
    is = ap (λ l. before ++ l) goes.is ∙ sym (append_assoc before x goes.more);
  }

  -- one more byte
  grows_by : (b : ℕ) (feed : Bool) → feed ≡ (b == 10)
      → GoesOn (text_on way stream) (text_on way (stream ++ b ∷ []))
  grows_by b true is =
      let goes : GoesOn (before ++ own_part way last) (before ++ own_line way last) =
      more_behind (own_part way last) (own_line way last) (line_more way last) in
      record {
        more = goes.more;
        is = ap (λ n. text_on way (stream ++ n ∷ [])) (sym (sym (eqb-true b 10 (sym is))))
            ∙ (ap (by_lines way) (lines_of-lf stream)
            ∙ (append-nil (flat_map (own_line way) ((lines_of stream).ended ++ last ∷ []))
            ∙ (flat_map-append (own_line way) (lines_of stream).ended (last ∷ [])
            ∙ (ap (λ l. before ++ l) (append-nil (own_line way last)) ∙ goes.is))));
      }
  grows_by b false is =
      let apart : b ≢ 10 = λ e. cc (is, e) in
      let goes : GoesOn (before ++ own_part way last) (before ++ own_part way (last ++ b ∷ [])) =
      more_behind (own_part way last) (own_part way (last ++ b ∷ [])) (part_more way last b) in
      record {
        more = goes.more;
        is = ap (by_lines way) (lines_of-more stream b apart) ∙ goes.is;
      }

pub grows : (way : Way) (stream bytes : List ℕ)
    → GoesOn (text_on way stream) (text_on way (stream ++ bytes))
grows way stream [] = record {
  more = [];
  is = ap (text_on way) (append-nil stream) ∙ sym (append-nil (text_on way stream));
}
grows way stream (b ∷ bytes) =
    let joined : (stream ++ b ∷ []) ++ bytes ≡ stream ++ (b ∷ bytes) = append_assoc stream (b ∷ []) bytes in
    let goes : GoesOn (text_on way stream) (text_on way ((stream ++ b ∷ []) ++ bytes)) =
    goes_then (text_on way stream) (text_on way (stream ++ b ∷ []))
    (text_on way ((stream ++ b ∷ []) ++ bytes))
    (grows_by way stream b (b == 10) refl) (grows way (stream ++ b ∷ []) bytes) in
    record { more = goes.more; is = ap (text_on way) (sym joined) ∙ goes.is }

-- If bytes add a text to that of a way, a front of them adds a front of it.
pub record Splits (way : Way) (stream front text : List ℕ) : Type 0 where
  pub early : List ℕ
  pub later : List ℕ
  pub is : text ≡ early ++ later
  pub own : text_on way (stream ++ front) ≡ text_on way stream ++ early

pub front_adds : (way : Way) (stream front rest text : List ℕ)
    → text_on way (stream ++ (front ++ rest)) ≡ text_on way stream ++ text
    → Splits way stream front text
front_adds way stream front rest text whole =
    let first : GoesOn (text_on way stream) (text_on way (stream ++ front)) = grows way stream front in
    let then : GoesOn (text_on way (stream ++ front)) (text_on way ((stream ++ front) ++ rest)) =
    grows way (stream ++ front) rest in
    let all : text_on way stream ++ (first.more ++ then.more) ≡ text_on way stream ++ text =
    sym (append_assoc (text_on way stream) first.more then.more)
    ∙ (ap (λ l. l ++ then.more) (sym first.is) ∙ (sym then.is
    ∙ (ap (text_on way) (append_assoc stream front rest) ∙ whole))) in
    record {
      early = first.more;
      later = then.more;
      is = sym (append_cancel_left (text_on way stream) (first.more ++ then.more) text all);
      own = first.is;
    }

nil_front : (x y : List ℕ) → [] ≡ x ++ y → x ≡ []
nil_front [] y is = refl
nil_front (b ∷ x) y is = absurd (cc is)

pub front_keeps : (way : Way) (stream front rest : List ℕ)
    → text_on way (stream ++ (front ++ rest)) ≡ text_on way stream
    → text_on way (stream ++ front) ≡ text_on way stream
front_keeps way stream front rest whole =
    let splits : Splits way stream front [] = front_adds way stream front rest []
    (whole ∙ sym (append-nil (text_on way stream))) in
    splits.own ∙ (ap (λ l. text_on way stream ++ l) (nil_front splits.early splits.later splits.is)
    ∙ append-nil (text_on way stream))
