-- Several bytes of a text, one after the other.
use Rattle.{hex.specs.Hex.hex_digit_value, memchr.specs.Find.IsFirstByte, memchr.specs.Find.is_byte}
use Rattle.std.proofs.Common.{◌≡◌, ◌≢◌, ◌∙◌, ℕ, ◌+◌, ◌-◌, ◌*◌, ◌<◌, ◌≤◌, List, [], ◌∷◌, ◌++◌}
use Rattle.std.proofs.Common.{length, take, drop, get_or, unwrap_or, Option, Some, None, is_some}
use Rattle.std.proofs.Common.{refl, ap, sym, subst, arith, append_assoc, append-nil, length-append}
use Rattle.std.proofs.{Common.length-drop, Math.Seq.take-add}
use Rattle.std.proofs.lemmas.Bool.{eq-eqb, eqb-true}
use Rattle.std.proofs.lemmas.List.{take_more, get_or-take, length-take, take_all}
use Rattle.yasir_ticks.proofs.{Feeding.at_more, Lines.IsFree, Lines.lines_of-more}
use Rattle.yasir_ticks.proofs.{Lines.lines_of-free, Steps.accepts_high, Steps.accepts_low}
use Rattle.yasir_ticks.{proofs.Steps.hex_not_lf, specs.Reader.IsAt, specs.Reader.StandsFor}
use Rattle.yasir_ticks.specs.{ReaderStep.Accepts, Slices.GoesOn, TickText.ended_items}
use Rattle.yasir_ticks.specs.declared.place.Place.TheVariants.{Comment, Pairs, HalfPair}
use Rattle.yasir_ticks.specs.declared.reader.TickReader.{TickReader}

-- If a reader goes on by some bytes, and then by some more, it goes on by all of them.
pub goes_on_then : (a b c : TickReader) (x y : List ℕ) → GoesOn a x b → GoesOn b y c
    → GoesOn a (x ++ y) c
goes_on_then a b c x y f g = record {
  stands = λ marks text s. subst (StandsFor c marks) (append_assoc text x y)
      (g.stands marks (text ++ x) (f.stands marks text s));
  quiet = λ marks text s. ap ended_items (sym (append_assoc text x y))
      ∙ g.quiet marks (text ++ x) (f.stands marks text s) ∙ f.quiet marks text s;
  lines = omega (arith, f.lines, g.lines, length-append x y);
}

-- A reader that goes on by the first n bytes of a slice, and then by the next one, goes on by the
-- first n + 1.
pub goes_on_byte : (a b c : TickReader) (bytes : List ℕ) (n : ℕ) → n < length bytes
    → GoesOn a (take n bytes) b → GoesOn b (get_or bytes n 0 ∷ []) c
    → GoesOn a (take (n + 1) bytes) c
goes_on_byte a b c bytes n h f g = rw (take_more bytes n 0 h)
    (goes_on_then a b c (take n bytes) (get_or bytes n 0 ∷ []) f g)

-- A text followed by n bytes of a slice, and by the next one, is followed by n + 1 bytes of it.
pub text_more : (text bytes : List ℕ) (n : ℕ) → n < length bytes
    → (text ++ take n bytes) ++ get_or bytes n 0 ∷ [] ≡ text ++ take (n + 1) bytes
text_more text bytes n h = append_assoc text (take n bytes) (get_or bytes n 0 ∷ [])
    ∙ ap (λ x. text ++ x) (sym (take_more bytes n 0 h))

-- A reader goes on by a byte that ends no line with ticks or a mark.
pub goes_on_fed : (old new : TickReader) (b : ℕ)
    → ((marks : ℕ) (text : List ℕ) → StandsFor old marks text
    → StandsFor new marks (text ++ b ∷ []))
    → ((marks : ℕ) (text : List ℕ) → StandsFor old marks text
    → ended_items (text ++ b ∷ []) ≡ ended_items text ++ []) → new.line ≤ old.line + 1
    → GoesOn old (b ∷ []) new
goes_on_fed old new b stands run lines = record {
  stands = stands;
  quiet = λ marks text s. run marks text s ∙ append-nil (ended_items text);
  lines = omega arith;
}

-- The bytes before the LF that a search found have no LF, nor have all bytes if it found none.
pub free_front : (bytes : List ℕ) (room : ℕ) (found : Option ℕ) → room ≤ length bytes
    → IsFirstByte (is_byte 10) (take room bytes) found
    → (unwrap_or found room ≤ room) × ((k : ℕ) → k < length (take (unwrap_or found room) bytes)
    → get_or (take (unwrap_or found room) bytes) k 0 ≢ 10)
free_front bytes room None fits none = (
  omega arith,
  λ k h e. none k (omega arith) h (eq-eqb _ 10 e),
)
free_front bytes room (Some place) fits first =
    let inside : place < room = omega (arith, first.0.high, length-take room bytes) in (
      omega arith,
      λ k h e.
          let before : k < place = omega (arith, length-take place bytes) in
          let within : k < room = omega arith in
          first.0.before k (omega arith) before
          (eq-eqb _ 10 (get_or-take room bytes k 0 within
          ∙ sym (get_or-take place bytes k 0 before) ∙ e)),
    )

-- The place that a search for an LF found is within the room, and has an LF.
pub feed_found : (bytes : List ℕ) (room place : ℕ) → room ≤ length bytes
    → IsFirstByte (is_byte 10) (take room bytes) (Some place)
    → (place < room) × (get_or bytes place 0 ≡ 10)
feed_found bytes room place fits first =
    let inside : place < room = omega (arith, first.0.high, length-take room bytes) in (
      inside,
      sym (get_or-take room bytes place 0 inside) ∙ eqb-true _ 10 first.1,
    )
