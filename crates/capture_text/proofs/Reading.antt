-- The reader reads text captures exactly.
use Rattle.line_stamps.proofs.WalkLaws.{walk-cons, walk-more, reads_begins, reads_none, reads_open}
use Rattle.line_stamps.proofs.WalkLaws.{Apart, apart_none, apart_heads, PartsFrom}
use Rattle.line_stamps.specs.Walks.{walk, ReadsFormat, GoesOnFrom, WalkBegins, WalkBeginsNone}
use Rattle.capture_text.proofs.Places.{At, At.start, At.in_comment, At.whole, At.after_point}
use Rattle.capture_text.proofs.Places.At.{fraction, after_blank, pairs, half, after_return}
use Rattle.capture_text.proofs.Reached.{reached, reached_end, reached_cause, reached_open}
use Rattle.capture_text.proofs.{Reached.reached_closed, Spelled.text_walk, Spelled.fits_so}
use Rattle.capture_text.specs.CaptureText.{IsTextCapture, capture_byte, IsRowCause}
use Rattle.capture_text.specs.TextStep.{text_step_at, text_may_end, end_fault_at}
use Rattle.capture_text.specs.declared.{fault.TextFault.TextFault, place.Place.Place}
use Rattle.capture_text.specs.declared.place.Place.TheVariants.{Start, Comment, Point, Fraction}
use Rattle.capture_text.specs.declared.place.Place.TheVariants.{Blank, Pairs, Returned}
use Rattle.line_stamps.specs.declared.capture.CaptureByte.{CaptureByte}
use Rattle.std.proofs.Common.{◌≡◌, ℕ, ◌+◌, ◌*◌, ◌<◌, ◌^◌, Bool, true, List, [], ◌∷◌, ◌++◌, Option, Some}
use Rattle.std.proofs.Common.{None, Ok, Err, refl, ap, sym, arith}
use Rattle.std.specs.Option.{option_to_list}

-- From this place, a text can still be continued to right texts, in two ways that have no byte of
-- the capture in common at their beginning.
abbrev GoesOn : Place → Type 0
GoesOn place = PartsFrom text_step_at Start text_may_end IsTextCapture place

-- one way to go on
abbrev OneWay : Place → Type 0
OneWay place = GoesOnFrom text_step_at Start text_may_end IsTextCapture place

at_once : (place : Place) → text_may_end place ≡ true → GoesOn place
unfolding walk
at_once place e =
    let here : OneWay place = record { more = []; others = []; last = place; walks = refl; end = e } in
    record { one = here; other = here; apart = apart_none [] }

unlike : (n : ℕ) → n + 0 ≡ n + 1 → ⊥
unlike n e = omega (arith, e)

module _ (place : Place) (time : ℕ) (first : Bool) (n : ℕ) where
  -- Holds if these bytes of a text lead on over a pair of digits, which is a byte of this value.
  abbrev Gives : ℕ → List ℕ → Type 0
  Gives value more = walk text_step_at place more
      ≡ Ok (Pairs time, capture_byte time first value ∷ [])

  one_way : (value : ℕ) (more : List ℕ) → Gives value more → OneWay place
  one_way value more walks = record {
    more = more;
    others = capture_byte time first value ∷ [];
    last = Pairs time;
    walks = walks;
    end = refl;
  }

  -- A text goes on in two ways if its next pair of digits may end in 0 or in 1.
  two_ways : (zero one : List ℕ) → Gives (n + 0) zero → Gives (n + 1) one → GoesOn place
  unfolding one_way
  two_ways zero one with_zero with_one = record {
    one = one_way (n + 0) zero with_zero;
    other = one_way (n + 1) one with_one;
    apart = apart_heads (capture_byte time first (n + 0)) (capture_byte time first (n + 1)) [] []
        (λ e. unlike n (ap (λ c. c.byte) e));
  }

goes_on : (place : Place) (line : List ℕ) (items : List CaptureByte) → At place line items
    → GoesOn place
unfolding walk text_step_at
goes_on place line items start = at_once Start refl
goes_on place line items (in_comment _ c) = at_once Comment refl
goes_on place line items (whole _ time w) =
    two_ways place time true 0 (32 ∷ 48 ∷ 48 ∷ []) (32 ∷ 48 ∷ 49 ∷ []) refl refl
goes_on place line items (after_point front time w) =
    two_ways place time true 0 (48 ∷ 32 ∷ 48 ∷ 48 ∷ []) (48 ∷ 32 ∷ 48 ∷ 49 ∷ [])
    (then 0 (32 ∷ 48 ∷ 48 ∷ []) refl) (then 1 (32 ∷ 48 ∷ 49 ∷ []) refl)
  where
    fraction_of : text_step_at (Point time) 48 ≡ Ok (Fraction time 10000000, None)
    fraction_of = let same : time + 0 ≡ time = omega arith in rw (same, fits_so time w.fits) refl

    then : (value : ℕ) (more : List ℕ)
        → walk text_step_at (Fraction time 10000000) more
        ≡ Ok (Pairs time, capture_byte time true value ∷ [])
        → Gives (Point time) time true 0 value (48 ∷ more)
    then value more e = walk-cons text_step_at (Point time) (Fraction time 10000000) (Pairs time) 48
        more None (capture_byte time true value ∷ []) fraction_of e
goes_on place line items (fraction _ time counts f) =
    two_ways place time true 0 (32 ∷ 48 ∷ 48 ∷ []) (32 ∷ 48 ∷ 49 ∷ []) refl refl
goes_on place line items (after_blank seconds blank time t apart) =
    two_ways place time true 0 (48 ∷ 48 ∷ []) (48 ∷ 49 ∷ []) refl refl
goes_on place line items (pairs _ time _ r) = at_once (Pairs time) refl
goes_on place line items (half _ time first high _ h) =
    two_ways place time first (high * 16) (48 ∷ []) (49 ∷ []) refl refl
goes_on place line items (after_return content _ c) = at_once Returned refl

pub reads_text : ReadsFormat text_step_at Start text_may_end IsTextCapture
reads_text = record {
  sound = λ bytes place items e m.
      reached_end place bytes items (reached place bytes items e) m;
  complete = λ bytes items t.
      let walks = text_walk bytes items t in (walks.place, walks.walks, walks.end);
}

-- ---- what a reader says of a text, if it came to a place over it

module _ (place : Place) (text : List ℕ) (items : List CaptureByte)
    (walks : walk text_step_at Start text ≡ Ok (place, items)) where
  pub text_more : (b : ℕ) (next : Place) (item : Option CaptureByte)
      → Ok (next, item) ≡ text_step_at place b
      → walk text_step_at Start (text ++ b ∷ []) ≡ Ok (next, items ++ option_to_list item)
  text_more b next item e = walk-more text_step_at Start place next text items b item walks (sym e)

  pub text_begins : WalkBegins IsTextCapture text items
  text_begins =
      let r = reached place text items walks in
      reads_begins text_step_at Start text_may_end IsTextCapture reads_text text place items walks
      (goes_on place r.line r.these r.at)

  pub text_none : (b : ℕ) (why : TextFault) → Err why ≡ text_step_at place b
      → WalkBeginsNone IsTextCapture (text ++ b ∷ [])
  text_none b why e =
      reads_none text_step_at Start text_may_end IsTextCapture reads_text text place items b why walks (sym e)

  pub text_cause : (b : ℕ) (why : TextFault) → Err why ≡ text_step_at place b
      → IsRowCause text (Some b) why
  text_cause b why e =
      reached_cause place text items b why (reached place text items walks) (sym e)

  pub text_right : None ≡ end_fault_at place → IsTextCapture text items
  text_right e =
      let r = reached place text items walks in
      reached_end place text items r (reached_closed place text items r (sym e))

  pub text_wrong : (why : TextFault) → Some why ≡ end_fault_at place
      → ((all : List CaptureByte) → IsTextCapture text all → ⊥) × IsRowCause text None why
  text_wrong why e =
      let both = reached_open place text items why (reached place text items walks) (sym e) in (
        reads_open text_step_at Start text_may_end IsTextCapture reads_text text place items walks both.0,
        both.1,
      )
