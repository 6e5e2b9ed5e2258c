-- The places to which the lines of a right text bring its reader.
use Rattle.line_stamps.proofs.WalkLaws.{walk-join, walk-more, walk-cons}
use Rattle.{line_stamps.specs.Walks.walk, capture_text.proofs.LineFacts.counts_after}
use Rattle.capture_text.specs.CaptureText.{point, is_blank, with_point, IsRowTime, ArePairs}
use Rattle.capture_text.specs.CaptureText.{fraction_value, row_nanoseconds, stays_in_line, IsContent}
use Rattle.capture_text.specs.CaptureText.{IsLine, AreLines, IsTextCapture, IsRowRecord, recorded}
use Rattle.capture_text.specs.CaptureText.{capture_byte, AreLines.none, AreLines.more}
use Rattle.capture_text.specs.CaptureText.IsContent.{nothing, comment, stamped}
use Rattle.capture_text.specs.CaptureText.IsLine.{plain, returned}
use Rattle.capture_text.specs.TextStep.{text_step_at, text_may_end, fitting}
use Rattle.capture_text.specs.declared.place.Place.{Place, TheVariants.Start}
use Rattle.capture_text.specs.declared.place.Place.TheVariants.{Comment, Whole, Point, Fraction}
use Rattle.capture_text.specs.declared.place.Place.TheVariants.{Blank, Pairs, Half, Returned}
use Rattle.hex.specs.Hex.{hex_digit_value}
use Rattle.{line_stamps.specs.declared.capture.CaptureByte.CaptureByte, std.proofs.Common.◌≡◌}
use Rattle.std.proofs.Common.{◌∙◌, ℕ, ◌+◌, ◌*◌, ◌-◌, ◌/◌, ◌<◌, ◌^◌, ◌==◌, Bool, true, false, List}
use Rattle.std.proofs.Common.{[], ◌∷◌, ◌++◌, length, map, Some, None, Ok, refl, ap, sym, subst}
use Rattle.std.proofs.{Common.arith, Common.append-nil, Common.lt-ltb, lemmas.Bool.and_parts}
use Rattle.{std.specs.List.list_all, yasir_ticks.proofs.Digits.number_after-grows}
use Rattle.yasir_ticks.specs.TickText.{is_decimal_digit, number_after}

-- ---- times

pub fits_so : (time : ℕ) → time < 2 ^ 64 → fitting time ≡ Some time
fits_so time h = rw (lt-ltb time (2 ^ 64) h) refl

whole_walk : (n : ℕ) (digits : List ℕ) → list_all is_decimal_digit digits ≡ true
    → 1000000000 * number_after n digits < 2 ^ 64
    → walk text_step_at (Whole (1000000000 * n)) digits
    ≡ Ok (Whole (1000000000 * number_after n digits), [])
unfolding walk text_step_at
whole_walk n [] h fits = refl
whole_walk n (d ∷ digits) h fits =
    let parts = and_parts (is_decimal_digit d) (list_all is_decimal_digit digits) h in
    let grows = number_after-grows (10 * n + (d - 48)) digits in
    let next : 10 * (1000000000 * n) + (d - 48) * 1000000000 ≡ 1000000000 * (10 * n + (d - 48))
    = omega arith in
    let small : 1000000000 * (10 * n + (d - 48)) < 2 ^ 64 = omega (arith, grows, fits) in
    walk-cons text_step_at (Whole (1000000000 * n)) (Whole (1000000000 * (10 * n + (d - 48))))
    (Whole (1000000000 * number_after n (d ∷ digits))) d digits None []
    (rw (parts.0, next, fits_so (1000000000 * (10 * n + (d - 48))) small) refl)
    (whole_walk (10 * n + (d - 48)) digits parts.1 fits)

fraction_walk : (time counts : ℕ) (digits : List ℕ) → list_all is_decimal_digit digits ≡ true
    → time + fraction_value counts digits < 2 ^ 64
    → walk text_step_at (Fraction time counts) digits
    ≡ Ok (Fraction (time + fraction_value counts digits) (counts_after counts digits), [])
unfolding walk text_step_at
fraction_walk time counts [] h fits =
    ap (λ t. Ok (Fraction t counts, [])) (omega arith)
fraction_walk time counts (d ∷ digits) h fits =
    let parts = and_parts (is_decimal_digit d) (list_all is_decimal_digit digits) h in
    let sum : time + (d - 48) * counts + fraction_value (counts / 10) digits
    ≡ time + fraction_value counts (d ∷ digits) = omega arith in
    let small : time + (d - 48) * counts < 2 ^ 64 = omega (arith, fits) in
    walk-cons text_step_at (Fraction time counts) (Fraction (time + (d - 48) * counts) (counts / 10))
    (Fraction (time + fraction_value counts (d ∷ digits)) (counts_after counts (d ∷ digits)))
    d digits None []
    (rw (parts.0, fits_so (time + (d - 48) * counts) small) refl)
    (fraction_walk (time + (d - 48) * counts) (counts / 10) digits parts.1
    (omega (arith, fits))
    ∙ ap (λ t. Ok (Fraction t (counts_after (counts / 10) digits), [])) sum)

-- A time brings the reader to this place, and a blank after it to `Blank`.
record TimeWalk (seconds : List ℕ) (time : ℕ) : Type 0 where
  pub place : Place
  pub walks : walk text_step_at Start seconds ≡ Ok (place, [])
  pub blank : (b : ℕ) → is_blank b ≡ true → text_step_at place b ≡ Ok (Blank time, None)

digit_starts : (d : ℕ) → is_decimal_digit d ≡ true
    → text_step_at Start d ≡ Ok (Whole (1000000000 * (d - 48)), None)
unfolding text_step_at
digit_starts d h =
    let apart : (d == 35) ≡ false = no_sign d h in
    rw (apart, h) (ap (λ t. Ok (Whole t, None)) (omega arith))
  where
    no_sign : (d : ℕ) → is_decimal_digit d ≡ true → (d == 35) ≡ false
    no_sign d h = grind arith

whole_digits : (whole : List ℕ) → 0 < length whole → list_all is_decimal_digit whole ≡ true
    → 1000000000 * number_after 0 whole < 2 ^ 64
    → walk text_step_at Start whole ≡ Ok (Whole (1000000000 * number_after 0 whole), [])
whole_digits [] some h fits = absurd (omega arith)
whole_digits (d ∷ digits) some h fits =
    let parts = and_parts (is_decimal_digit d) (list_all is_decimal_digit digits) h in
    let front : 10 * 0 + (d - 48) ≡ d - 48 = omega arith in
    let R : ℕ → Type 0 = λ n. 1000000000 * number_after n digits < 2 ^ 64 in
    walk-cons text_step_at Start (Whole (1000000000 * (d - 48)))
    (Whole (1000000000 * number_after 0 (d ∷ digits))) d digits None []
    (digit_starts d parts.0)
    (whole_walk (d - 48) digits parts.1 (subst R front fits)
    ∙ ap (λ n. Ok (Whole (1000000000 * number_after n digits), [])) (sym front))

blank_no_digit : (b : ℕ) → is_blank b ≡ true → is_decimal_digit b ≡ false
blank_no_digit b h = grind arith

blank_no_point : (b : ℕ) → is_blank b ≡ true → (b == point) ≡ false
blank_no_point b h = grind arith

time_walk : (seconds : List ℕ) (time : ℕ) → IsRowTime seconds time → TimeWalk seconds time
unfolding text_step_at
time_walk seconds time t = by_fraction t.fraction t.is t.fraction_digits t.value
  where
    by_fraction : (fraction : List ℕ) → seconds ≡ t.whole ++ with_point fraction
        → list_all is_decimal_digit fraction ≡ true → time ≡ row_nanoseconds t.whole fraction
        → TimeWalk seconds time
    by_fraction [] is digits value =
        let same : time ≡ 1000000000 * number_after 0 t.whole = omega (arith, value) in
        let R : ℕ → Type 0 = λ n. n < 2 ^ 64 in
        record {
          place = Whole time;
          walks = ap (walk text_step_at Start) (is ∙ append-nil t.whole)
              ∙ whole_digits t.whole t.some t.digits (subst R same t.fits)
              ∙ ap (λ n. Ok (Whole n, [])) (sym same);
          blank = λ b h. rw (blank_no_digit b h, blank_no_point b h, h) refl;
        }
    by_fraction (d ∷ digits) is all value =
        let parts = and_parts (is_decimal_digit d) (list_all is_decimal_digit digits) all in
        let whole : ℕ = 1000000000 * number_after 0 t.whole in
        let first : ℕ = whole + (d - 48) * 100000000 in
        let sum : time ≡ first + fraction_value 10000000 digits = omega (arith, value) in
        let whole_fits : whole < 2 ^ 64 = omega (arith, sum, t.fits) in
        let first_fits : first < 2 ^ 64 = omega (arith, sum, t.fits) in
        let all_fits : first + fraction_value 10000000 digits < 2 ^ 64
        = omega (arith, sum, t.fits) in
        record {
          place = Fraction time (counts_after 10000000 digits);
          walks = ap (walk text_step_at Start) is
              ∙ walk-join text_step_at Start (Whole whole)
              (Fraction time (counts_after 10000000 digits)) t.whole (point ∷ d ∷ digits) [] []
              (whole_digits t.whole t.some t.digits whole_fits)
              (walk-cons text_step_at (Whole whole) (Point whole)
              (Fraction time (counts_after 10000000 digits)) point (d ∷ digits) None []
              refl
              (walk-cons text_step_at (Point whole) (Fraction first 10000000)
              (Fraction time (counts_after 10000000 digits)) d digits None []
              (rw (parts.0, fits_so first first_fits) refl)
              (fraction_walk first 10000000 digits parts.1 all_fits
              ∙ ap (λ n. Ok (Fraction n (counts_after 10000000 digits), []))
              (sym sum))));
          blank = λ b h. rw (blank_no_digit b h, h) refl;
        }

-- ---- pairs

pair_step : (time : ℕ) (first : Bool) (low high byte value : ℕ) → hex_digit_value low ≡ Some value
    → byte ≡ high * 16 + value
    → text_step_at (Half time first high) low ≡ Ok (Pairs time, Some (capture_byte time first byte))
unfolding text_step_at
pair_step time first low high byte value e g = rw (e, g) refl

pairs_walk : (time : ℕ) (digits bytes : List ℕ) → ArePairs digits bytes
    → walk text_step_at (Pairs time) digits ≡ Ok (Pairs time, map (capture_byte time false) bytes)
unfolding walk text_step_at
pairs_walk time [] [] h = refl
pairs_walk time [] (b ∷ bytes) h = absurd h
pairs_walk time (d ∷ []) bytes h = absurd h
pairs_walk time (d ∷ e ∷ digits) [] h = absurd h
pairs_walk time (d ∷ e ∷ digits) (b ∷ bytes) h =
    walk-cons text_step_at (Pairs time) (Half time false h.0.first) (Pairs time) d (e ∷ digits) None
    (map (capture_byte time false) (b ∷ bytes)) (rw h.0.high_is refl)
    (walk-cons text_step_at (Half time false h.0.first) (Pairs time) (Pairs time) e digits
    (Some (capture_byte time false b)) (map (capture_byte time false) bytes)
    (pair_step time false e h.0.first b h.0.second h.0.low_is h.0.byte_is)
    (pairs_walk time digits bytes h.1))

bytes_walk : (time : ℕ) (digits bytes : List ℕ) → ArePairs digits bytes → 0 < length bytes
    → walk text_step_at (Blank time) digits ≡ Ok (Pairs time, recorded time bytes)
unfolding walk text_step_at
bytes_walk time [] [] h some = absurd (omega arith)
bytes_walk time [] (b ∷ bytes) h some = absurd h
bytes_walk time (d ∷ []) bytes h some = absurd h
bytes_walk time (d ∷ e ∷ digits) [] h some = absurd h
bytes_walk time (d ∷ e ∷ digits) (b ∷ bytes) h some =
    walk-cons text_step_at (Blank time) (Half time true h.0.first) (Pairs time) d (e ∷ digits) None
    (recorded time (b ∷ bytes)) (rw h.0.high_is refl)
    (walk-cons text_step_at (Half time true h.0.first) (Pairs time) (Pairs time) e digits
    (Some (capture_byte time true b)) (map (capture_byte time false) bytes)
    (pair_step time true e h.0.first b h.0.second h.0.low_is h.0.byte_is)
    (pairs_walk time digits bytes h.1))

-- ---- lines

-- A line brings the reader to this place, at which the line and the text may end.
pub record LineWalk (line : List ℕ) (items : List CaptureByte) : Type 0 where
  pub place : Place
  pub walks : walk text_step_at Start line ≡ Ok (place, items)
  pub end : text_may_end place ≡ true
  pub feed : text_step_at place 10 ≡ Ok (Start, None)

-- A content brings the reader to the place of `line`, and a CR after it to `behind`.
record ContentWalk (content : List ℕ) (items : List CaptureByte) : Type 0 where
  pub line : LineWalk content items
  pub behind : Place
  pub steps : text_step_at line.place 13 ≡ Ok (behind, None)
  pub end : text_may_end behind ≡ true
  pub feed : text_step_at behind 10 ≡ Ok (Start, None)

record_walk : (line : List ℕ) (time : ℕ) (items : List CaptureByte) → IsRowRecord line time items
    → walk text_step_at Start line ≡ Ok (Pairs time, items)
record_walk line time items r =
    let t = time_walk r.seconds time r.stamped in
    ap (walk text_step_at Start) r.is
    ∙ walk-join text_step_at Start t.place (Pairs time) r.seconds (r.blank ∷ r.digits) []
    (recorded time r.bytes) t.walks
    (walk-cons text_step_at t.place (Blank time) (Pairs time) r.blank r.digits None
    (recorded time r.bytes) (t.blank r.blank r.apart)
    (bytes_walk time r.digits r.bytes r.pairs r.some))
    ∙ ap (λ x. Ok (Pairs time, x)) (sym r.items_are)

comment_stays : (after : List ℕ) → list_all stays_in_line after ≡ true
    → walk text_step_at Comment after ≡ Ok (Comment, [])
unfolding walk text_step_at
comment_stays [] h = refl
comment_stays (b ∷ after) h =
    let parts = and_parts (stays_in_line b) (list_all stays_in_line after) h in
    walk-cons text_step_at Comment Comment Comment b after None [] (rw (apart b parts.0) refl)
    (comment_stays after parts.1)
  where
    apart : (b : ℕ) → stays_in_line b ≡ true → (b == 10) ≡ false
    apart b h = grind arith

content_walk : (content : List ℕ) (items : List CaptureByte) → IsContent content items
    → ContentWalk content items
unfolding walk text_step_at
content_walk content items nothing = record {
  line = record { place = Start; walks = refl; end = refl; feed = refl };
  behind = Returned;
  steps = refl;
  end = refl;
  feed = refl;
}
content_walk content items (comment _ c) = record {
  line = record {
    place = Comment;
    walks = ap (walk text_step_at Start) c.is
        ∙ walk-cons text_step_at Start Comment Comment 35 c.after None [] refl
        (comment_stays c.after c.one_line);
    end = refl;
    feed = refl;
  };
  behind = Comment;
  steps = refl;
  end = refl;
  feed = refl;
}
content_walk content items (stamped _ time _ r) = record {
  line = record {
    place = Pairs time;
    walks = record_walk content time items r;
    end = refl;
    feed = refl;
  };
  behind = Returned;
  steps = refl;
  end = refl;
  feed = refl;
}

pub line_walk : (line : List ℕ) (items : List CaptureByte) → IsLine line items
    → LineWalk line items
line_walk line items (plain _ _ c) = (content_walk line items c).line
line_walk line items (returned content _ c) =
    let walks = content_walk content items c in
    record {
      place = walks.behind;
      walks = walk-more text_step_at Start walks.line.place walks.behind content items 13 None
          walks.line.walks walks.steps ∙ ap (λ x. Ok (walks.behind, x)) (append-nil items);
      end = walks.end;
      feed = walks.feed;
    }

pub lines_walk : (text : List ℕ) (items : List CaptureByte) → AreLines text items
    → walk text_step_at Start text ≡ Ok (Start, items)
unfolding walk
lines_walk text items none = refl
lines_walk text items (more before line these others h l) =
    let walks = line_walk line others l in
    walk-join text_step_at Start Start Start before (line ++ 10 ∷ []) these others
    (lines_walk before these h)
    (walk-more text_step_at Start walks.place Start line others 10 None walks.walks walks.feed
    ∙ ap (λ x. Ok (Start, x)) (append-nil others))

-- A text brings the reader to this place, at which the text may end.
pub record TextWalk (text : List ℕ) (items : List CaptureByte) : Type 0 where
  pub place : Place
  pub walks : walk text_step_at Start text ≡ Ok (place, items)
  pub end : text_may_end place ≡ true

pub text_walk : (text : List ℕ) (items : List CaptureByte) → IsTextCapture text items
    → TextWalk text items
text_walk text items t =
    let last = line_walk t.last t.items_last t.last_line in
    record {
      place = last.place;
      walks = ap (walk text_step_at Start) t.text_is
          ∙ walk-join text_step_at Start Start last.place t.ended t.last t.items_before t.items_last
          (lines_walk t.ended t.items_before t.lines) last.walks
          ∙ ap (λ x. Ok (last.place, x)) (sym t.items_are);
      end = last.end;
    }
