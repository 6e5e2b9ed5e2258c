-- What a line so far is at each place of its reader, and what one more byte makes of it.
use Rattle.capture_text.proofs.LineFacts.{is_time_byte, all_more, all_weaker, digit_is_time_byte}
use Rattle.capture_text.proofs.LineFacts.{time_byte_no_return, hex_no_return, blank_no_return}
use Rattle.capture_text.proofs.LineFacts.{blank_stays, hex_stays, digit_stays, no_hex_no_digit}
use Rattle.capture_text.proofs.LineFacts.{ends_in_return-more, ends_in_return-none}
use Rattle.capture_text.proofs.LineFacts.{behind_blank-none, behind_blank-some, time_bytes}
use Rattle.capture_text.proofs.LineFacts.{counts_after, fraction_value-more, counts_after-more}
use Rattle.capture_text.{proofs.LineFacts.pairs_more, specs.CaptureText.point}
use Rattle.capture_text.specs.CaptureText.{is_blank, ends_line, IsRowTime, ArePairs, row_nanoseconds}
use Rattle.capture_text.specs.CaptureText.{stays_in_line, behind_blank, row_fault_in, IsRowComment}
use Rattle.capture_text.specs.CaptureText.{IsContent, IsLine, IsRowRecord, recorded, capture_byte}
use Rattle.capture_text.specs.CaptureText.IsContent.{nothing, comment, stamped}
use Rattle.capture_text.specs.CaptureText.IsLine.{plain, returned}
use Rattle.capture_text.specs.TextStep.{Stepped, text_step_at, whole_time, fault_without_bytes}
use Rattle.capture_text.specs.TextStep.{fault_in_pair, after_line, after_time, to_whole}
use Rattle.capture_text.specs.TextStep.{to_fraction, after_fraction, to_half, to_pairs, text_may_end}
use Rattle.capture_text.specs.{TextStep.end_fault_at, declared.fault.TextFault.TextFault}
use Rattle.capture_text.specs.declared.fault.TextFault.TheVariants.{Char, Late, Odd, Empty}
use Rattle.capture_text.specs.declared.place.Place.{Place, TheVariants.Start}
use Rattle.capture_text.specs.declared.place.Place.TheVariants.{Comment, Whole, Point, Fraction}
use Rattle.capture_text.specs.declared.place.Place.TheVariants.{Blank, Pairs, Half, Returned}
use Rattle.hex.specs.Hex.{hex_digit_value}
use Rattle.line_stamps.specs.declared.capture.CaptureByte.{CaptureByte}
use Rattle.std.proofs.Common.{◌≡◌, ◌∙◌, ℕ, ◌+◌, ◌*◌, ◌-◌, ◌/◌, ◌<◌, ◌^◌, ◌==◌, ◌⊎◌, Bool, true}
use Rattle.std.proofs.Common.{false, List, [], ◌∷◌, ◌++◌, length, map, Option, Some, None, Ok, Err}
use Rattle.std.proofs.Common.{refl, ap, sym, arith, cond, append_assoc, append-nil, inl, inr, subst}
use Rattle.std.proofs.{Common.lt-ltb, Common.nat_lt, lemmas.Bool.eqb-true, lemmas.Bool.cond_both}
use Rattle.std.{proofs.lemmas.Bool.ltb-true, proofs.lemmas.List.length-append, specs.List.list_all}
use Rattle.{std.specs.Option.option_to_list, yasir_ticks.proofs.Digits.number_after-append}
use Rattle.yasir_ticks.specs.TickText.{is_decimal_digit, number_after, ends_in_return}

-- The line so far is the digits of whole seconds.
pub record IsWhole (line : List ℕ) (time : ℕ) : Type 0 where
  pub digits : list_all is_decimal_digit line ≡ true
  pub some : 0 < length line
  pub value : time ≡ 1000000000 * number_after 0 line
  pub fits : time < 2 ^ 64

-- The line so far is digits, a point and at least one more digit.
pub record IsFraction (line : List ℕ) (time counts : ℕ) : Type 0 where
  pub whole : List ℕ
  pub first : ℕ
  pub others : List ℕ
  pub is : line ≡ whole ++ point ∷ first ∷ others
  pub digits : list_all is_decimal_digit whole ≡ true
  pub fraction_digits : list_all is_decimal_digit (first ∷ others) ≡ true
  pub some : 0 < length whole
  pub value : time ≡ row_nanoseconds whole (first ∷ others)
  pub counts_is : counts ≡ counts_after 100000000 (first ∷ others)
  pub fits : time < 2 ^ 64

-- The line so far is a time, a blank, pairs of digits, and the first digit of another pair.
pub record IsHalf (line : List ℕ) (time : ℕ) (first : Bool) (high : ℕ) (items : List CaptureByte) :
    Type 0 where
  pub seconds : List ℕ
  pub blank : ℕ
  pub digits : List ℕ
  pub bytes : List ℕ
  pub digit : ℕ
  pub is : line ≡ seconds ++ blank ∷ (digits ++ digit ∷ [])
  pub stamped : IsRowTime seconds time
  pub apart : is_blank blank ≡ true
  pub pairs : ArePairs digits bytes
  pub digit_is : hex_digit_value digit ≡ Some high
  pub first_is : first ≡ (length bytes == 0)
  pub items_are : items ≡ recorded time bytes

-- The line so far brings its reader to this place, and represents these bytes.
pub data At : Place → List ℕ → List CaptureByte → Type 0 where
  start : At Start [] []
  in_comment : (line : List ℕ) → IsRowComment line → At Comment line []
  whole : (line : List ℕ) (time : ℕ) → IsWhole line time → At (Whole time) line []
  after_point : (line : List ℕ) (time : ℕ) → IsWhole line time
      → At (Point time) (line ++ point ∷ []) []
  fraction : (line : List ℕ) (time counts : ℕ) → IsFraction line time counts
      → At (Fraction time counts) line []
  after_blank : (seconds : List ℕ) (blank time : ℕ) → IsRowTime seconds time
      → is_blank blank ≡ true → At (Blank time) (seconds ++ blank ∷ []) []
  pairs : (line : List ℕ) (time : ℕ) (items : List CaptureByte) → IsRowRecord line time items
      → At (Pairs time) line items
  half : (line : List ℕ) (time : ℕ) (first : Bool) (high : ℕ) (items : List CaptureByte)
      → IsHalf line time first high items → At (Half time first high) line items
  after_return : (content : List ℕ) (items : List CaptureByte) → IsContent content items
      → At Returned (content ++ 13 ∷ []) items

-- One more byte ends the line.
pub record Ends (line : List ℕ) (items : List CaptureByte) (b : ℕ)
    (next : Place × Option CaptureByte) : Type 0 where
  pub feed : b ≡ 10
  pub next_is : next ≡ (Start, None)
  pub is_line : IsLine line items

-- One more byte joins the line.
pub record GoesOn (line : List ℕ) (items : List CaptureByte) (b : ℕ)
    (next : Place × Option CaptureByte) : Type 0 where
  pub stays : stays_in_line b ≡ true
  pub at : At next.0 (line ++ b ∷ []) (items ++ option_to_list next.1)

-- what one more byte makes of a line
abbrev pub Goes : List ℕ → List CaptureByte → ℕ → Stepped → Type 0
Goes line items b (Ok next) = Ends line items b next ⊎ GoesOn line items b next
Goes line items b (Err why) = row_fault_in line (Some b) ≡ why

-- ---- causes

-- If a line doesn't end in CR and has nothing after a blank, a byte other than a digit is refused
-- as in a line without bytes.
fault_plain : (line : List ℕ) (b : ℕ) → ends_in_return line ≡ false → behind_blank line ≡ []
    → is_decimal_digit b ≡ false → row_fault_in line (Some b) ≡ fault_without_bytes b
fault_plain line b h g d = rw (h, g, d) refl

fault_late : (line : List ℕ) (b : ℕ) → ends_in_return line ≡ false → is_decimal_digit b ≡ true
    → row_fault_in line (Some b) ≡ Late
fault_late line b h d = rw (h, d) refl

fault_odd : (line rest : List ℕ) (b : ℕ) → ends_in_return line ≡ false → behind_blank line ≡ rest
    → 0 < length rest → is_decimal_digit b ≡ false
    → row_fault_in line (Some b) ≡ fault_in_pair b
fault_odd line rest b h g some d =
    let test : nat_lt 0 (length rest) ≡ true = lt-ltb 0 (length rest) some in
    rw (h, g, d, test) refl

fault_char : (line : List ℕ) (b : ℕ) → is_decimal_digit b ≡ false → ends_line b ≡ false
    → row_fault_in line (Some b) ≡ Char
fault_char line b d e =
    cond_both (ends_in_return line) Char (cond (is_decimal_digit b) Late
    (cond (ends_line b) (cond (nat_lt 0 (length (behind_blank line))) Odd Empty) Char))
    (λ x. x ≡ Char) (λ h. refl) (λ h. rw (d, e) refl)

-- ---- what one byte makes of a line

same_items : (place : Place) (line : List ℕ) (items : List CaptureByte) → At place line items
    → At place line (items ++ [])
same_items place line items at =
    let Q : List CaptureByte → Type 0 = λ x. At place line x in subst Q (sym (append-nil items)) at

returns_line : (line : List ℕ) (items : List CaptureByte) (b : ℕ) → IsContent line items → b ≡ 13
    → GoesOn line items b (Returned, None)
returns_line line items b content e =
    let Q : ℕ → Type 0 = λ c. At Returned (line ++ c ∷ []) items in
    record {
      stays = rw e refl;
      at = same_items Returned (line ++ b ∷ []) items
          (subst Q (sym e) (after_return line items content));
    }

stays_of : (b : ℕ) → (b == 10) ≡ false → stays_in_line b ≡ true
stays_of b e = rw e refl

no_end : (b : ℕ) → (b == 10) ≡ false → (b == 13) ≡ false → ends_line b ≡ false
no_end b e f = rw (e, f) refl

-- at the end of a content, after which only the line can end
line_goes : (line : List ℕ) (items : List CaptureByte) (b : ℕ) → IsContent line items
    → is_decimal_digit b ≡ false → Goes line items b (after_line b)
line_goes line items b content d =
    cond_both (b == 10) (Ok (Start, None)) (cond (b == 13) (Ok (Returned, None)) (Err Char))
    (Goes line items b)
    (λ e. inl (record {
      feed = eqb-true b 10 e;
      next_is = refl;
      is_line = plain line items content;
    }))
    (λ e. cond_both (b == 13) (Ok (Returned, None)) (Err Char) (Goes line items b)
    (λ f. inr (returns_line line items b content (eqb-true b 13 f)))
    (λ f. fault_char line b d (no_end b e f)))

-- at the end of a time
time_goes : (line : List ℕ) (b time : ℕ) → IsRowTime line time → is_decimal_digit b ≡ false
    → Goes line [] b (after_time time b)
time_goes line b time t d =
    let bytes = time_bytes line time t in
    cond_both (is_blank b) (Ok (Blank time, None)) (Err (fault_without_bytes b)) (Goes line [] b)
    (λ e. inr (record { stays = blank_stays b e; at = after_blank line b time t e }))
    (λ e. fault_plain line b (ends_in_return-none is_time_byte time_byte_no_return line bytes)
    (behind_blank-none line bytes) d)

pub whole_is_time : (line : List ℕ) (time : ℕ) → IsWhole line time → IsRowTime line time
whole_is_time line time w = record {
  whole = line;
  fraction = [];
  is = sym (append-nil line);
  some = w.some;
  digits = w.digits;
  fraction_digits = refl;
  value = omega (arith, w.value);
  fits = w.fits;
}

pub fraction_is_time : (line : List ℕ) (time counts : ℕ) → IsFraction line time counts
    → IsRowTime line time
fraction_is_time line time counts f = record {
  whole = f.whole;
  fraction = f.first ∷ f.others;
  is = f.is;
  some = f.some;
  digits = f.digits;
  fraction_digits = f.fraction_digits;
  value = f.value;
  fits = f.fits;
}

no_return : (line : List ℕ) (time : ℕ) → IsRowTime line time → ends_in_return line ≡ false
no_return line time t =
    ends_in_return-none is_time_byte time_byte_no_return line (time_bytes line time t)

some_more : (x : List ℕ) (b : ℕ) → 0 < length (x ++ b ∷ [])
some_more x b = omega (arith, length-append x (b ∷ []))

-- at the start of a line
start_goes : (b : ℕ) → Goes [] [] b (text_step_at Start b)
unfolding text_step_at
start_goes b =
    cond_both (b == 35) (Ok (Comment, None))
    (cond (is_decimal_digit b) (Ok (Whole ((b - 48) * 1000000000), None)) (after_line b))
    (Goes [] [] b)
    (λ e. inr (record {
      stays = rw (eqb-true b 35 e) refl;
      at = in_comment (b ∷ []) (record {
        after = [];
        is = ap (λ c. c ∷ []) (eqb-true b 35 e);
        one_line = refl;
      });
    }))
    (λ e. cond_both (is_decimal_digit b) (Ok (Whole ((b - 48) * 1000000000), None)) (after_line b)
    (Goes [] [] b)
    (λ d. inr (record {
      stays = digit_stays b d;
      at = whole (b ∷ []) ((b - 48) * 1000000000) (record {
        digits = rw d refl;
        some = omega arith;
        value = omega arith;
        fits = small b d;
      });
    }))
    (λ d. line_goes [] [] b nothing d))
  where
    small : (b : ℕ) → is_decimal_digit b ≡ true → (b - 48) * 1000000000 < 2 ^ 64
    small b d = grind arith

comment_goes : (line : List ℕ) (b : ℕ) → IsRowComment line → Goes line [] b (text_step_at Comment b)
unfolding text_step_at
comment_goes line b c =
    cond_both (b == 10) (Ok (Start, None)) (Ok (Comment, None)) (Goes line [] b)
    (λ e. inl (record {
      feed = eqb-true b 10 e;
      next_is = refl;
      is_line = plain line [] (comment line c);
    }))
    (λ e. inr (record {
      stays = stays_of b e;
      at = in_comment (line ++ b ∷ []) (record {
        after = c.after ++ b ∷ [];
        is = ap (λ x. x ++ b ∷ []) c.is;
        one_line = all_more stays_in_line c.after b c.one_line (stays_of b e);
      });
    }))

-- in the digits of whole seconds
whole_digit : (line : List ℕ) (b time : ℕ) → IsWhole line time → is_decimal_digit b ≡ true
    → Goes line [] b (to_whole (whole_time time b))
whole_digit line b time w d =
    let next : ℕ = 10 * time + (b - 48) * 1000000000 in
    cond_both (nat_lt next (2 ^ 64)) (Some next) None (λ o. Goes line [] b (to_whole o))
    (λ e. inr (record {
      stays = digit_stays b d;
      at = whole (line ++ b ∷ []) next (record {
        digits = all_more is_decimal_digit line b w.digits d;
        some = some_more line b;
        value = omega (arith, number_after-append 0 line b [], w.value);
        fits = ltb-true next (2 ^ 64) e;
      });
    }))
    (λ e. fault_late line b (no_return line time (whole_is_time line time w)) d)

whole_goes : (line : List ℕ) (b time : ℕ) → IsWhole line time
    → Goes line [] b (text_step_at (Whole time) b)
unfolding text_step_at
whole_goes line b time w =
    cond_both (is_decimal_digit b) (to_whole (whole_time time b))
    (cond (b == point) (Ok (Point time, None)) (after_time time b)) (Goes line [] b)
    (λ d. whole_digit line b time w d)
    (λ d. cond_both (b == point) (Ok (Point time, None)) (after_time time b) (Goes line [] b)
    (λ e. inr (to_point (eqb-true b point e)))
    (λ e. time_goes line b time (whole_is_time line time w) d))
  where
    to_point : b ≡ point → GoesOn line [] b (Point time, None)
    to_point e =
        let Q : ℕ → Type 0 = λ c. At (Point time) (line ++ c ∷ []) [] in
        record { stays = rw e refl; at = subst Q (sym e) (after_point line time w) }

-- at a digit after the point
fraction_digit : (line : List ℕ) (b time counts : ℕ) → IsFraction line time counts
    → is_decimal_digit b ≡ true → Goes line [] b (after_fraction time counts b)
fraction_digit line b time counts f d =
    let next : ℕ = time + (b - 48) * counts in
    cond_both (nat_lt next (2 ^ 64)) (Some next) None (λ o. Goes line [] b (to_fraction counts o))
    (λ e. inr (record {
      stays = digit_stays b d;
      at = fraction (line ++ b ∷ []) next (counts / 10) (record {
        whole = f.whole;
        first = f.first;
        others = f.others ++ b ∷ [];
        is = ap (λ x. x ++ b ∷ []) f.is ∙ append_assoc f.whole (point ∷ f.first ∷ f.others) (b ∷
            []);
        digits = f.digits;
        fraction_digits = all_more is_decimal_digit (f.first ∷ f.others) b f.fraction_digits d;
        some = f.some;
        value = omega (
          arith,
          f.value,
          fraction_value-more 100000000 (f.first ∷ f.others) b,
          ap (λ n. (b - 48) * n) f.counts_is,
        );
        counts_is = ap (λ n. n / 10) f.counts_is
            ∙ sym (counts_after-more 100000000 (f.first ∷ f.others) b);
        fits = ltb-true next (2 ^ 64) e;
      });
    }))
    (λ e. fault_late line b (no_return line time (fraction_is_time line time counts f)) d)

fraction_goes : (line : List ℕ) (b time counts : ℕ) → IsFraction line time counts
    → Goes line [] b (text_step_at (Fraction time counts) b)
unfolding text_step_at
fraction_goes line b time counts f =
    cond_both (is_decimal_digit b) (after_fraction time counts b) (after_time time b)
    (Goes line [] b)
    (λ d. fraction_digit line b time counts f d)
    (λ d. time_goes line b time (fraction_is_time line time counts f) d)

point_goes : (line : List ℕ) (b time : ℕ) → IsWhole line time
    → Goes (line ++ point ∷ []) [] b (text_step_at (Point time) b)
unfolding text_step_at
point_goes line b time w =
    cond_both (is_decimal_digit b) (after_fraction time 100000000 b)
    (Err (fault_without_bytes b)) (Goes (line ++ point ∷ []) [] b)
    (λ d. first_digit d)
    (λ d. fault_plain (line ++ point ∷ []) b closed (behind_blank-none (line ++ point ∷ []) bytes)
    d)
  where
    bytes : list_all is_time_byte (line ++ point ∷ []) ≡ true
    bytes = all_more is_time_byte line point
        (all_weaker is_decimal_digit is_time_byte digit_is_time_byte line w.digits) refl

    closed : ends_in_return (line ++ point ∷ []) ≡ false
    closed = ends_in_return-more line point

    first_digit : is_decimal_digit b ≡ true
        → Goes (line ++ point ∷ []) [] b (after_fraction time 100000000 b)
    first_digit d =
        let next : ℕ = time + (b - 48) * 100000000 in
        cond_both (nat_lt next (2 ^ 64)) (Some next) None
        (λ o. Goes (line ++ point ∷ []) [] b (to_fraction 100000000 o))
        (λ e. inr (record {
          stays = digit_stays b d;
          at = fraction ((line ++ point ∷ []) ++ b ∷ []) next 10000000 (record {
            whole = line;
            first = b;
            others = [];
            is = append_assoc line (point ∷ []) (b ∷ []);
            digits = w.digits;
            fraction_digits = rw d refl;
            some = w.some;
            value = omega (arith, w.value);
            counts_is = refl;
            fits = ltb-true next (2 ^ 64) e;
          });
        }))
        (λ e. fault_late (line ++ point ∷ []) b closed d)

-- ---- in the pairs of a record

abbrev pub option_cases : (o : Option ℕ) (Q : Option ℕ → Type 0)
    → ((v : ℕ) → o ≡ Some v → Q (Some v)) → (o ≡ None → Q None) → Q o
option_cases None Q some none = none refl
option_cases (Some v) Q some none = some v refl

blank_goes : (seconds : List ℕ) (blank b time : ℕ) → IsRowTime seconds time → is_blank blank ≡ true
    → Goes (seconds ++ blank ∷ []) [] b (text_step_at (Blank time) b)
unfolding text_step_at
blank_goes seconds blank b time t apart =
    option_cases (hex_digit_value b)
    (λ o. Goes (seconds ++ blank ∷ []) [] b (to_half time true o (Err (fault_without_bytes b))))
    (λ high e. inr (record {
      stays = hex_stays b high e;
      at = half ((seconds ++ blank ∷ []) ++ b ∷ []) time true high [] (record {
        seconds = seconds;
        blank = blank;
        digits = [];
        bytes = [];
        digit = b;
        is = append_assoc seconds (blank ∷ []) (b ∷ []);
        stamped = t;
        apart = apart;
        pairs = tt;
        digit_is = e;
        first_is = refl;
        items_are = refl;
      });
    }))
    (λ e. fault_plain (seconds ++ blank ∷ []) b
    (ends_in_return-more seconds blank ∙ blank_no_return blank apart)
    (behind_blank-some seconds blank [] (time_bytes seconds time t) apart)
    (no_hex_no_digit b e))

some_is_no_zero : (n : ℕ) → 0 < n → false ≡ (n == 0)
some_is_no_zero n h = grind arith

pairs_goes : (line : List ℕ) (b time : ℕ) (items : List CaptureByte) → IsRowRecord line time items
    → Goes line items b (text_step_at (Pairs time) b)
unfolding text_step_at
pairs_goes line b time items r =
    option_cases (hex_digit_value b)
    (λ o. Goes line items b (to_half time false o (after_line b)))
    (λ high e. inr (record {
      stays = hex_stays b high e;
      at = same_items (Half time false high) (line ++ b ∷ []) items
          (half (line ++ b ∷ []) time false high items (record {
            seconds = r.seconds;
            blank = r.blank;
            digits = r.digits;
            bytes = r.bytes;
            digit = b;
            is = ap (λ x. x ++ b ∷ []) r.is ∙ append_assoc r.seconds (r.blank ∷ r.digits) (b ∷ []);
            stamped = r.stamped;
            apart = r.apart;
            pairs = r.pairs;
            digit_is = e;
            first_is = some_is_no_zero (length r.bytes) r.some;
            items_are = r.items_are;
          }));
    }))
    (λ e. line_goes line items b (stamped line time items r) (no_hex_no_digit b e))

recorded-more : (time : ℕ) (bytes : List ℕ) (first : Bool) (byte : ℕ)
    → first ≡ (length bytes == 0)
    → recorded time bytes ++ capture_byte time first byte ∷ [] ≡ recorded time (bytes ++ byte ∷ [])
recorded-more time [] first byte e = ap (λ f. capture_byte time f byte ∷ []) e
recorded-more time (c ∷ bytes) first byte e =
    ap (λ x. capture_byte time true c ∷ x) (others bytes (e ∙ sym (some_is_no_zero _ (omega
    arith))))
  where
    others : (bytes : List ℕ) → first ≡ false
        → map (capture_byte time false) bytes ++ capture_byte time first byte ∷ []
        ≡ map (capture_byte time false) (bytes ++ byte ∷ [])
    others [] f = ap (λ g. capture_byte time g byte ∷ []) f
    others (d ∷ bytes) f = ap (λ x. capture_byte time false d ∷ x) (others bytes f)

half_closed : (line : List ℕ) (time : ℕ) (first : Bool) (high : ℕ) (items : List CaptureByte)
    → IsHalf line time first high items → ends_in_return line ≡ false
half_closed line time first high items h =
    ap ends_in_return (h.is ∙ sym (append_assoc h.seconds (h.blank ∷ h.digits) (h.digit ∷ [])))
    ∙ ends_in_return-more (h.seconds ++ h.blank ∷ h.digits) h.digit
    ∙ hex_no_return h.digit high h.digit_is

half_behind : (line : List ℕ) (time : ℕ) (first : Bool) (high : ℕ) (items : List CaptureByte)
    → (h : IsHalf line time first high items) → behind_blank line ≡ h.digits ++ h.digit ∷ []
half_behind line time first high items h =
    ap behind_blank h.is
    ∙ behind_blank-some h.seconds h.blank (h.digits ++ h.digit ∷ [])
    (time_bytes h.seconds time h.stamped) h.apart

half_goes : (line : List ℕ) (b time : ℕ) (first : Bool) (high : ℕ) (items : List CaptureByte)
    → IsHalf line time first high items → Goes line items b (text_step_at (Half time first high) b)
unfolding text_step_at
half_goes line b time first high items h =
    option_cases (hex_digit_value b)
    (λ o. Goes line items b (to_pairs time first high o (Err (fault_in_pair b))))
    (λ low e. inr (record {
      stays = hex_stays b low e;
      at = pairs (line ++ b ∷ []) time
          (items ++ capture_byte time first (high * 16 + low) ∷ []) (record {
            seconds = h.seconds;
            blank = h.blank;
            digits = h.digits ++ h.digit ∷ b ∷ [];
            bytes = h.bytes ++ (high * 16 + low) ∷ [];
            is = ap (λ x. x ++ b ∷ []) h.is
                ∙ append_assoc h.seconds (h.blank ∷ (h.digits ++ h.digit ∷ [])) (b ∷ [])
                ∙ ap (λ x. h.seconds ++ h.blank ∷ x) (append_assoc h.digits (h.digit ∷ []) (b ∷
                []));
            stamped = h.stamped;
            apart = h.apart;
            pairs = pairs_more h.digits h.bytes h.digit b (high * 16 + low) h.pairs (record {
              first = high;
              second = low;
              high_is = h.digit_is;
              low_is = e;
              byte_is = refl;
            });
            some = some_more h.bytes (high * 16 + low);
            items_are = ap (λ x. x ++ capture_byte time first (high * 16 + low) ∷ []) h.items_are
                ∙ recorded-more time h.bytes first (high * 16 + low) h.first_is;
          });
    }))
    (λ e. fault_odd line (h.digits ++ h.digit ∷ []) b (half_closed line time first high items h)
    (half_behind line time first high items h) (some_more h.digits h.digit)
    (no_hex_no_digit b e))

returned_goes : (content : List ℕ) (b : ℕ) (items : List CaptureByte) → IsContent content items
    → Goes (content ++ 13 ∷ []) items b (text_step_at Returned b)
unfolding text_step_at
returned_goes content b items c =
    cond_both (b == 10) (Ok (Start, None)) (Err Char) (Goes (content ++ 13 ∷ []) items b)
    (λ e. inl (record {
      feed = eqb-true b 10 e;
      next_is = refl;
      is_line = returned content items c;
    }))
    (λ e. rw (ends_in_return-more content 13) refl)

pub step_goes : (place : Place) (line : List ℕ) (items : List CaptureByte) (b : ℕ)
    → At place line items → Goes line items b (text_step_at place b)
step_goes place line items b start = start_goes b
step_goes place line items b (in_comment _ c) = comment_goes line b c
step_goes place line items b (whole _ time w) = whole_goes line b time w
step_goes place line items b (after_point front time w) = point_goes front b time w
step_goes place line items b (fraction _ time counts f) = fraction_goes line b time counts f
step_goes place line items b (after_blank seconds blank time t apart) =
    blank_goes seconds blank b time t apart
step_goes place line items b (pairs _ time _ r) = pairs_goes line b time items r
step_goes place line items b (half _ time first high _ h) =
    half_goes line b time first high items h
step_goes place line items b (after_return content _ c) = returned_goes content b items c

-- ---- the end of a text

fault_empty : (line : List ℕ) → ends_in_return line ≡ false → behind_blank line ≡ []
    → row_fault_in line None ≡ Empty
fault_empty line h g = rw (h, g) refl

time_empty : (line : List ℕ) (time : ℕ) → IsRowTime line time → row_fault_in line None ≡ Empty
time_empty line time t =
    fault_empty line (no_return line time t) (behind_blank-none line (time_bytes line time t))

-- Holds of the result of `end_fault`: the text may end at this place, or it is refused for this
-- cause.
abbrev pub EndGoes : List ℕ → Place → Option TextFault → Type 0
EndGoes line place None = text_may_end place ≡ true
EndGoes line place (Some why) = (text_may_end place ≡ false) × (row_fault_in line None ≡ why)

pub end_goes : (place : Place) (line : List ℕ) (items : List CaptureByte) → At place line items
    → EndGoes line place (end_fault_at place)
end_goes place line items start = refl
end_goes place line items (in_comment _ c) = refl
end_goes place line items (whole _ time w) =
    (refl, time_empty line time (whole_is_time line time w))
end_goes place line items (after_point front time w) = (
  refl,
  fault_empty (front ++ point ∷ []) (ends_in_return-more front point)
      (behind_blank-none (front ++ point ∷ [])
      (all_more is_time_byte front point
      (all_weaker is_decimal_digit is_time_byte digit_is_time_byte front w.digits) refl)),
)
end_goes place line items (fraction _ time counts f) =
    (refl, time_empty line time (fraction_is_time line time counts f))
end_goes place line items (after_blank seconds blank time t apart) = (
  refl,
  fault_empty (seconds ++ blank ∷ [])
      (ends_in_return-more seconds blank ∙ blank_no_return blank apart)
      (behind_blank-some seconds blank [] (time_bytes seconds time t) apart),
)
end_goes place line items (pairs _ time _ r) = refl
end_goes place line items (half _ time first high _ h) = (
  refl,
  odd_at_end line (h.digits ++ h.digit ∷ []) (half_closed line time first high items h)
      (half_behind line time first high items h)
      (lt-ltb 0 (length (h.digits ++ h.digit ∷ [])) (some_more h.digits h.digit)),
)
  where
    odd_at_end : (line rest : List ℕ) → ends_in_return line ≡ false → behind_blank line ≡ rest
        → nat_lt 0 (length rest) ≡ true → row_fault_in line None ≡ Odd
    odd_at_end line rest e f g = rw (e, f, g) refl
end_goes place line items (after_return content _ c) = refl
