-- What each byte does at each place of a line.
use Rattle.hex.specs.Hex.{decode_of, decode_pairs, is_hex_digit, hex_digit_value}
use Rattle.std.proofs.Common.{◌≡◌, ◌≢◌, ◌∙◌, ◌==◌, ◌&&◌, ◌||◌, ℕ, ◌+◌, ◌*◌, ◌-◌, ◌%◌, ◌≤◌, ◌<◌, suc}
use Rattle.std.proofs.Common.{Bool, true, false, not, List, [], ◌∷◌, ◌++◌, length, Option, Some}
use Rattle.std.proofs.Common.{None, Ok, is_some, refl, ap, sym, cond, arith, append_assoc, leb}
use Rattle.std.proofs.lemmas.Bool.{both_ways, and_parts}
use Rattle.std.proofs.lemmas.List.{length-append, Folds.list_all-append}
use Rattle.std.specs.{List.list_all, Option.option_map_or}
use Rattle.yasir_ticks.proofs.Contents.{test_of, line_items-plain, without_return-same}
use Rattle.yasir_ticks.proofs.Contents.{line_items-byte, line_items-return, line_items-return_open}
use Rattle.yasir_ticks.proofs.Contents.{line_items-return_inside, mark_items-bad}
use Rattle.yasir_ticks.proofs.Digits.{byte_items-bad, byte_items-odd, byte_items-long}
use Rattle.yasir_ticks.proofs.Digits.{byte_items-right, silence_items-bad, silence_items-right}
use Rattle.yasir_ticks.proofs.Digits.{silence_items-big, silence_items-zero, number_after-append}
use Rattle.yasir_ticks.proofs.Digits.{number_after-grows, is_plain_decimal-more}
use Rattle.yasir_ticks.proofs.Items.{marks_in-content}
use Rattle.yasir_ticks.proofs.Lines.{IsFree, free_behind, free_passing}
use Rattle.yasir_ticks.proofs.hex_digits.Decoding.{hex_digits, hex_length, decode_of-more}
use Rattle.yasir_ticks.specs.Place.{is_foreign}
use Rattle.yasir_ticks.specs.Reader.{Reads, starts_comment, items_of_content, marks_at}
use Rattle.yasir_ticks.specs.ReaderStep.{Accepts, Refuses, Closes, IsOpen}
use Rattle.yasir_ticks.specs.TickText.{line_items, content_items, without_return, ends_in_return}
use Rattle.yasir_ticks.specs.TickText.{byte_items, is_plain_decimal, is_decimal_digit, number_after}
use Rattle.yasir_ticks.specs.{TickText.fault_in_line, TickText.ends_content, Ticks.Item}
use Rattle.yasir_ticks.specs.{Ticks.marks_in, Ticks.Item.mark, declared.fault.TickFault.TickFault}
use Rattle.yasir_ticks.specs.declared.fault.TickFault.TheVariants.{Char, Odd, Long, Count, Empty}
use Rattle.yasir_ticks.specs.declared.place.Content.{Content, TheVariants.NoTick}
use Rattle.yasir_ticks.specs.declared.place.Content.TheVariants.{KeptBytes, SilentTicks, OneMark}
use Rattle.yasir_ticks.specs.declared.place.Place.{Place, TheVariants.Start}
use Rattle.yasir_ticks.specs.declared.place.Place.TheVariants.{Comment, Pairs, HalfPair, Minus}
use Rattle.yasir_ticks.specs.declared.place.Place.TheVariants.{Number, Percent, Returned, Refused}

-- ---- bytes that aren't LF or CR

pub hex_not_lf : (b : ℕ) → is_hex_digit b ≡ true → b ≢ 10
hex_not_lf b h e = both_ways (is_hex_digit b) (ap is_hex_digit e) h

pub hex_not_cr : (b : ℕ) → is_hex_digit b ≡ true → b ≢ 13
hex_not_cr b h e = both_ways (is_hex_digit b) (ap is_hex_digit e) h

pub digit_not_lf : (b : ℕ) → is_decimal_digit b ≡ true → b ≢ 10
digit_not_lf b h e = both_ways (is_decimal_digit b) (ap is_decimal_digit e) h

pub digit_not_cr : (b : ℕ) → is_decimal_digit b ≡ true → b ≢ 13
digit_not_cr b h e = both_ways (is_decimal_digit b) (ap is_decimal_digit e) h

-- If the bytes of a line pass a test that a CR doesn't pass, the line doesn't end in a CR.
ends_in_return-none : (test : ℕ → Bool) → test 13 ≡ false → (c : ℕ) (x : List ℕ) → c ≢ 13
    → list_all test x ≡ true → ends_in_return (c ∷ x) ≡ false
ends_in_return-none test h c [] n g = test_of c 13 n
ends_in_return-none test h c (d ∷ x) n g =
    let parts = and_parts (test d) (list_all test x) g in
    ends_in_return-none test h d x (λ e. both_ways (test d) (ap test e ∙ h) parts.0) parts.1

-- Holds for a line that is no comment and doesn't end in a CR.
pub record IsPlain (line : List ℕ) : Type 0 where
  pub apart : starts_comment line ≡ false
  pub whole : ends_in_return line ≡ false

pub plain_pairs : (bytes digits : List ℕ) → decode_of digits ≡ Ok bytes → IsPlain (43 ∷ digits)
plain_pairs bytes digits e = record {
  apart = refl;
  whole = ends_in_return-none is_hex_digit refl 43 digits (λ e. absurd (omega arith))
      (hex_digits digits bytes e);
}

pub plain_half_pair : (bytes digits : List ℕ) (digit high : ℕ) → decode_of digits ≡ Ok bytes
    → hex_digit_value digit ≡ Some high → IsPlain (43 ∷ (digits ++ digit ∷ []))
plain_half_pair bytes digits digit high e v = record {
  apart = refl;
  whole = ends_in_return-none is_hex_digit refl 43 (digits ++ digit ∷ [])
      (λ e. absurd (omega arith))
      (list_all-append is_hex_digit digits (digit ∷ [])
      ∙ rw (hex_digits digits bytes e, ap is_some v) refl);
}

pub plain_number : (digits : List ℕ) → is_plain_decimal digits ≡ true → IsPlain (45 ∷ digits)
plain_number [] h = cc
plain_number (c ∷ x) h = record {
  apart = refl;
  whole = ends_in_return-none is_decimal_digit refl 45 (c ∷ x) (λ e. absurd (omega arith))
      (and_parts (not (c == 48)) (list_all is_decimal_digit (c ∷ x)) h).1;
}

-- The line so far is plain at each place at which a byte may be foreign.
pub foreign_plain : (place : Place) (b : ℕ) (bytes line : List ℕ) → is_foreign place b ≡ true
    → Reads place bytes line → IsPlain line
foreign_plain Start b bytes line h r = rw r (record { apart = refl; whole = refl })
foreign_plain (Comment n) b bytes line h r = cc
foreign_plain Pairs b bytes line h r = rw r.is (plain_pairs bytes r.digits r.decoded)
foreign_plain (HalfPair high) b bytes line h r =
    rw r.is (plain_half_pair bytes r.digits r.digit high r.decoded r.value)
foreign_plain Minus b bytes line h r = rw r (record { apart = refl; whole = refl })
foreign_plain (Number n) b bytes line h r = rw r.is (plain_number r.digits r.plain)
foreign_plain Percent b bytes line h r = rw r (record { apart = refl; whole = refl })
foreign_plain (Returned content) b bytes line h r = cc
foreign_plain (Refused why) b bytes line h r = absurd r

-- A plain line represents what its content represents.
pub plain_items : (line : List ℕ) → IsPlain line → line_items line ≡ content_items line
plain_items line p = line_items-plain line p.apart
    ∙ ap content_items (without_return-same line p.whole)

-- ---- where a line may end

pub closes_start : (bytes : List ℕ) → Closes Start bytes NoTick
unfolding line_items
closes_start bytes = record { stands = λ line r. rw r refl; marked = refl }

comment_items : (after : List ℕ) → length after ≤ 120 → line_items (35 ∷ after) ≡ Some []
unfolding line_items
comment_items after h = rw (within (length after) h) refl
  where
    within : (n : ℕ) → n ≤ 120 → leb n 120 ≡ true
    within n h = grind arith

comment_long : (after : List ℕ) → 120 < length after → line_items (35 ∷ after) ≡ None
unfolding line_items
comment_long after h = rw (beyond (length after) h) refl
  where
    beyond : (n : ℕ) → 120 < n → leb n 120 ≡ false
    beyond n h = grind arith

pub closes_comment : (n : ℕ) (bytes : List ℕ) → Closes (Comment n) bytes NoTick
closes_comment n bytes = record {
  stands = λ line r. rw r.is (comment_items r.after (rw r.long r.fits));
  marked = refl;
}

pub closes_pairs : (bytes : List ℕ) → 0 < length bytes → Closes Pairs bytes KeptBytes
closes_pairs bytes h = record {
  stands = λ line r. rw r.is (plain_items (43 ∷ r.digits) (plain_pairs bytes r.digits r.decoded)
      ∙ byte_items-right r.digits bytes r.decoded (omega arith) r.fits);
  marked = refl;
}

pub closes_number : (n : ℕ) (bytes : List ℕ) → Closes (Number n) bytes (SilentTicks n)
closes_number n bytes = record {
  stands = λ line r. rw r.is (plain_items (45 ∷ r.digits) (plain_number r.digits r.plain)
      ∙ silence_items-right r.digits n r.plain r.number r.fits);
  marked = refl;
}

pub closes_percent : (bytes : List ℕ) → Closes Percent bytes OneMark
unfolding line_items
closes_percent bytes = record { stands = λ line r. rw r refl; marked = refl }

pub closes_returned : (content : Content) (bytes : List ℕ) → Closes (Returned content) bytes content
closes_returned content bytes = record {
  stands = λ line r. rw r.is (line_items-return r.before r.apart ∙ r.stands);
  marked = refl;
}

-- Holds if the line has no LF and represents these items.
pub record IsRightLine (line : List ℕ) (items : List Item) : Type 0 where
  pub free : IsFree line
  pub stands : line_items line ≡ Some items

pub pairs_right : (digits bytes : List ℕ) → decode_of digits ≡ Ok bytes → 0 < length bytes
    → length bytes ≤ 32 → IsRightLine (43 ∷ digits) (items_of_content KeptBytes bytes)
pairs_right digits bytes decoded some fits = record {
  free = free_behind 43 digits (λ e. absurd (omega arith))
      (free_passing is_hex_digit digits refl (hex_digits digits bytes decoded));
  stands = (closes_pairs bytes some).stands (43 ∷ digits)
      (record { digits = digits; is = refl; decoded = decoded; fits = fits });
}

pub number_right : (digits : List ℕ) (n : ℕ) → is_plain_decimal digits ≡ true
    → number_after 0 digits ≡ n → n ≤ 1000000
    → IsRightLine (45 ∷ digits) (items_of_content (SilentTicks n) [])
number_right digits n plain number fits = record {
  free = free_behind 45 digits (λ e. absurd (omega arith)) (free_number digits plain);
  stands = (closes_number n []).stands (45 ∷ digits)
      (record { digits = digits; is = refl; plain = plain; number = number; fits = fits });
}
  where
    free_number : (digits : List ℕ) → is_plain_decimal digits ≡ true → IsFree digits
    free_number [] h = λ k l. absurd (omega arith)
    free_number (d ∷ digits) h = free_passing is_decimal_digit (d ∷ digits) refl
        (and_parts (not (d == 48)) (list_all is_decimal_digit (d ∷ digits)) h).1

-- ---- where a line may not end

pub open_pairs : (bytes : List ℕ) → length bytes ≡ 0 → IsOpen Pairs bytes Empty
open_pairs bytes h = record {
  wrong = λ line r. rw r.is (plain_items (43 ∷ r.digits) (plain_pairs bytes r.digits r.decoded)
      ∙ no_bytes r.digits (omega (arith, hex_length r.digits bytes r.decoded)));
  cause = λ line next e r. rw r.is
      (empty_cause r.digits next (plain_pairs bytes r.digits r.decoded).whole e
      (omega (arith, hex_length r.digits bytes r.decoded)));
}
  where
    no_bytes : (digits : List ℕ) → length digits ≡ 0 → byte_items digits ≡ None
    no_bytes [] h = refl
    no_bytes (d ∷ digits) h = absurd (omega arith)

    empty_cause : (digits : List ℕ) (next : Option ℕ) → ends_in_return (43 ∷ digits) ≡ false
        → ends_content next ≡ true → length digits ≡ 0
        → fault_in_line (43 ∷ digits) next ≡ Empty
    empty_cause [] next w e h = rw e refl
    empty_cause (d ∷ digits) next w e h = absurd (omega arith)

odd_length : (digits bytes : List ℕ) (digit : ℕ) → decode_of digits ≡ Ok bytes
    → length (digits ++ digit ∷ []) ≡ suc (2 * length bytes)
odd_length digits bytes digit e = omega (
  arith,
  length-append digits (digit ∷ []),
  hex_length digits bytes e,
)

odd_of : (n k : ℕ) → n ≡ suc (2 * k) → n % 2 ≡ 1
odd_of n k e = omega arith

odd_cause : (digits : List ℕ) (next : Option ℕ) (k : ℕ) → ends_in_return (43 ∷ digits) ≡ false
    → ends_content next ≡ true → length digits ≡ suc (2 * k)
    → fault_in_line (43 ∷ digits) next ≡ Odd
odd_cause digits next k w e h = rw (w, e, h, odd_of (suc (2 * k)) k refl) (tests k)
  where
    tests : (k : ℕ) → cond (suc (2 * k) == 0) Empty
        (cond (1 == 1) Odd (cond (option_map_or is_hex_digit next false && suc (2 * k) == 64) Long
        Char)) ≡ Odd
    tests k = rw (test_of (suc (2 * k)) 0 (λ e. absurd (omega arith))) refl

pub open_half_pair : (high : ℕ) (bytes : List ℕ) → IsOpen (HalfPair high) bytes Odd
open_half_pair high bytes = record {
  wrong = λ line r. rw r.is (
      plain_items (43 ∷ (r.digits ++ r.digit ∷ []))
      (plain_half_pair bytes r.digits r.digit high r.decoded r.value)
      ∙ byte_items-odd (r.digits ++ r.digit ∷ [])
      (odd_of _ (length bytes) (odd_length r.digits bytes r.digit r.decoded)));
  cause = λ line next e r. rw r.is (odd_cause (r.digits ++ r.digit ∷ []) next (length bytes)
      (plain_half_pair bytes r.digits r.digit high r.decoded r.value).whole e
      (odd_length r.digits bytes r.digit r.decoded));
}

pub open_minus : (bytes : List ℕ) → IsOpen Minus bytes Empty
unfolding line_items
open_minus bytes = record {
  wrong = λ line r. rw r refl;
  cause = λ line next e r. rw (r, e) refl;
}

-- ---- a byte that goes on with the line

-- A byte other than LF is accepted if the line with it brings a reader to the new place, and a mark
-- that it adds to the line is no longer left.
accepts : {place new_place : Place} {bytes new_bytes : List ℕ} {left b new_left : ℕ} → b ≢ 10
    → marks_at new_place + new_left ≡ marks_at place + left
    → ((line : List ℕ) → Reads place bytes line → Reads new_place new_bytes (line ++ b ∷ []))
    → Accepts place bytes left b [] new_place new_bytes new_left
accepts n m f = record {
  nothing = λ _. refl;
  reads = λ _. f;
  start = λ e. absurd (n e);
  stands = λ e. absurd (n e);
  marked = omega (arith, m);
}

pub accepts_plus : (bytes : List ℕ) (left : ℕ) → Accepts Start bytes left 43 [] Pairs [] left
unfolding decode_pairs
accepts_plus bytes left =
    accepts (λ e. absurd (omega arith)) (omega arith)
    (λ line r. rw r (record { digits = []; is = refl; decoded = refl; fits = omega arith }))

pub accepts_high : (bytes : List ℕ) (left b high : ℕ) → hex_digit_value b ≡ Some high
    → length bytes < 32
    → Accepts Pairs bytes left b [] (HalfPair high) bytes left
accepts_high bytes left b high v h =
    accepts (hex_not_lf b (ap is_some v)) (omega arith) (λ line r. record {
      digits = r.digits;
      digit = b;
      is = rw r.is refl;
      decoded = r.decoded;
      value = v;
      fits = h;
    })

pub accepts_low : (bytes : List ℕ) (left b high low : ℕ) → hex_digit_value b ≡ Some low
    → Accepts (HalfPair high) bytes left b [] Pairs (bytes ++ (high * 16 + low) ∷ []) left
accepts_low bytes left b high low v =
    accepts (hex_not_lf b (ap is_some v)) (omega arith) (λ line r. record {
      digits = r.digits ++ r.digit ∷ b ∷ [];
      is = rw r.is (ap (λ x. 43 ∷ x) (append_assoc r.digits (r.digit ∷ []) (b ∷ [])));
      decoded = decode_of-more r.digits bytes r.digit b high low r.decoded r.value v;
      fits = omega (arith, length-append bytes ((high * 16 + low) ∷ []), r.fits);
    })

pub accepts_digit : (n : ℕ) (bytes : List ℕ) (left b : ℕ) → is_decimal_digit b ≡ true
    → n * 10 + (b - 48) ≤ 1000000
    → Accepts (Number n) bytes left b [] (Number (n * 10 + (b - 48))) bytes left
accepts_digit n bytes left b d h =
    accepts (digit_not_lf b d) (omega arith) (λ line r. record {
      digits = r.digits ++ b ∷ [];
      is = rw r.is refl;
      plain = is_plain_decimal-more r.digits b r.plain d;
      number = omega (arith, number_after-append 0 r.digits b [], r.number);
      fits = h;
    })

-- A CR is accepted after a content that may end.
pub accepts_return : (place : Place) (bytes : List ℕ) (left : ℕ) (content : Content)
    → is_foreign place 13 ≡ true → Closes place bytes content
    → Accepts place bytes left 13 [] (Returned content) bytes left
accepts_return place bytes left content f c =
    accepts (λ e. absurd (omega arith)) (ap (λ n. n + left) c.marked) (λ line r. record {
      before = line;
      is = refl;
      apart = (foreign_plain place 13 bytes line f r).apart;
      stands = sym (plain_items line (foreign_plain place 13 bytes line f r)) ∙ c.stands line r;
    })

-- An LF is accepted at a place at which the line may end.
pub accepts_lf : (place : Place) (bytes new_bytes : List ℕ) (left : ℕ) (content : Content)
    → Closes place bytes content
    → Accepts place bytes left 10 (items_of_content content bytes) Start new_bytes left
accepts_lf place bytes new_bytes left content c = record {
  nothing = λ n. absurd (n refl);
  reads = λ n. absurd (n refl);
  start = λ _. refl;
  stands = λ _ line r. c.stands line r;
  marked = omega (arith, marks_in-content content bytes, c.marked);
}

-- ---- a byte that may not come at this place

refuses : {place : Place} {bytes : List ℕ} {left b : ℕ} {why : TickFault} → b ≢ 10
    → ((line : List ℕ) → Reads place bytes line → (more : List ℕ)
    → line_items (line ++ b ∷ more) ≡ None)
    → ((line : List ℕ) → Reads place bytes line → fault_in_line line (Some b) ≡ why)
    → Refuses place bytes left b why
refuses n f c = record {
  wrong = λ _ line r more items e. cc (f line r more, e);
  ended = λ e. absurd (n e);
  cause = c;
}

pub refuses_open_return : (place : Place) (bytes : List ℕ) (left : ℕ) (why : TickFault)
    → is_foreign place 13 ≡ true → IsOpen place bytes why → Refuses place bytes left 13 why
refuses_open_return place bytes left why f o =
    refuses (λ e. absurd (omega arith))
    (λ line r more. let p = foreign_plain place 13 bytes line f r in
    line_items-return_open line more p.apart (sym (plain_items line p) ∙ o.wrong line r))
    (λ line r. o.cause line (Some 13) refl r)

pub refuses_comment : (n : ℕ) (bytes : List ℕ) (left b : ℕ) → 120 ≤ n → b ≢ 10
    → Refuses (Comment n) bytes left b Long
refuses_comment n bytes left b h l =
    refuses l
    (λ line r more. rw r.is (comment_long (r.after ++ b ∷ more)
    (omega (arith, length-append r.after (b ∷ more), r.long))))
    (λ line r. rw r.is refl)

-- A byte other than LF and CR is refused, in a line that is no comment, if no content goes on with
-- it.
refuses_inside : {place : Place} {bytes : List ℕ} {left b : ℕ} {why : TickFault} → b ≢ 10 → b ≢ 13
    → ((line : List ℕ) → Reads place bytes line → (more : List ℕ)
    → starts_comment (line ++ b ∷ more) ≡ false)
    → ((line : List ℕ) → Reads place bytes line → (more : List ℕ)
    → content_items (line ++ b ∷ more) ≡ None)
    → ((line : List ℕ) → Reads place bytes line → fault_in_line line (Some b) ≡ why)
    → Refuses place bytes left b why
refuses_inside {b = b} l c apart f cause =
    refuses l (λ line r more. line_items-byte line b more (apart line r more) c
    ∙ f line r (without_return more)) cause

pub refuses_long : (bytes : List ℕ) (left b : ℕ) → is_hex_digit b ≡ true → 32 ≤ length bytes
    → Refuses Pairs bytes left b Long
refuses_long bytes left b d h =
    refuses_inside (hex_not_lf b d) (hex_not_cr b d) (λ line r more. rw r.is refl)
    (λ line r more. rw r.is (byte_items-long (r.digits ++ b ∷ more)
    (omega (arith, length-append r.digits (b ∷ more), hex_length r.digits bytes r.decoded))))
    (λ line r. rw r.is (long_cause r.digits (plain_pairs bytes r.digits r.decoded).whole
    (omega (arith, hex_length r.digits bytes r.decoded, r.fits))))
  where
    long_cause : (digits : List ℕ) → ends_in_return (43 ∷ digits) ≡ false → length digits ≡ 64
        → fault_in_line (43 ∷ digits) (Some b) ≡ Long
    long_cause digits w e = rw (
      w,
      test_of b 10 (hex_not_lf b d),
      test_of b 13 (hex_not_cr b d),
      d,
      e,
    ) refl

pub refuses_zero : (bytes : List ℕ) (left : ℕ) → Refuses Minus bytes left 48 Count
refuses_zero bytes left =
    refuses_inside (λ e. absurd (omega arith)) (λ e. absurd (omega arith))
    (λ line r more. rw r refl)
    (λ line r more. rw r (silence_items-zero more))
    (λ line r. rw r refl)

pub refuses_count : (n : ℕ) (bytes : List ℕ) (left b : ℕ) → is_decimal_digit b ≡ true
    → 1000000 < n * 10 + (b - 48) → Refuses (Number n) bytes left b Count
refuses_count n bytes left b d h =
    refuses_inside (digit_not_lf b d) (digit_not_cr b d) (λ line r more. rw r.is refl)
    (λ line r more. rw r.is (silence_items-big (r.digits ++ b ∷ more)
    (omega (
      arith,
      number_after-append 0 r.digits b more,
      number_after-grows (10 * number_after 0 r.digits + (b - 48)) more,
      r.number,
    ))))
    (λ line r. rw r.is (count_cause r.digits (plain_number r.digits r.plain).whole))
  where
    count_cause : (digits : List ℕ) → ends_in_return (45 ∷ digits) ≡ false
        → fault_in_line (45 ∷ digits) (Some b) ≡ Count
    count_cause digits w = rw (
      w,
      test_of b 10 (digit_not_lf b d),
      test_of b 13 (digit_not_cr b d),
      d,
    ) refl

pub refuses_after_return : (content : Content) (bytes : List ℕ) (left b : ℕ) → b ≢ 10
    → Refuses (Returned content) bytes left b Char
refuses_after_return content bytes left b l =
    refuses l
    (λ line r more. rw (r.is, append_assoc r.before (13 ∷ []) (b ∷ more))
    (line_items-return_inside r.before b more r.apart))
    (λ line r. rw r.is (return_cause r.before r.apart))
  where
    ends : (c : ℕ) (x : List ℕ) → ends_in_return (c ∷ (x ++ 13 ∷ [])) ≡ true
    ends c [] = refl
    ends c (d ∷ x) = ends d x

    return_cause : (x : List ℕ) → starts_comment x ≡ false
        → fault_in_line (x ++ 13 ∷ []) (Some b) ≡ Char
    return_cause [] h = refl
    return_cause (c ∷ x) h = rw (h, ends c x) refl

not_true : (t : Bool) → not t ≡ true → t ≡ false
not_true true h = cc
not_true false h = refl

or_false : (p q : Bool) → (p || q) ≡ false → (p ≡ false) × (q ≡ false)
or_false true q h = cc
or_false false q h = (refl, h)

-- The first byte of a line is refused if it is neither a sign nor an LF nor a CR.
pub refuses_start : (bytes : List ℕ) (left b : ℕ) → is_foreign Start b ≡ true → b ≢ 10 → b ≢ 13
    → Refuses Start bytes left b Char
refuses_start bytes left b f l c =
    refuses_inside l c (λ line r more. rw r signs.0)
    (λ line r more. rw r (none more)) (λ line r. rw r refl)
  where
    signs : ((b == 35) ≡ false) × ((b == 43) ≡ false) × ((b == 45) ≡ false) × ((b == 37) ≡ false)
    signs =
        let all = or_false (b == 35 || b == 43 || b == 45) (b == 37)
        (not_true (b == 35 || b == 43 || b == 45 || b == 37) f) in
        let one = or_false (b == 35 || b == 43) (b == 45) all.0 in
        let two = or_false (b == 35) (b == 43) one.0 in
        (two.0, two.1, one.1, all.1)

    none : (more : List ℕ) → content_items (b ∷ more) ≡ None
    none more = rw (signs.1, signs.2, signs.3) refl

-- A mark is refused if none is left: a line that begins with it has one mark too many.
pub refuses_percent : (bytes : List ℕ) (left : ℕ) → left ≡ 0 → Refuses Start bytes left 37 Char
refuses_percent bytes left none = record {
  wrong = λ _ line r more items e. let some : 0 < marks_in items =
      one_mark (without_return more) items (sym (line_of line r more) ∙ e) in omega arith;
  ended = λ e. absurd (omega arith);
  cause = λ line r. rw r refl;
}
  where
    line_of : (line : List ℕ) → line ≡ [] → (more : List ℕ)
        → line_items (line ++ 37 ∷ more) ≡ content_items (37 ∷ without_return more)
    line_of line r more = rw r (line_items-byte [] 37 more refl (λ e. absurd (omega arith)))

    one_mark : (more : List ℕ) (items : List Item) → content_items (37 ∷ more) ≡ Some items
        → 0 < marks_in items
    one_mark [] items e = let same : mark ∷ [] ≡ items = cc in rw (← same) (omega arith)
    one_mark (c ∷ more) items e = let none = mark_items-bad [] c more in cc

-- A foreign byte after this sign is refused if no content with the sign has it.
refuses_behind_sign : (place : Place) (bytes : List ℕ) (left b : ℕ) → is_foreign place b ≡ true
    → b ≢ 10 → b ≢ 13
    → (sign : ℕ) → (sign == 35) ≡ false
    → ((line : List ℕ) → Reads place bytes line → (x : List ℕ) × (line ≡ sign ∷ x))
    → ((x more : List ℕ) → content_items (sign ∷ (x ++ b ∷ more)) ≡ None)
    → ((x : List ℕ) → ends_in_return (sign ∷ x) ≡ false → fault_in_line (sign ∷ x) (Some b) ≡ Char)
    → Refuses place bytes left b Char
refuses_behind_sign place bytes left b f l c sign h form none cause =
    refuses_inside l c (λ line r more. rw (form line r).1 h)
    (λ line r more. let x = form line r in rw x.1 (none x.0 more))
    (λ line r. let x = form line r in rw x.1
    (cause x.0 (rw x.1 at (foreign_plain place b bytes line f r).whole)))

-- A foreign byte other than LF and CR is refused.
pub refuses_foreign : (place : Place) (bytes : List ℕ) (left b : ℕ) → is_foreign place b ≡ true
    → b ≢ 10 → b ≢ 13 → Refuses place bytes left b Char
refuses_foreign Start bytes left b f l c = refuses_start bytes left b f l c
refuses_foreign (Comment n) bytes left b f l c = cc
refuses_foreign Pairs bytes left b f l c =
    let d = not_true (is_hex_digit b) f in
    refuses_behind_sign Pairs bytes left b f l c 43 refl
    (λ line r. (r.digits, r.is))
    (λ x more. byte_items-bad x b more d)
    (λ x w. rw (w, test_of b 10 l, test_of b 13 c, d) refl)
refuses_foreign (HalfPair high) bytes left b f l c =
    let d = not_true (is_hex_digit b) f in
    refuses_behind_sign (HalfPair high) bytes left b f l c 43 refl
    (λ line r. (r.digits ++ r.digit ∷ [], r.is))
    (λ x more. byte_items-bad x b more d)
    (λ x w. rw (w, test_of b 10 l, test_of b 13 c, d) refl)
refuses_foreign Minus bytes left b f l c =
    let d = not_true (is_decimal_digit b) f in
    refuses_behind_sign Minus bytes left b f l c 45 refl
    (λ line r. ([], r))
    (λ x more. silence_items-bad x b more d)
    (λ x w. rw (w, test_of b 10 l, test_of b 13 c, d) refl)
refuses_foreign (Number n) bytes left b f l c =
    let d = not_true (is_decimal_digit b) f in
    refuses_behind_sign (Number n) bytes left b f l c 45 refl
    (λ line r. (r.digits, r.is))
    (λ x more. silence_items-bad x b more d)
    (λ x w. rw (w, test_of b 10 l, test_of b 13 c, d) refl)
refuses_foreign Percent bytes left b f l c =
    refuses_behind_sign Percent bytes left b f l c 37 refl (λ line r. ([], r))
    (λ x more. mark_items-bad x b more) (λ x w. rw w refl)
refuses_foreign (Returned content) bytes left b f l c = cc
refuses_foreign (Refused why) bytes left b f l c = cc
