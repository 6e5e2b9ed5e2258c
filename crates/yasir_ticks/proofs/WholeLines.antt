-- Whole lines of a text, each taken at once.
use Rattle.hex.specs.Hex.{decode_of, decode_pairs, hex_digit_value}
use Rattle.std.proofs.Common.{◌≡◌, ◌∙◌, ℕ, suc, zero, ◌+◌, ◌-◌, ◌<◌, ◌≤◌, true, List, [], ◌∷◌, ◌++◌}
use Rattle.std.proofs.Common.{length, take, get_or, Some, None, Ok, Err, Option, Result, inl, inr}
use Rattle.std.proofs.Common.{refl, ap, sym, subst, arith, append_assoc, append-nil, length-append}
use Rattle.std.proofs.{Common.drop, Common.◌*◌, lemmas.Bool.cases_eq, lemmas.Bool.lt-ltb}
use Rattle.std.proofs.lemmas.List.{take_more, take_all, length-take}
use Rattle.yasir_ticks.proofs.Completions.{begins_at}
use Rattle.yasir_ticks.proofs.Digits.{is_plain_decimal-more, number_after-append}
use Rattle.yasir_ticks.proofs.Feeding.{items_lf, line_ends, accepted_at, accepted_items, refused_at}
use Rattle.yasir_ticks.proofs.{Items.marks_in-content, Lines.IsFree, Lines.lines_of-free}
use Rattle.yasir_ticks.proofs.{Lines.free_behind, ManyBytes.goes_on_fed, ManyBytes.text_more}
use Rattle.yasir_ticks.proofs.Steps.{IsRightLine, pairs_right, number_right, closes_comment}
use Rattle.yasir_ticks.proofs.hex_digits.Decoding.{decode_of-more, take_pair}
use Rattle.yasir_ticks.specs.Place.{has_ticks}
use Rattle.yasir_ticks.specs.Reader.{IsAt, StandsFor, items_of_content, marks_of_content}
use Rattle.yasir_ticks.specs.ReaderStep.{Advances, line_with}
use Rattle.yasir_ticks.specs.Slices.{GoesOn, TakesLine, EndsLine, TakesUpTo, StopsAt, FeedsLine}
use Rattle.yasir_ticks.specs.Slices.{FeedsByte, TakesWhole, IsFewPairs}
use Rattle.yasir_ticks.specs.TickText.{lines_of, line_items, ended_items, is_decimal_digit}
use Rattle.yasir_ticks.specs.TickText.{is_plain_decimal, number_after}
use Rattle.yasir_ticks.specs.{Ticks.Item, Ticks.marks_in, declared.fault.BadTicks.BadTicks}
use Rattle.yasir_ticks.specs.declared.{fault.TickFault.TickFault, place.Content.Content}
use Rattle.yasir_ticks.specs.declared.place.Content.TheVariants.{NoTick, KeptBytes, SilentTicks}
use Rattle.yasir_ticks.specs.declared.place.{Content.TheVariants.OneMark, Place.TheVariants.Start}
use Rattle.yasir_ticks.specs.declared.{reader.TickReader.TickReader, whole_lines.Whole.Whole}

module _ (text line : List ℕ) (before : (lines_of text).last ≡ []) (free : IsFree line) where
  cut : lines_of (text ++ line) ≡ record { ended = (lines_of text).ended; last = line }
  cut = lines_of-free line text free
      ∙ ap (λ l. record { ended = (lines_of text).ended; last = l ++ line }) before

  free_quiet : ended_items (text ++ line) ≡ ended_items text
  free_quiet = rw cut refl

  -- Whole lines, followed by a line of a right form without a mark and its LF, bring a reader to
  -- the start of the next line.
  whole_at : (bytes new_bytes : List ℕ) (n left marks : ℕ) (own : List Item)
      → IsAt Start bytes n left marks text → line_items line ≡ Some own → marks_in own ≡ 0
      → IsAt Start new_bytes (n + 1) left marks ((text ++ line) ++ 10 ∷ [])
  whole_at bytes new_bytes n left marks own at stands none =
      line_ends (text ++ line) new_bytes n left marks own (rw cut at.ended) (rw cut at.counted)
      (rw cut (omega (arith, at.marked, none))) (rw cut stands)

  whole_items : (own : List Item) → line_items line ≡ Some own
      → ended_items ((text ++ line) ++ 10 ∷ []) ≡ ended_items text ++ own
  whole_items own stands =
      items_lf (text ++ line) own (rw cut stands) ∙ ap (λ l. l ++ own) free_quiet

-- If `has_ticks` holds of a content that has no items, the content is `NoTick`.
pub nothing_of : (content : Content) (bytes : List ℕ) → has_ticks content bytes ≡ true
    → items_of_content content bytes ≡ [] → content ≡ NoTick
nothing_of NoTick bytes h e = refl
nothing_of KeptBytes [] h e = cc
nothing_of KeptBytes (b ∷ bytes) h e = cc
nothing_of (SilentTicks zero) bytes h e = cc
nothing_of (SilentTicks (suc n)) bytes h e = cc
nothing_of OneMark bytes h e = cc

-- If a reader has taken a line at once, and these bytes begin with the line and its LF, then the
-- reader has ended the line in these bytes.
pub takes_ends : (old new : TickReader) (content : Content) (bytes : List ℕ) (n m : ℕ)
    → TakesLine old (take n bytes) content new → n < length bytes → get_or bytes n 0 ≡ 10
    → n + 1 ≡ m → EndsLine old bytes m content new
takes_ends old new content bytes n m t within feed sum =
    let line = take n bytes in
    let back : m - 1 ≡ n = omega arith in
    let whole : take m bytes ≡ line ++ 10 ∷ [] =
    ap (λ k. take k bytes) (sym sum) ∙ take_more bytes n 0 within ∙ ap (λ b. line ++ b ∷ []) feed in
    let parts : (text : List ℕ) → text ++ take m bytes ≡ (text ++ line) ++ 10 ∷ [] = λ text.
    ap (λ x. text ++ x) whole ∙ sym (append_assoc text line (10 ∷ [])) in
    let last : (marks : ℕ) (text : List ℕ) → StandsFor old marks text → (lines_of text).last ≡ [] =
    λ marks text s. last_of marks text s in
    record {
      some = omega arith;
      within = omega arith;
      feed = ap (λ k. get_or bytes k 0) back ∙ feed;
      stands = λ marks text s. record {
        at = rw (parts text, t.place, t.counted, t.left)
            (whole_at text line (last marks text s) t.free old.bytes.items new.bytes.items old.line
            old.left marks (items_of_content content new.bytes.items) (rw t.began at s.at) t.stands
            (marks_in-content content new.bytes.items ∙ t.no_mark));
      };
      items = λ marks text s. ap ended_items (parts text)
          ∙ whole_items text line (last marks text s) t.free
          (items_of_content content new.bytes.items) t.stands;
      quiet = λ marks text s. ap (λ k. ended_items (text ++ take k bytes)) back
          ∙ free_quiet text line (last marks text s) t.free;
      nothing = nothing_of content new.bytes.items t.ticks;
      lines = omega (arith, t.counted);
    }
  where
    last_of : (marks : ℕ) (text : List ℕ) → StandsFor old marks text → (lines_of text).last ≡ []
    last_of marks text s = (rw t.began at s.at).last

-- ---- one byte

line_one : (line b : ℕ) → line_with line b ≤ line + 1
line_one line b = grind arith

pub feeds_ok : (old new : TickReader) (b : ℕ) (ended : Option Content)
    → Advances old b (Ok ended) new → FeedsByte old b (Ok ended) new
feeds_ok old new b None a =
    goes_on_fed old new b
    (λ marks text s. record { at = accepted_at old new b marks text s [] a.case.0 a.case.1 })
    (λ marks text s. accepted_items old new b marks text s [] a.case.0)
    (omega (arith, a.case.1, line_one old.line b))
feeds_ok old new b (Some content) a = record {
  some = omega arith;
  within = omega arith;
  feed = elim (cases_eq b 10) [
    | inl e ↦ e
    | inr n ↦ cc (a.case.2 n)
  ];
  stands = λ marks text s. record {
    at = accepted_at old new b marks text s (items_of_content content new.bytes.items) a.case.0
        a.case.1;
  };
  items = λ marks text s. accepted_items old new b marks text s
      (items_of_content content new.bytes.items) a.case.0;
  quiet = λ marks text s. rw (append-nil text) refl;
  nothing = nothing_of content new.bytes.items a.case.3;
  lines = omega (arith, a.case.1, line_one old.line b);
}

pub feeds_err : (old new : TickReader) (b : ℕ) (why : TickFault) → Advances old b (Err why) new
    → FeedsByte old b (Err (record { line = new.line; why = why })) new
feeds_err old new b why a = record {
  within = omega arith;
  refused = λ marks text s. rw (append-nil text) (
    record {
      begins = begins_at s.at;
      refused = refused_at old.place old.bytes.items old.line old.left marks text s.at b why
          a.case.0;
    },
    a.case.1 ∙ s.at.counted,
    sym (a.case.0.cause (lines_of text).last s.at.last),
    refl,
  );
  lines = omega (arith, a.case.1);
  remembered = record { place = a.case.2; line = refl };
}

-- ---- one byte after some that ended no line with ticks or a mark

module _ (a b c : TickReader) (bytes : List ℕ) (n : ℕ) (within : n < length bytes)
    (goes : GoesOn a (take n bytes) b) where
  lines_so_far : b.line ≤ a.line + n
  lines_so_far = omega (arith, goes.lines, length-take n bytes)

  pub ends_after : (content : Content) → EndsLine b (get_or bytes n 0 ∷ []) 1 content c
      → EndsLine a bytes (n + 1) content c
  ends_after content e =
      let back : n + 1 - 1 ≡ n = omega arith in
      record {
        some = omega arith;
        within = omega arith;
        feed = ap (λ k. get_or bytes k 0) back ∙ e.feed;
        stands = λ marks text s. subst (StandsFor c marks) (text_more text bytes n within)
            (e.stands marks (text ++ take n bytes) (goes.stands marks text s));
        items = λ marks text s. ap ended_items (sym (text_more text bytes n within))
            ∙ e.items marks (text ++ take n bytes) (goes.stands marks text s)
            ∙ ap (λ l. l ++ items_of_content content c.bytes.items) (goes.quiet marks text s);
        quiet = λ marks text s. ap (λ k. ended_items (text ++ take k bytes)) back
            ∙ goes.quiet marks text s;
        nothing = e.nothing;
        lines = omega (arith, e.lines, lines_so_far);
      }

  pub stops_after : (bad : BadTicks) → StopsAt b (get_or bytes n 0 ∷ []) 0 bad c
      → StopsAt a bytes n bad c
  stops_after bad e = record {
    within = within;
    refused = λ marks text s.
        let told = rw (append-nil (text ++ take n bytes)) at
        (e.refused marks (text ++ take n bytes) (goes.stands marks text s)) in
        (told.0, told.1, told.2, goes.quiet marks text s);
    lines = omega (arith, e.lines, lines_so_far);
    remembered = e.remembered;
  }

-- ---- up to the end of a line

module _ (old new : TickReader) (bytes : List ℕ) (taken : ℕ) where
  pub line_within : (result : Result Content BadTicks) → FeedsLine old bytes taken result new
      → taken ≤ length bytes
  line_within (Ok content) t = t.within
  line_within (Err bad) s = omega (arith, s.within)

  -- If the bytes ended a line, they were taken up to its end.
  pub line_ended : (content : Content) → EndsLine old bytes taken content new
      → TakesUpTo old bytes taken content new
  line_ended content e = record {
    within = e.within;
    stands = e.stands;
    begins = λ marks text s. begins_at (e.stands marks text s).at;
    items = e.items;
    nothing = e.nothing;
    last = λ marks text s ticks. (e.some, e.quiet marks text s);
    whole = λ more. e.feed;
    progress = λ some. e.some;
    lines = e.lines;
  }

  -- If all bytes were taken, and ended no line with ticks or a mark, they were taken up to their
  -- end.
  pub all_taken : taken ≡ length bytes → GoesOn old (take taken bytes) new
      → TakesUpTo old bytes taken NoTick new
  all_taken all goes = record {
    within = omega arith;
    stands = goes.stands;
    begins = λ marks text s. begins_at (goes.stands marks text s).at;
    items = λ marks text s. goes.quiet marks text s ∙ sym (append-nil (ended_items text));
    nothing = λ none. refl;
    last = λ marks text s ticks. absurd (ticks refl);
    whole = λ more. absurd (omega arith);
    progress = λ some. omega arith;
    lines = omega (arith, goes.lines, length-take taken bytes);
  }

-- ---- the usual lines

pub takes_right : (old new : TickReader) (line : List ℕ) (content : Content) → old.place ≡ Start
    → new.place ≡ Start → new.line ≡ old.line + 1 → new.left ≡ old.left
    → IsRightLine line (items_of_content content new.bytes.items)
    → has_ticks content new.bytes.items ≡ true → marks_of_content content ≡ 0
    → TakesLine old line content new
takes_right old new line content p q l m right ticks none = record {
  began = p;
  free = right.free;
  stands = right.stands;
  ticks = ticks;
  no_mark = none;
  place = q;
  counted = l;
  left = m;
}

pub takes_pairs : (old new : TickReader) (digits bytes : List ℕ) → old.place ≡ Start
    → new.place ≡ Start → new.line ≡ old.line + 1 → new.left ≡ old.left
    → new.bytes.items ≡ bytes → decode_of digits ≡ Ok bytes → 0 < length bytes
    → length bytes ≤ 32 → TakesLine old (43 ∷ digits) KeptBytes new
takes_pairs old new digits bytes p q l m kept decoded some fits =
    takes_right old new (43 ∷ digits) KeptBytes p q l m
    (rw kept (pairs_right digits bytes decoded some fits))
    (rw kept (lt-ltb 0 (length bytes) some)) refl

pub takes_number : (old new : TickReader) (digits : List ℕ) (n : ℕ) → old.place ≡ Start
    → new.place ≡ Start → new.line ≡ old.line + 1 → new.left ≡ old.left
    → is_plain_decimal digits ≡ true → number_after 0 digits ≡ n → 0 < n → n ≤ 1000000
    → TakesLine old (45 ∷ digits) (SilentTicks n) new
takes_number old new digits n p q l m plain number some fits =
    takes_right old new (45 ∷ digits) (SilentTicks n) p q l m
    (number_right digits n plain number fits) (lt-ltb 0 n some) refl

pub takes_comment : (old new : TickReader) (after : List ℕ) → old.place ≡ Start
    → new.place ≡ Start → new.line ≡ old.line + 1 → new.left ≡ old.left
    → IsFree after → length after ≤ 120 → TakesLine old (35 ∷ after) NoTick new
takes_comment old new after p q l m free fits =
    takes_right old new (35 ∷ after) NoTick p q l m (record {
      free = free_behind 35 after (λ e. absurd (omega arith)) free;
      stands = (closes_comment (length after) new.bytes.items).stands (35 ∷ after)
          (record { after = after; is = refl; long = refl; fits = fits });
    }) refl refl

-- If a reader has taken a line, given its first byte and what follows, then it has ended the line
-- in all these bytes.
pub whole_ends : (old new : TickReader) (sign : ℕ) (rest : List ℕ) (whole : Whole)
    → TakesWhole old sign rest new whole
    → EndsLine old (sign ∷ rest) (whole.len + 2) whole.content new
whole_ends old new sign rest whole t =
    let one : suc whole.len ≡ whole.len + 1 = omega arith in
    takes_ends old new whole.content (sign ∷ rest) (suc whole.len) (whole.len + 2)
    t.takes (omega (arith, t.within)) t.ends (omega arith)

-- If a reader has taken a line, given the first byte of a slice and the others, then it has ended
-- the line in the slice.
pub line_behind : (old new : TickReader) (bytes : List ℕ) (whole : Whole)
    → TakesWhole old (get_or bytes 0 0) (take (length bytes - 1) (drop 1 bytes)) new whole
    → EndsLine old bytes (whole.len + 2) whole.content new
line_behind old new [] whole t = absurd (omega (arith, t.within))
line_behind old new (b ∷ rest) whole t =
    let all : take (length (b ∷ rest) - 1) rest ≡ rest =
    take_all (length (b ∷ rest) - 1) rest (omega arith) in
    whole_ends old new b rest whole (subst (λ l. TakesWhole old b l new whole) all t)

-- One more digit keeps a number a plain decimal. Its value is then ten times the old one, plus that
-- of the digit.
pub digit_more : (bytes : List ℕ) (n number d m : ℕ) → n < length bytes → get_or bytes n 0 ≡ d
    → 48 ≤ d → d ≤ 57 → is_plain_decimal (take n bytes) ≡ true
    → number_after 0 (take n bytes) ≡ number → 10 * number + (d - 48) ≡ m
    → (is_plain_decimal (take (n + 1) bytes) ≡ true) × (number_after 0 (take (n + 1) bytes) ≡ m)
digit_more bytes n number d m within is low high plain told sum =
    let whole : take (n + 1) bytes ≡ take n bytes ++ d ∷ [] =
    take_more bytes n 0 within ∙ ap (λ b. take n bytes ++ b ∷ []) is in (
      ap is_plain_decimal whole ∙ is_plain_decimal-more (take n bytes) d plain (digit d low high),
      ap (number_after 0) whole ∙ number_after-append 0 (take n bytes) d []
          ∙ ap (λ k. 10 * k + (d - 48)) told ∙ sum,
    )
  where
    digit : (d : ℕ) → 48 ≤ d → d ≤ 57 → is_decimal_digit d ≡ true
    digit d low high = grind arith

-- One more pair of digits decodes to one more byte.
pub pair_more : (bytes line new : List ℕ) (at high low : ℕ) → at ≡ 2 * length line
    → at + 2 < length bytes → decode_of (take at bytes) ≡ Ok line
    → Some high ≡ hex_digit_value (get_or bytes at 0)
    → Some low ≡ hex_digit_value (get_or bytes (at + 1) 0)
    → new ≡ line ++ (high * 16 + low) ∷ []
    → (decode_of (take (at + 2) bytes) ≡ Ok new) × (at + 2 ≡ 2 * length new)
pair_more bytes line new at high low is within decoded first second made = (
  ap decode_of (take_pair bytes at (omega arith))
      ∙ decode_of-more (take at bytes) line (get_or bytes at 0) (get_or bytes (at + 1) 0) high low
      decoded (sym first) (sym second) ∙ ap Ok (sym made),
  omega (arith, ap length made, length-append line ((high * 16 + low) ∷ []), is),
)

pub none_decoded : (line : List ℕ) → line ≡ [] → decode_of [] ≡ Ok line
unfolding decode_pairs
none_decoded line none = rw none refl

-- A reader takes a line of few pairs at once.
pub takes_few : (old new : TickReader) (bytes items : List ℕ) (len : ℕ) → old.place ≡ Start
    → new.place ≡ Start → new.line ≡ old.line + 1 → new.left ≡ old.left
    → new.bytes.items ≡ items → IsFewPairs bytes items → len ≡ 2 * length items
    → TakesWhole old 43 bytes new (record { len = len; content = KeptBytes })
takes_few old new bytes items len p q l m kept few sum = rw sum (record {
  within = few.within;
  ends = few.ends;
  takes = takes_pairs old new (take (2 * length items) bytes) items p q l m kept few.decoded
      few.some few.fits;
})

pub few_ended : (bytes items : List ℕ) (n : ℕ) → n ≡ 2 * length items → n < length bytes
    → get_or bytes n 0 ≡ 10 → decode_of (take n bytes) ≡ Ok items → 0 < n → n ≤ 64
    → IsFewPairs bytes items
few_ended bytes items n sum within feed decoded some fits = record {
  within = omega arith;
  ends = ap (λ k. get_or bytes k 0) (sym sum) ∙ feed;
  decoded = ap (λ k. decode_of (take k bytes)) (sym sum) ∙ decoded;
  some = omega arith;
  fits = omega arith;
}

-- One pair of digits and an LF are few pairs.
pub one_pair : (bytes : List ℕ) (high low : ℕ) → 2 < length bytes → get_or bytes 2 0 ≡ 10
    → Some high ≡ hex_digit_value (get_or bytes 0 0)
    → Some low ≡ hex_digit_value (get_or bytes 1 0)
    → IsFewPairs bytes ((high * 16 + low) ∷ [])
one_pair bytes high low within feed first second =
    let more = pair_more bytes [] ((high * 16 + low) ∷ []) 0 high low refl within
    (none_decoded [] refl) first second refl in
    few_ended bytes ((high * 16 + low) ∷ []) 2 refl within feed more.0 (omega arith) (omega arith)
