-- The canonical text of ticks represents them, and nothing else.
use Rattle.hex.{proofs.HexLemmas.decode_of-encode_lower, specs.Hex.encode_lower, specs.Hex.IsBytes}
use Rattle.std.proofs.Common.{◌≡◌, ◌∙◌, ℕ, zero, suc, ◌+◌, ◌-◌, ◌/◌, ◌%◌, ◌^◌, ◌<◌, ◌≤◌, true, List}
use Rattle.std.proofs.Common.{[], ◌∷◌, ◌++◌, length, map, take, drop, replicate, Some, refl, sym}
use Rattle.std.proofs.Common.{ap, arith, append_assoc, inl, inr}
use Rattle.std.proofs.lemmas.{Bool.cases_lt, Fmt.decimal_by_steps}
use Rattle.std.proofs.lemmas.List.{append-nil, map-append, length-take, get_or_past}
use Rattle.std.proofs.lemmas.List.{take-append-drop, length-drop, replicate-append-replicate}
use Rattle.std.proofs.lemmas.List.Elements.{All-nil, All-cons, All-take, All-drop, All-get_or}
use Rattle.std.specs.{Fmt.decimal, List.flat_map, List.All}
use Rattle.yasir_ticks.proofs.Digits.{is_plain_decimal-more, number_after-append}
use Rattle.yasir_ticks.proofs.{Items.all_items_cons, Lines.all_lines, Lines.all_lines-line}
use Rattle.yasir_ticks.proofs.Steps.{IsRightLine, pairs_right, number_right}
use Rattle.yasir_ticks.proofs.TickRuns.{ticks_in-ticks}
use Rattle.yasir_ticks.proofs.Writing.{full_bytes, last_bytes, full_silence, last_silence}
use Rattle.yasir_ticks.specs.CanonicalText.{Stretch, stretches, with_tick, stretch_lines, byte_line}
use Rattle.yasir_ticks.specs.CanonicalText.{silence_line, canonical_text}
use Rattle.yasir_ticks.specs.CanonicalText.Stretch.{bytes, silence}
use Rattle.yasir_ticks.specs.TickText.{lines_of, line_items, all_items, is_decimal_digit}
use Rattle.yasir_ticks.specs.TickText.{is_plain_decimal, number_after, IsTickText}
use Rattle.yasir_ticks.specs.Ticks.{Item, IsTick, AreTicks, marks_in, ticks_in, Item.tick}
use Rattle.yasir_ticks.specs.declared.tick.Tick.{Tick, TheVariants.Silent, TheVariants.Byte}

-- ---- one line

-- Holds if a text adds these items before those of any lines that follow.
abbrev Adds : List ℕ → List Item → Type 0
Adds text items = (more : List ℕ) (others : List Item) → all_items (all_lines more) ≡ Some others
    → all_items (all_lines (text ++ more)) ≡ Some (items ++ others)

adds-nil : Adds [] []
adds-nil more others h = h

adds-append : (x y : List ℕ) (i j : List Item) → Adds x i → Adds y j → Adds (x ++ y) (i ++ j)
adds-append x y i j first second more others h =
    ap (λ t. all_items (all_lines t)) (append_assoc x y more)
    ∙ (first (y ++ more) (j ++ others) (second more others h)
    ∙ ap Some (sym (append_assoc i j others)))

adds-as : (x y : List ℕ) (i j : List Item) → x ≡ y → i ≡ j → Adds x i → Adds y j
adds-as x y i j e f adds more others h =
    ap (λ t. all_items (all_lines (t ++ more))) (sym e)
    ∙ (adds more others h ∙ ap (λ items. Some (items ++ others)) f)

adds-line : (line : List ℕ) (items : List Item) → IsRightLine line items
    → Adds (line ++ 10 ∷ []) items
adds-line line items right more others h =
    ap (λ t. all_items (all_lines t)) (append_assoc line (10 ∷ []) more)
    ∙ ap all_items (all_lines-line line more right.free)
    ∙ all_items_cons line (all_lines more) items others right.stands h

-- ---- bytes

abbrev byte_ticks : List ℕ → List Item
byte_ticks l = map (λ b. tick (Byte b)) l

bytes_from : (l : List ℕ) → All (λ b. b < 256) l → IsBytes l
bytes_from l all i = elim (cases_lt i (length l)) [
  | inl h ↦ All-get_or (λ x. x < 256) l i 0 h all
  | inr h ↦ rw (get_or_past l i 0 h) (omega arith)
]

adds-bytes : (l : List ℕ) → All (λ b. b < 256) l → 1 ≤ length l → length l ≤ 32
    → Adds (byte_line l) (byte_ticks l)
adds-bytes l all some few = adds-line (43 ∷ encode_lower l) (byte_ticks l)
    (pairs_right (encode_lower l) l (decode_of-encode_lower l (bytes_from l all)) (omega arith) few)

-- The lines of a stretch of at most n bytes add its bytes.
adds-lines : (n : ℕ) (l : List ℕ) → length l ≤ n → All (λ b. b < 256) l
    → Adds (stretch_lines (bytes l)) (byte_ticks l)
adds-lines n [] within all = adds-nil
adds-lines zero (b ∷ l) within all = absurd (omega arith)
adds-lines (suc n) (b ∷ l) within all = elim (cases_lt (length (b ∷ l)) 33) [
  | inl few ↦ adds-as (byte_line (b ∷ l)) (stretch_lines (bytes (b ∷ l))) (byte_ticks (b ∷ l))
      (byte_ticks (b ∷ l)) (sym (last_bytes (b ∷ l) (omega arith) (omega arith))) refl
      (adds-bytes (b ∷ l) all (omega arith) (omega arith))
  | inr many ↦
      let front = take 32 (b ∷ l) in
      let rest = drop 32 (b ∷ l) in
      let full : length front ≡ 32 = omega (arith, length-take 32 (b ∷ l)) in
      let fewer : length rest ≤ n = omega (arith, length-drop 32 (b ∷ l)) in
      let whole : front ++ rest ≡ b ∷ l = take-append-drop 32 (b ∷ l) in
      adds-as (byte_line front ++ stretch_lines (bytes rest)) (stretch_lines (bytes (b ∷ l)))
      (byte_ticks front ++ byte_ticks rest) (byte_ticks (b ∷ l))
      (sym (full_bytes front rest full) ∙ ap (λ x. stretch_lines (bytes x)) whole)
      (sym (map-append (λ b. tick (Byte b)) front rest) ∙ ap byte_ticks whole)
      (adds-append (byte_line front) (stretch_lines (bytes rest)) (byte_ticks front)
      (byte_ticks rest)
      (adds-bytes front (All-take (λ b. b < 256) 32 (b ∷ l) all) (omega arith) (omega arith))
      (adds-lines n rest fewer (All-drop (λ b. b < 256) 32 (b ∷ l) all)))
]

-- ---- silence

-- Holds if these are the digits of a number as a line has them.
record IsCount (n : ℕ) (digits : List ℕ) : Type 0 where
  plain : is_plain_decimal digits ≡ true
  number : number_after 0 digits ≡ n

counts : (n : ℕ) → 0 < n → n < 2 ^ 64 → IsCount n (decimal n)
counts n some fits = decimal_by_steps (λ n digits. 0 < n → IsCount n digits) one more n fits some
  where
    one : (n : ℕ) → n < 10 → 0 < n → IsCount n ((48 + n) ∷ [])
    one n few some = record { plain = one_digit n few some; number = omega arith }
      where
        one_digit : (n : ℕ) → n < 10 → 0 < n → is_plain_decimal ((48 + n) ∷ []) ≡ true
        one_digit n few some = grind arith

    digit : (n : ℕ) → is_decimal_digit (48 + n % 10) ≡ true
    digit n = grind arith

    more : (n : ℕ) (digits : List ℕ) → 10 ≤ n → (0 < n / 10 → IsCount (n / 10) digits) → 0 < n
        → IsCount n (digits ++ (48 + n % 10) ∷ [])
    more n digits big before some =
        let rest = before (omega arith) in
        let number : number_after 0 digits ≡ n / 10 = rest.number in
        record {
          plain = is_plain_decimal-more digits (48 + n % 10) rest.plain (digit n);
          number = number_after-append 0 digits (48 + n % 10) [] ∙ omega arith;
        }

adds-silence : (n : ℕ) → 0 < n → n ≤ 1000000 → Adds (silence_line n) (replicate n (tick Silent))
adds-silence n some few =
    let fits : n < 2 ^ 64 = omega arith in
    let count : IsCount n (decimal n) = counts n some fits in
    adds-line (45 ∷ decimal n) (replicate n (tick Silent))
    (number_right (decimal n) n count.plain count.number few)

-- If the lines of m silent ticks add these ticks, then the lines of k silent ticks, one full line
-- more, add those.
adds-more : (full m k : ℕ) → full ≡ 1000000 → full + m ≡ k
    → Adds (stretch_lines (silence m)) (replicate m (tick Silent))
    → Adds (stretch_lines (silence k)) (replicate k (tick Silent))
adds-more full m k is sum rest = adds-as (silence_line full ++ stretch_lines (silence m))
    (stretch_lines (silence k)) (replicate full (tick Silent) ++ replicate m (tick Silent))
    (replicate k (tick Silent))
    (sym (full_silence full m is) ∙ ap (λ n. stretch_lines (silence n)) sum)
    (replicate-append-replicate full m (tick Silent) ∙ ap (λ n. replicate n (tick Silent)) sum)
    (adds-append (silence_line full) (stretch_lines (silence m)) (replicate full (tick Silent))
    (replicate m (tick Silent)) (adds-silence full (omega arith) (omega arith)) rest)

-- The lines of a stretch of at most n silent ticks add these ticks.
adds-silences : (n k : ℕ) → k ≤ n
    → Adds (stretch_lines (silence k)) (replicate k (tick Silent))
adds-silences n zero within = adds-nil
adds-silences zero (suc k) within = absurd (omega arith)
adds-silences (suc n) (suc k) within = elim (cases_lt (suc k) 1000001) [
  | inl few ↦ adds-as (silence_line (suc k)) (stretch_lines (silence (suc k)))
      (replicate (suc k) (tick Silent)) (replicate (suc k) (tick Silent))
      (sym (last_silence (suc k) (omega arith) (omega arith))) refl
      (adds-silence (suc k) (omega arith) (omega arith))
  | inr many ↦ adds-more 1000000 (suc k - 1000000) (suc k) refl (omega arith)
      (adds-silences n (suc k - 1000000) (omega arith))
]

-- ---- stretches

abbrev items_of_stretch : Stretch → List Item
items_of_stretch (bytes l) = byte_ticks l
items_of_stretch (silence n) = replicate n (tick Silent)

abbrev IsRight : Stretch → Type 0
IsRight (bytes l) = All (λ b. b < 256) l
IsRight (silence n) = Unit {0}

abbrev AreRight : List Stretch → Type 0
AreRight [] = Unit {0}
AreRight (s ∷ more) = IsRight s × AreRight more

adds-stretch : (s : Stretch) → IsRight s → Adds (stretch_lines s) (items_of_stretch s)
adds-stretch (bytes l) right = adds-lines (length l) l (omega arith) right
adds-stretch (silence n) right = adds-silences n n (omega arith)

adds-stretches : (parts : List Stretch) → AreRight parts
    → Adds (flat_map stretch_lines parts) (flat_map items_of_stretch parts)
adds-stretches [] right = adds-nil
adds-stretches (s ∷ parts) right = adds-append (stretch_lines s) (flat_map stretch_lines parts)
    (items_of_stretch s) (flat_map items_of_stretch parts) (adds-stretch s right.0)
    (adds-stretches parts right.1)

with_tick-right : (t : Tick) (parts : List Stretch) → IsTick t → AreRight parts
    → AreRight (with_tick t parts)
with_tick-right (Byte b) [] fits right =
    (All-cons (λ x. x < 256) b [] fits (All-nil (λ x. x < 256)), tt)
with_tick-right (Byte b) (bytes l ∷ more) fits right =
    (All-cons (λ x. x < 256) b l fits right.0, right.1)
with_tick-right (Byte b) (silence n ∷ more) fits right =
    (All-cons (λ x. x < 256) b [] fits (All-nil (λ x. x < 256)), right)
with_tick-right Silent [] fits right = (tt, tt)
with_tick-right Silent (bytes l ∷ more) fits right = (tt, right)
with_tick-right Silent (silence n ∷ more) fits right = (tt, right.1)

stretches-right : (ticks : List Tick) → AreTicks ticks → AreRight (stretches ticks)
stretches-right [] are = tt
stretches-right (t ∷ ticks) are = with_tick-right t (stretches ticks) are.0
    (stretches-right ticks are.1)

with_tick-items : (t : Tick) (parts : List Stretch)
    → flat_map items_of_stretch (with_tick t parts) ≡ tick t ∷ flat_map items_of_stretch parts
with_tick-items (Byte b) [] = refl
with_tick-items (Byte b) (bytes l ∷ more) = refl
with_tick-items (Byte b) (silence n ∷ more) = refl
with_tick-items Silent [] = refl
with_tick-items Silent (bytes l ∷ more) = refl
with_tick-items Silent (silence n ∷ more) = refl

stretches-items : (ticks : List Tick) → flat_map items_of_stretch (stretches ticks) ≡ map tick ticks
stretches-items [] = refl
stretches-items (t ∷ ticks) = with_tick-items t (stretches ticks)
    ∙ ap (λ l. tick t ∷ l) (stretches-items ticks)

marks_in-ticks : (ticks : List Tick) → marks_in (map tick ticks) ≡ 0
marks_in-ticks [] = refl
marks_in-ticks (t ∷ ticks) = marks_in-ticks ticks

no_line : all_items (all_lines []) ≡ Some []
unfolding lines_of line_items
no_line = refl

-- The canonical text of ticks represents them.
pub canonical_text-stands : (ticks : List Tick) → AreTicks ticks
    → IsTickText 0 (canonical_text ticks) (map tick ticks)
canonical_text-stands ticks are = record {
  lines = ap (λ t. all_items (all_lines t)) (sym (append-nil (canonical_text ticks)))
      ∙ (adds-stretches (stretches ticks) (stretches-right ticks are) [] [] no_line
      ∙ ap Some (append-nil (flat_map items_of_stretch (stretches ticks)) ∙ stretches-items ticks));
  marked = marks_in-ticks ticks;
}

-- Two lists of ticks with the same canonical text are equal.
pub canonical_text-same : (a b : List Tick) → AreTicks a → AreTicks b
    → canonical_text a ≡ canonical_text b → a ≡ b
canonical_text-same a b are bre same =
    let text_a = canonical_text-stands a are in
    let text_b = canonical_text-stands b bre in
    let items : Some (map tick a) ≡ Some (map tick b) =
    sym text_a.lines ∙ (ap (λ t. all_items (all_lines t)) same ∙ text_b.lines) in
    let one : map tick a ≡ map tick b = cc in
    sym (ticks_in-ticks a) ∙ (ap ticks_in one ∙ ticks_in-ticks b)
