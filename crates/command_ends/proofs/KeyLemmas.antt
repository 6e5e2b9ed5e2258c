-- A key text, by its digits and what comes after them.
use Rattle.std.proofs.Common.{◌≡◌, ℕ, zero, suc, ◌+◌, ◌-◌, ◌*◌, ◌/◌, ◌%◌, ◌<◌, ◌≤◌, ◌⊎◌, inl, inr}
use Rattle.std.proofs.Common.{List, [], ◌∷◌, ◌++◌, length, length-append, take, drop, replicate}
use Rattle.std.proofs.Common.{slice_index, true, false, Result, Ok, Err, refl, sym, ap, subst, ◌∙◌}
use Rattle.std.proofs.Common.{append_assoc, append-nil, arith}
use Rattle.std.specs.{Io.KnownBytes.prepend_known, List.AllPass}
use Rattle.std.specs.Prelude.{MatchResult, ⊤, Option, Some, None}
use borrow.Rule.Slice.PartMut.{put_mid}
use Rattle.hex.proofs.HexLemmas.{decode_of-digits, decode_of-ok, decode_sized-twice}
use Rattle.hex.specs.Hex.{decode_of, decode_sized, is_hex_digit}
use Rattle.{hex.specs.declared.error.FromHexError.FromHexError, command_ends.specs.KeyText.IsKeyText}
use Rattle.command_ends.specs.KeyText.{IsKeyEnding, BeginsKey, BeginsEnding, IsLongestFront, IsKeyPlace}
use Rattle.{command_ends.specs.KeyText.IsNoKey, std.proofs.Common.take-take}
use Rattle.std.proofs.{Math.Seq.take-append_seam, Math.Seq.take-append-add, lemmas.Bool.cases_lt}
use Rattle.std.proofs.lemmas.List.{take-append-drop, length-replicate, length-take-le}
use Rattle.std.proofs.lemmas.List.Elements.{All-head, All-tail, All-append, All-replicate}
use Rattle.std.{proofs.lemmas.Slice.take-put_mid, specs.Char.is_ascii_hexdigit}

pub hexdigit_same : (c : ℕ) → is_ascii_hexdigit c ≡ is_hex_digit c
hexdigit_same c = grind arith

-- the room for the bytes that these digits spell, before they are decoded
abbrev pub room_of : List ℕ → List ℕ
room_of digits = take (length digits / 2) (replicate 64 0)

pub room_for : (digits : List ℕ) → length digits % 2 ≡ 0 → length digits ≤ 128
    → length digits ≡ 2 * length (room_of digits)
room_for digits even few =
    let zeros : List ℕ = replicate 64 0 in
    let sixty_four : length zeros ≡ 64 = refl in
    let half : length (room_of digits) ≡ length digits / 2 =
    length-take-le (length digits / 2) zeros (omega (arith, sixty_four)) in
    omega (arith, half)

-- If the digits are twice as many as the room has bytes, they are decoded into all of it.
pub spelled : (digits out : List ℕ) (n : ℕ) (r : Result (Unit {0}) FromHexError)
    → AllPass is_hex_digit digits → length digits ≡ 2 * n
    → MatchResult (decode_sized digits n) (λ bytes. (r ≡ Ok tt) × (out ≡ bytes)) (λ e. r ≡ Err e)
    → (r ≡ Ok tt) × (decode_of digits ≡ Ok out)
spelled digits out n r pass len h =
    let key = decode_of-digits digits (omega arith) pass in
    let said = rw (decode_sized-twice digits n len, key.1) at h in
    (said.0, key.1 ∙ ap Ok (sym said.1))

-- If the first `n` bytes begin some ending, they are none, LF or CR, or CR LF.
ending_cases : (n : ℕ) (rest : List ℕ) → n ≤ length rest → BeginsEnding (take n rest)
    → (n ≡ 0) ⊎ (((n ≡ 1) × ((slice_index rest 0 ≡ 10) ⊎ (slice_index rest 0 ≡ 13)))
    ⊎ ((n ≡ 2) × (slice_index rest 0 ≡ 13) × (slice_index rest 1 ≡ 10)))
ending_cases zero rest le h = inl refl
ending_cases (suc n) [] le h = absurd (omega arith)
ending_cases (suc zero) (a ∷ rest) le (more, inl e) = cc
ending_cases (suc zero) (a ∷ rest) le (more, inr (inl e)) = let f : a ≡ 10 = cc in
    inr (inl (refl, inl f))
ending_cases (suc zero) (a ∷ rest) le (more, inr (inr e)) = let f : a ≡ 13 = cc in
    inr (inl (refl, inr f))
ending_cases (suc (suc n)) (a ∷ []) le h = absurd (omega arith)
ending_cases (suc (suc zero)) (a ∷ b ∷ rest) le (more, inl e) = cc
ending_cases (suc (suc zero)) (a ∷ b ∷ rest) le (more, inr (inl e)) = cc
ending_cases (suc (suc zero)) (a ∷ b ∷ rest) le (more, inr (inr e)) =
    let f : a ≡ 13 = cc in let g : b ≡ 10 = cc in inr (inr (refl, f, g))
ending_cases (suc (suc (suc n))) (a ∷ b ∷ []) le h = absurd (omega arith)
ending_cases (suc (suc (suc n))) (a ∷ b ∷ c ∷ rest) le (more, inl e) = cc
ending_cases (suc (suc (suc n))) (a ∷ b ∷ c ∷ rest) le (more, inr (inl e)) = cc
ending_cases (suc (suc (suc n))) (a ∷ b ∷ c ∷ rest) le (more, inr (inr e)) = cc

cr_first : (rest : List ℕ) → 0 < length rest → slice_index rest 0 ≡ 13 → BeginsEnding (take 1 rest)
cr_first [] some e = absurd (omega arith)
cr_first (a ∷ rest) some e = (10 ∷ [], inr (inr (ap (λ b. b ∷ 10 ∷ []) e)))

pub cr_begun : (rest : List ℕ) → 0 < length rest → slice_index rest 0 ≡ 13
    → (length rest ≡ 1) ⊎ (slice_index rest 1 ≡ 10 → ⊥) → IsLongestFront BeginsEnding rest 1
cr_begun rest some cr alone = record {
  within = omega arith;
  begins = cr_first rest some cr;
  longest = λ n le h. elim (ending_cases n rest le h) [
    | inl none ↦ omega arith
    | inr (inl one) ↦ omega (arith, one.0)
    | inr (inr two) ↦ elim alone [ inl short ↦ omega arith | inr other ↦ absurd (other two.2) ]
  ];
}

-- Holds if the text doesn't begin with a digit.
abbrev HasNoDigitFirst : List ℕ → Type 0
HasNoDigitFirst [] = ⊤
HasNoDigitFirst (b ∷ rest) = is_hex_digit b ≡ false

no_digit_first : (count : ℕ) (text : List ℕ) → count ≤ length text
    → (count ≡ length text) ⊎ (is_hex_digit (slice_index text count) ≡ false)
    → HasNoDigitFirst (drop count text)
no_digit_first zero [] le stops = tt
no_digit_first zero (b ∷ text) le (inl e) = absurd (omega arith)
no_digit_first zero (b ∷ text) le (inr e) = e
no_digit_first (suc count) [] le stops = absurd (omega arith)
no_digit_first (suc count) (b ∷ text) le (inl e) =
    no_digit_first count text (omega arith) (inl (omega arith))
no_digit_first (suc count) (b ∷ text) le (inr e) = no_digit_first count text (omega arith) (inr e)

-- The count of a text's digits stops at 128, or at a place at which no digit follows.
stops_at : (count : ℕ) (text : List ℕ) → count ≤ length text
    → (count ≡ length text) ⊎ ((count ≡ 128) ⊎ (is_hex_digit (slice_index text count) ≡ false))
    → (count ≡ 128) ⊎ HasNoDigitFirst (drop count text)
stops_at count text le (inl e) = inr (no_digit_first count text le (inl e))
stops_at count text le (inr (inl e)) = inl e
stops_at count text le (inr (inr e)) = inr (no_digit_first count text le (inr e))

ending_first : (ending : List ℕ) → IsKeyEnding ending → HasNoDigitFirst ending
ending_first ending (inl e) = subst HasNoDigitFirst (sym e) tt
ending_first ending (inr (inl e)) = subst HasNoDigitFirst (sym e) refl
ending_first ending (inr (inr e)) = subst HasNoDigitFirst (sym e) refl

apart : (a b : ℕ) → a ≡ b → is_hex_digit a ≡ true → is_hex_digit b ≡ false → ⊥
apart a b e digit other = let same : is_hex_digit a ≡ is_hex_digit b = ap is_hex_digit e in cc

abbrev pub is_digit_true : ℕ → Type 0
is_digit_true x = is_hex_digit x ≡ true

no_more_digits : (a : ℕ) (ds ending : List ℕ) → AllPass is_hex_digit (a ∷ ds) → (l : List ℕ)
    → a ∷ l ≡ ending → HasNoDigitFirst ending → ⊥
no_more_digits a ds [] pass l e none = cc
no_more_digits a ds (b ∷ ending) pass l e none = let same : a ≡ b = cc in
    apart a b same (All-head is_digit_true a ds pass) none

-- A text has only one front of digits that no digit follows or that has the most digits allowed.
same_digits : (n : ℕ) (ds xs rest ending : List ℕ) → AllPass is_hex_digit ds
    → AllPass is_hex_digit xs → length xs ≤ n
    → HasNoDigitFirst ending → (length ds ≡ n) ⊎ HasNoDigitFirst rest → ds ++ rest ≡ xs ++ ending
    → (ds ≡ xs) × (rest ≡ ending)
same_digits n [] [] rest ending d x few quiet stops e = (refl, e)
same_digits n (a ∷ ds) [] rest ending d x few quiet stops e =
    absurd (no_more_digits a ds ending d (ds ++ rest) e quiet)
same_digits n [] (b ∷ xs) rest ending d x few quiet (inl full) e = absurd (omega arith)
same_digits n [] (b ∷ xs) rest ending d x few quiet (inr none) e =
    absurd (no_more_digits b xs rest x (xs ++ ending) (sym e) none)
same_digits zero (a ∷ ds) (b ∷ xs) rest ending d x few quiet stops e = absurd (omega arith)
same_digits (suc n) (a ∷ ds) (b ∷ xs) rest ending d x few quiet stops e =
    let behind : ds ++ rest ≡ xs ++ ending = cc in
    let first : a ≡ b = cc in
    let fewer : length xs ≤ n = omega arith in
    let stops' : (length ds ≡ n) ⊎ HasNoDigitFirst rest =
    elim stops [ inl full ↦ inl (omega arith) | inr none ↦ inr none ] in
    let ih = same_digits n ds xs rest ending (All-tail is_digit_true a ds d)
    (All-tail is_digit_true b xs x) fewer quiet stops' behind in
    let front : ds ≡ xs = ih.0 in
    (cc, ih.1)

-- Holds if a key text may have this many digits, apart from the upper bound.
abbrev pub IsKeySize : ℕ → Type 0
IsKeySize n = (32 ≤ n) × (n % 2 ≡ 0)

key_text_of : (ds ending : List ℕ) → AllPass is_hex_digit ds → IsKeySize (length ds)
    → length ds ≤ 128 → IsKeyEnding ending
    → (key : List ℕ) × IsKeyText (ds ++ ending) key
key_text_of ds ending pass size few ends =
    let key = decode_of-digits ds size.1 pass in
    let ok = decode_of-ok ds key.0 key.1 in
    let twice : length ds ≡ 2 * length key.0 = ok.2 in (
      key.0,
      record {
        digits = ds;
        ending = ending;
        all = refl;
        ends = ends;
        decodes = key.1;
        bytes = ok.3;
        long = omega (arith, size.0, twice);
        short = omega (arith, few, twice);
      },
    )

-- If `n` digits more make the size of a key, the digits begin some key text.
begins_with_more : (ds : List ℕ) (n : ℕ) → AllPass is_hex_digit ds → IsKeySize (length ds + n)
    → length ds + n ≤ 128 → BeginsKey ds
begins_with_more ds n pass size few =
    let long : length (ds ++ replicate n 48) ≡ length ds + n =
    length-append ds (replicate n 48) ∙ ap (λ k. length ds + k) (length-replicate n 48) in
    let all = All-append is_digit_true ds (replicate n 48) pass
    (All-replicate is_digit_true n 48 refl) in
    let key = key_text_of (ds ++ replicate n 48) [] all (subst IsKeySize (sym long) size)
    (omega (arith, long, few)) (inl refl) in (
      replicate n 48,
      key.0,
      subst (λ text. IsKeyText text key.0) (append-nil (ds ++ replicate n 48))
          key.1,
    )

digits_begin : (ds : List ℕ) → AllPass is_hex_digit ds → length ds ≤ 128 → BeginsKey ds
digits_begin ds pass few = elim (cases_lt (length ds) 32) [
  | inl less ↦ begins_with_more ds (32 - length ds) pass (omega arith, omega arith) (omega arith)
  | inr some ↦ begins_with_more ds (length ds % 2) pass (omega arith, omega arith) (omega arith)
]

module _ (ds rest : List ℕ) (pass : AllPass is_hex_digit ds) (few : length ds ≤ 128)
    (stops : (length ds ≡ 128) ⊎ HasNoDigitFirst rest) where
  -- If these digits and what follows them are a key text, the digits are a key's and the others are
  -- an ending.
  parts : (back key : List ℕ) → (length ds ≡ 128) ⊎ HasNoDigitFirst back
      → IsKeyText (ds ++ back) key → IsKeySize (length ds) × IsKeyEnding back
  parts back key stops' h =
      let ok = decode_of-ok h.digits key h.decodes in
      let twice : length h.digits ≡ 2 * length key = ok.2 in
      let same = same_digits 128 ds h.digits back h.ending pass ok.1 (omega (arith, h.short, twice))
      (ending_first h.ending h.ends) stops' h.all in
      let size : IsKeySize (length h.digits) = (omega (arith, h.long, twice), ok.0) in
      (subst (λ l. IsKeySize (length l)) (sym same.0) size, subst IsKeyEnding (sym same.1) h.ends)

  key_parts : (key : List ℕ) → IsKeyText (ds ++ rest) key → IsKeySize (length ds) × IsKeyEnding rest
  key_parts key h = parts rest key stops h

  still_stops : (m : ℕ) (more back : List ℕ) → 0 < m → m ≤ length back → HasNoDigitFirst back
      → HasNoDigitFirst (take m back ++ more)
  still_stops zero more back some le quiet = absurd (omega arith)
  still_stops (suc m) more [] some le quiet = absurd (omega arith)
  still_stops (suc m) more (b ∷ back) some le quiet = quiet

  front_is : (m : ℕ) (more : List ℕ) → take (length ds + m) (ds ++ rest) ++ more
      ≡ ds ++ (take m rest ++ more)
  front_is m more = ap (λ l. l ++ more) (take-append-add ds rest m)
      ∙ append_assoc ds (take m rest) more

  -- If a front that is longer than the digits begins a key text, then the digits are a key's, and
  -- what it has after them begins some ending.
  beyond : (m : ℕ) → 0 < m → m ≤ length rest → BeginsKey (take (length ds + m) (ds ++ rest))
      → IsKeySize (length ds) × BeginsEnding (take m rest)
  beyond m some le (more, key, h) =
      let stops' : (length ds ≡ 128) ⊎ HasNoDigitFirst (take m rest ++ more) =
      elim stops [
        | inl full ↦ inl full
        | inr quiet
            ↦ inr (still_stops m more rest some le quiet)
      ] in
      let found = parts (take m rest ++ more) key stops'
      (subst (λ text. IsKeyText text key) (front_is m more) h) in
      (found.0, (more, found.1))

  whole_length : length (ds ++ rest) ≡ length ds + length rest
  whole_length = length-append ds rest

  -- If the digits are too few or their count is odd, the text is refused after them.
  place_of_digits : (IsKeySize (length ds) → ⊥) → IsKeyPlace (ds ++ rest) (length ds)
  place_of_digits other = record {
    within = omega (arith, whole_length);
    begins = subst BeginsKey (sym (take-append_seam ds rest)) (digits_begin ds pass few);
    longest = λ n le h. elim (cases_lt (length ds) n) [
      | inl more ↦
          let sum : n ≡ length ds + (n - length ds) = omega arith in
          let found = beyond (n - length ds) (omega arith) (omega (arith, whole_length, le))
          (subst (λ k. BeginsKey (take k (ds ++ rest))) sum h) in
          absurd (other found.0)
      | inr most ↦ most
    ];
  }

  -- If the digits are a key's and the bytes that follow aren't an ending, the text is refused after
  -- the longest front of those bytes that begins some ending.
  place_of_ending : (place : ℕ) → IsKeySize (length ds) → IsLongestFront BeginsEnding rest place
      → IsKeyPlace (ds ++ rest) (length ds + place)
  place_of_ending place size ending = record {
    within = omega (arith, whole_length, ending.within);
    begins =
        let key = key_text_of ds (take place rest ++ ending.begins.0) pass size few
        ending.begins.1 in (
          ending.begins.0,
          key.0,
          subst (λ text. IsKeyText text key.0)
              (sym (front_is place ending.begins.0)) key.1,
        );
    longest = λ n le h. elim (cases_lt (length ds) n) [
      | inl more ↦
          let sum : n ≡ length ds + (n - length ds) = omega arith in
          let found = beyond (n - length ds) (omega arith) (omega (arith, whole_length, le))
          (subst (λ k. BeginsKey (take k (ds ++ rest))) sum h) in
          let most : n - length ds ≤ place =
          ending.longest (n - length ds) (omega (arith, whole_length, le)) found.1 in
          omega arith
      | inr most ↦ omega arith
    ];
  }

-- A text that begins with `count` digits, at which the count of digits stops.
module _ (count : ℕ) (text : List ℕ) (within : count ≤ length text) (few : count ≤ 128)
    (pass : AllPass is_hex_digit (take count text))
    (stops : (count ≡ length text) ⊎ ((count ≡ 128)
    ⊎ (is_hex_digit (slice_index text count) ≡ false))) where
  digits_length : length (take count text) ≡ count
  digits_length = length-take-le count text within

  few_digits : length (take count text) ≤ 128
  few_digits = omega (arith, digits_length, few)

  digits_stop : (length (take count text) ≡ 128) ⊎ HasNoDigitFirst (drop count text)
  digits_stop = subst (λ n. (n ≡ 128) ⊎ HasNoDigitFirst (drop count text)) (sym digits_length)
      (stops_at count text within stops)

  parts_of : (key : List ℕ) → IsKeyText text key → IsKeySize count × IsKeyEnding (drop count text)
  parts_of key h =
      let found = key_parts (take count text) (drop count text) pass few_digits digits_stop key
      (subst (λ l. IsKeyText l key) (sym (take-append-drop count text)) h) in
      (subst IsKeySize digits_length found.0, found.1)

  place_at : (n : ℕ) → IsKeyPlace (take count text ++ drop count text)
      (length (take count text) + n) → IsKeyPlace text (count + n)
  place_at n h = subst (λ k. IsKeyPlace text (k + n)) digits_length
      (subst (λ l. IsKeyPlace l (length (take count text) + n)) (take-append-drop count text) h)

  pub refused_digits : (IsKeySize count → ⊥) → IsNoKey text count
  refused_digits other = record {
    none = λ h. other (parts_of h.0 h.1).0;
    longest = subst (λ k. IsKeyPlace text k) digits_length
        (subst (λ l. IsKeyPlace l (length (take count text))) (take-append-drop count text)
        (place_of_digits (take count text) (drop count text) pass few_digits digits_stop
        (λ size. other (subst IsKeySize digits_length size))));
  }

  pub refused_ending : (place : ℕ) → IsKeySize count → (IsKeyEnding (drop count text) → ⊥)
      → IsLongestFront BeginsEnding (drop count text) place
      → IsNoKey text (count + place)
  refused_ending place size other begun = record {
    none = λ h. other (parts_of h.0 h.1).1;
    longest = place_at place (place_of_ending (take count text) (drop count text) pass few_digits
        digits_stop place
        (subst IsKeySize (sym digits_length) size) begun);
  }

  pub key_taken : (key : List ℕ) → IsKeySize count → IsKeyEnding (drop count text)
      → decode_of (take count text) ≡ Ok key → IsKeyText text key
  key_taken key size ends decodes =
      let ok = decode_of-ok (take count text) key decodes in
      let twice : length (take count text) ≡ 2 * length key = ok.2 in
      record {
        digits = take count text;
        ending = drop count text;
        all = sym (take-append-drop count text);
        ends = ends;
        decodes = decodes;
        bytes = ok.3;
        long = omega (arith, size.0, twice, digits_length);
        short = omega (arith, few, twice, digits_length);
      }

-- The front of a room whose first `len` bytes were taken before, and which then got `n` bytes more.
read_on : (len n : ℕ) (bytes more : List ℕ) → n ≤ length more → len ≤ length bytes
    → take (len + n) (take len bytes ++ more) ≡ take len bytes ++ take n more
read_on len n bytes more within fits =
    let front : length (take len bytes) ≡ len = length-take-le len bytes fits in
    subst (λ k. take (k + n) (take len bytes ++ more) ≡ take len bytes ++ take n more) front
    (take-append-add (take len bytes) more n)

pub prepend_known-twice : (known : Option (List ℕ)) (x y : List ℕ)
    → prepend_known x (prepend_known y known) ≡ prepend_known (x ++ y) known
prepend_known-twice None x y = refl
prepend_known-twice (Some xs) x y = ap Some (sym (append_assoc x y xs))

-- The front of a room after a read into the part of it that follows its first `len` bytes.
pub front_read : (len n : ℕ) (bytes more : List ℕ) → length bytes ≡ 131 → length more ≡ 131 - len
    → len ≤ 131 → n ≤ length more
    → take (len + n) (put_mid len (131 - len) bytes more) ≡ take len bytes ++ take n more
front_read len n bytes more room rest within few =
    let whole : take (len + length more) (put_mid len (131 - len) bytes more)
    ≡ take len bytes ++ more =
    take-put_mid len (131 - len) bytes more (len + length more) refl (omega arith) in
    sym (take-take (len + n) (len + length more) (put_mid len (131 - len) bytes more) (omega arith))
    ∙ ap (take (len + n)) whole ∙ read_on len n bytes more few (omega arith)

-- If a source gave `len` bytes and then `n` more, it gave the first `len + n` bytes of the room.
pub taken_more : (first before now : Option (List ℕ)) (len n : ℕ) (bytes more : List ℕ)
    → length bytes ≡ 131 → length more ≡ 131 - len → len ≤ 131 → n ≤ length more
    → first ≡ prepend_known (take len bytes) before → before ≡ prepend_known (take n more) now
    → first ≡ prepend_known (take (len + n) (put_mid len (131 - len) bytes more)) now
taken_more first before now len n bytes more room rest within few so_far read =
    so_far ∙ ap (prepend_known (take len bytes)) read
    ∙ prepend_known-twice now (take len bytes) (take n more)
    ∙ ap (λ front. prepend_known front now) (sym (front_read len n bytes more room rest within few))
