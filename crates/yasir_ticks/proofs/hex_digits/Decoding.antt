-- Pairs of hex digits that decode: all their bytes are digits, and one more pair decodes too.
use Rattle.hex.proofs.HexLemmas.{decode_of-ok, decode_of-even}
use Rattle.hex.{proofs.Pairs.decode_pairs-ok_pair, proofs.Pairs.cons_byte, specs.Hex.decode_of}
use Rattle.hex.specs.Hex.{decode_pairs, is_hex_digit, hex_digit_value, digit_or_error, pair_value}
use Rattle.hex.specs.{Hex.value_at, Hex.◌>>=◌, declared.error.FromHexError.FromHexError}
use Rattle.std.proofs.Common.{◌≡◌, ◌∙◌, ℕ, ◌+◌, ◌*◌, ◌%◌, ◌<◌, true, List, [], ◌∷◌, ◌++◌, length}
use Rattle.std.proofs.Common.{take, get_or, Some, Result, Ok, Err, refl, ap, sym, arith}
use Rattle.std.proofs.{Common.append_assoc, lemmas.List.length-append, lemmas.List.take_more}
use Rattle.std.{proofs.lemmas.List.Sums.list_all-from_AllPass, specs.List.list_all}

-- Digits that decode are all hex digits.
pub hex_digits : (x bytes : List ℕ) → decode_of x ≡ Ok bytes → list_all is_hex_digit x ≡ true
hex_digits x bytes h = list_all-from_AllPass is_hex_digit x (decode_of-ok x bytes h).1

pub hex_length : (x bytes : List ℕ) → decode_of x ≡ Ok bytes → length x ≡ 2 * length bytes
hex_length x bytes h = (decode_of-ok x bytes h).2

-- If a result and then a function of it give `Ok`, then each of the two gives `Ok`.
bind_ok : {A B : Type 0} (r : Result A FromHexError) (f : A → Result B FromHexError) (y : B)
    → (r >>= f) ≡ Ok y → (x : A) × (r ≡ Ok x) × (f x ≡ Ok y)
bind_ok (Ok x) f y h = (x, refl, h)
bind_ok (Err e) f y h = cc h

pair_value-ok : (a b i high low : ℕ) → hex_digit_value a ≡ Some high → hex_digit_value b ≡ Some low
    → pair_value a b i ≡ Ok (high * 16 + low)
pair_value-ok a b i high low p q =
    let ha : value_at a i ≡ Ok high = ap (digit_or_error a i) p in
    let hb : value_at b (i + 1) ≡ Ok low = ap (digit_or_error b (i + 1)) q in
    rw (ha, hb) refl

decode_pairs-more : (i : ℕ) (x bytes : List ℕ) (a b high low : ℕ) → decode_pairs i x ≡ Ok bytes
    → hex_digit_value a ≡ Some high → hex_digit_value b ≡ Some low
    → decode_pairs i (x ++ a ∷ b ∷ []) ≡ Ok (bytes ++ (high * 16 + low) ∷ [])
unfolding decode_pairs
decode_pairs-more i [] bytes a b high low e p q =
    let none : [] ≡ bytes = cc in
    rw (← none) (decode_pairs-ok_pair i a b (high * 16 + low) [] (pair_value-ok a b i high low p q))
decode_pairs-more i (c ∷ []) bytes a b high low e p q = cc
decode_pairs-more i (c ∷ d ∷ x) bytes a b high low e p q =
    let first = bind_ok (pair_value c d i) _ bytes e in
    let rest = bind_ok (decode_pairs (i + 2) x) _ bytes first.2 in
    let whole : first.0 ∷ rest.0 ≡ bytes = cc rest.2 in
    rw (← whole)
    (decode_pairs-ok_pair i c d first.0 (x ++ a ∷ b ∷ []) first.1
    ∙ ap (cons_byte first.0) (decode_pairs-more (i + 2) x rest.0 a b high low rest.1 p q))

pub decode_of-more : (x bytes : List ℕ) (a b high low : ℕ) → decode_of x ≡ Ok bytes
    → hex_digit_value a ≡ Some high → hex_digit_value b ≡ Some low
    → decode_of (x ++ a ∷ b ∷ []) ≡ Ok (bytes ++ (high * 16 + low) ∷ [])
decode_of-more x bytes a b high low e p q =
    let ok = decode_of-ok x bytes e in
    let n : length (x ++ a ∷ b ∷ []) % 2 ≡ 0 = omega (arith, length-append x (a ∷ b ∷ []), ok.0) in
    decode_of-even (x ++ a ∷ b ∷ []) n ∙ decode_pairs-more 0 x bytes a b high low
    (sym (decode_of-even x ok.0) ∙ e) p q

-- The first n + 2 bytes are the first n and the next two.
pub take_pair : (bytes : List ℕ) (n : ℕ) → n + 1 < length bytes
    → take (n + 2) bytes ≡ take n bytes ++ get_or bytes n 0 ∷ get_or bytes (n + 1) 0 ∷ []
take_pair bytes n h =
    let more : take (n + 1 + 1) bytes ≡ take (n + 1) bytes ++ get_or bytes (n + 1) 0 ∷ [] =
    take_more bytes (n + 1) 0 h in
    let first : take (n + 1) bytes ≡ take n bytes ++ get_or bytes n 0 ∷ [] =
    take_more bytes n 0 (omega arith) in
    let sum : n + 2 ≡ n + 1 + 1 = omega arith in
    ap (λ k. take k bytes) sum ∙ more ∙ ap (λ x. x ++ get_or bytes (n + 1) 0 ∷ []) first
    ∙ append_assoc (take n bytes) (get_or bytes n 0 ∷ []) (get_or bytes (n + 1) 0 ∷ [])
