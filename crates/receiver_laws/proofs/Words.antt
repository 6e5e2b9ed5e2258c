-- If bytes have the word of a number, they are its lowest bytes.
use Rattle.byteorder.specs.{Endian.big_from, Endian.big_number, Numbers.big_from-cons}
use Rattle.byteorder.specs.Numbers.{big_from-bytes, big_from-lt, length-bytes_high_first}
use Rattle.line_rules.specs.Bytes.{AreBytes}
use Rattle.std.proofs.Common.{◌≡◌, ◌∙◌, ℕ, zero, suc, ◌+◌, ◌*◌, ◌/◌, ◌%◌, ◌^◌, ◌<◌, List, [], ◌∷◌}
use Rattle.std.proofs.Common.{length, refl, sym, ap, arith, slice_index, ⊎_elim}
use Rattle.std.proofs.{Math.Nat.mod-lt, lemmas.Bool.cases_lt, lemmas.List.append-nil}
use Rattle.std.proofs.lemmas.{List.get_or_past, List.Elements.All-cons, Nat.div-mul-add}
use Rattle.std.{proofs.lemmas.Nat.mod-mul-add, specs.Int.byte_at, specs.Int.bytes_high_first}

-- At each place there is a byte, which is 0 after the end.
pub byte-places : (x : List ℕ) → AreBytes x → (k : ℕ) → slice_index x k < 256
byte-places x bytes k =
    ⊎_elim
    (λ within. bytes k 0 within)
    (λ past. let none : slice_index x k ≡ 0 = get_or_past x k 0 past in omega arith)
    (cases_lt k (length x))

bytes-rest : (a : ℕ) (x : List ℕ) → AreBytes (a ∷ x) → AreBytes x
bytes-rest a x bytes = λ k d within.
    let h : suc k < length (a ∷ x) = omega arith in
    bytes (suc k) d h

two_digits : (p a b r s : ℕ) → r < p → s < p → a * p + r ≡ b * p + s → (a ≡ b) × (r ≡ s)
two_digits p a b r s small few same = (
  sym (div-mul-add a p r small) ∙ (ap (λ n. n / p) same ∙ div-mul-add b p s few),
  sym (mod-mul-add a p r small) ∙ (ap (λ n. n % p) same ∙ mod-mul-add b p s few),
)

-- Bytes that spell the same number are the same.
same-number : (n : ℕ) (x y : List ℕ) → length x ≡ n → length y ≡ n → AreBytes x → AreBytes y
    → big_from 0 n x ≡ big_from 0 n y → x ≡ y
same-number zero [] [] long long' bytes bytes' same = refl
same-number zero (a ∷ x) y long long' bytes bytes' same = absurd (omega arith)
same-number zero [] (b ∷ y) long long' bytes bytes' same = absurd (omega arith)
same-number (suc n) [] y long long' bytes bytes' same = absurd (omega arith)
same-number (suc n) (a ∷ x) [] long long' bytes bytes' same = absurd (omega arith)
same-number (suc n) (a ∷ x) (b ∷ y) long long' bytes bytes' same =
    let left : big_from 0 (suc n) (a ∷ x) ≡ a * 256 ^ n + big_from 0 n x =
    ap (λ r. a * 256 ^ n + r) (big_from-cons 0 n a x) in
    let right : big_from 0 (suc n) (b ∷ y) ≡ b * 256 ^ n + big_from 0 n y =
    ap (λ r. b * 256 ^ n + r) (big_from-cons 0 n b y) in
    let few = big_from-lt 0 n x (byte-places x (bytes-rest a x bytes)) in
    let few' = big_from-lt 0 n y (byte-places y (bytes-rest b y bytes')) in
    let digits = two_digits (256 ^ n) a b (big_from 0 n x) (big_from 0 n y) few few'
    (sym left ∙ (same ∙ right)) in
    let rest : x ≡ y = same-number n x y (omega arith) (omega arith) (bytes-rest a x bytes)
    (bytes-rest b y bytes') digits.1 in
    ap (λ c. c ∷ x) digits.0 ∙ ap (λ z. b ∷ z) rest

byte-small : (k x : ℕ) → byte_at k x < 256
byte-small zero x = mod-lt x (omega arith)
byte-small (suc k) x = mod-lt (x / 256 ^ suc k) (omega arith)

high_first-bytes : (n x : ℕ) → AreBytes (bytes_high_first n x)
high_first-bytes zero x = λ k d within. absurd (omega arith)
high_first-bytes (suc n) x = All-cons (λ b. b < 256) (byte_at n x) (bytes_high_first n x)
    (byte-small n x) (high_first-bytes n x)

-- If bytes have the word of a number, they are its lowest bytes.
pub word-bytes : (n x : ℕ) (y : List ℕ) → length y ≡ n → AreBytes y → x % 256 ^ n ≡ big_number n y
    → bytes_high_first n x ≡ y
word-bytes n x y long bytes same =
    let spelled : big_from 0 n (bytes_high_first n x) ≡ x % 256 ^ n =
    ap (λ z. big_from 0 n z) (sym (append-nil (bytes_high_first n x))) ∙ big_from-bytes n x [] in
    same-number n (bytes_high_first n x) y (length-bytes_high_first n x) long
    (high_first-bytes n x) bytes (spelled ∙ same)
