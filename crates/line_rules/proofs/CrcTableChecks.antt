-- Checks of the tables, which compute each entry from that of the table before.
use Rattle.line_rules.proofs.CrcLaws.{bit_steps-add}
use Rattle.line_rules.specs.{Crc.bit_steps, CrcTables.AreCrcTables}
use Rattle.std.proofs.Common.{◌≡◌, ℕ, zero, suc, ◌+◌, ◌*◌, ◌<◌, ◌&&◌, ◌==◌, Bool, true, false, List}
use Rattle.std.proofs.Common.{[], ◌∷◌, length, get_or, arith, sym, ◌∙◌, ap}
use Rattle.std.proofs.lemmas.Bool.{and_parts, eqb-true}

-- this many numbers, from `first` on
abbrev pub numbers_from : ℕ → ℕ → List ℕ
numbers_from first zero = []
numbers_from first (suc n) = first ∷ numbers_from (suc first) n

-- whether each entry of the second list is what eight bit steps make of the same entry of the first
abbrev pub follows : ℕ → List ℕ → List ℕ → Bool
follows p [] [] = true
follows p [] (b ∷ y) = false
follows p (a ∷ x) [] = false
follows p (a ∷ x) (b ∷ y) = b == bit_steps p 8 a && follows p x y

-- whether each table is what eight bit steps make of the one before it, and the first table is what
-- they make of this list
abbrev pub all_follow : ℕ → List ℕ → List (List ℕ) → Bool
all_follow p x [] = true
all_follow p x (y ∷ tables) = follows p x y && all_follow p y tables

abbrev pub tables_agree : ℕ → List (List ℕ) → Bool
tables_agree p tables = length tables == 18 && all_follow p (numbers_from 0 256) tables

number_at : (first n i : ℕ) → i < n → get_or (numbers_from first n) i 0 ≡ first + i
number_at first zero i below = absurd (omega arith)
number_at first (suc n) zero below = omega arith
number_at first (suc n) (suc i) below =
    let e = number_at (suc first) n i (omega arith) in omega arith

number_count : (first n : ℕ) → length (numbers_from first n) ≡ n
number_count first zero = omega arith
number_count first (suc n) = let e = number_count (suc first) n in omega arith

follows-length : (p : ℕ) (x y : List ℕ) → follows p x y ≡ true → length y ≡ length x
follows-length p [] [] agree = omega arith
follows-length p [] (b ∷ y) agree = absurd (let e : false ≡ true = agree in cc)
follows-length p (a ∷ x) [] agree = absurd (let e : false ≡ true = agree in cc)
follows-length p (a ∷ x) (b ∷ y) agree =
    let e = follows-length p x y (and_parts (b == bit_steps p 8 a) (follows p x y) agree).1 in
    omega arith

follows-at : (p : ℕ) (x y : List ℕ) (i : ℕ) → follows p x y ≡ true → i < length x
    → get_or y i 0 ≡ bit_steps p 8 (get_or x i 0)
follows-at p [] y i agree below = absurd (omega arith)
follows-at p (a ∷ x) [] i agree below = absurd (let e : false ≡ true = agree in cc)
follows-at p (a ∷ x) (b ∷ y) zero agree below =
    eqb-true b (bit_steps p 8 a) (and_parts (b == bit_steps p 8 a) (follows p x y) agree).0
follows-at p (a ∷ x) (b ∷ y) (suc i) agree below =
    follows-at p x y i (and_parts (b == bit_steps p 8 a) (follows p x y) agree).1 (omega arith)

table_at : (p k i : ℕ) (x : List ℕ) (tables : List (List ℕ)) → all_follow p x tables ≡ true
    → k < length tables → i < length x
    → get_or (get_or tables k []) i 0 ≡ bit_steps p (8 * suc k) (get_or x i 0)
table_at p k i x [] agree below within = absurd (omega arith)
table_at p zero i x (y ∷ tables) agree below within =
    let e : 8 ≡ 8 * suc zero = omega arith in
    follows-at p x y i (and_parts (follows p x y) (all_follow p y tables) agree).0 within
    ∙ ap (λ n. bit_steps p n (get_or x i 0)) e
table_at p (suc k) i x (y ∷ tables) agree below within =
    let both = and_parts (follows p x y) (all_follow p y tables) agree in
    let size = follows-length p x y both.0 in
    let e : 8 + 8 * suc k ≡ 8 * suc (suc k) = omega arith in
    table_at p k i y tables both.1 (omega arith) (omega arith)
    ∙ (ap (bit_steps p (8 * suc k)) (follows-at p x y i both.0 within)
    ∙ (sym (bit_steps-add p 8 (8 * suc k) (get_or x i 0))
    ∙ ap (λ n. bit_steps p n (get_or x i 0)) e))

pub tables_right : (p : ℕ) (tables : List (List ℕ)) → tables_agree p tables ≡ true
    → AreCrcTables p tables
tables_right p tables agree = λ n byte within fits.
    let both = and_parts (length tables == 18) (all_follow p (numbers_from 0 256) tables) agree in
    let size : length tables ≡ 18 = eqb-true (length tables) 18 both.0 in
    let count : length (numbers_from 0 256) ≡ 256 = number_count 0 256 in
    let same : get_or (numbers_from 0 256) byte 0 ≡ byte =
    number_at 0 256 byte fits ∙ (let e : 0 + byte ≡ byte = omega arith in e) in
    table_at p n byte (numbers_from 0 256) tables both.1 (omega arith) (omega arith)
    ∙ ap (bit_steps p (8 * suc n)) same
