-- The changes of a line, tick by tick.
use Rattle.capture_text.proofs.LevelLaws.{last_level, line_ends_high, length_line}
use Rattle.capture_text.specs.Changes.{bit_start, quiet_rows, changes_at, changes_from, padded_rows}
use Rattle.capture_text.specs.{Changes.ticks_changes, Levels.tick_levels, Levels.line_levels}
use Rattle.capture_text.specs.declared.changes.{BothLevels.BothLevels, Change.Change}
use Rattle.line_stamps.specs.declared.rate.Rate.{Rate}
use Rattle.std.proofs.Common.{◌≡◌, ◌∙◌, ℕ, suc, ◌+◌, ◌-◌, ◌*◌, ◌<◌, ◌≤◌, Bool, true, false, List}
use Rattle.std.proofs.Common.{[], ◌∷◌, ◌++◌, length, get_or, take, drop, replicate, refl, ap, sym}
use Rattle.std.proofs.{Common.arith, Common.append_assoc, lemmas.Grind.flat_map-append}
use Rattle.std.proofs.lemmas.List.{append-nil, take_all, length-append, length-replicate}
use Rattle.yasir_ticks.specs.declared.tick.Tick.{Tick, TheVariants.Silent}

-- the levels of the last bit
abbrev pub last_of : BothLevels → List Bool → List Bool → BothLevels
last_of before a b = record { a = last_level before.a a; b = last_level before.b b }

pub changes_none : (rate : Rate) (bit : ℕ) (before : BothLevels) (b : List Bool)
    → changes_from rate bit before [] b ≡ []
unfolding changes_from
changes_none rate bit before b = refl

pub changes_one : (rate : Rate) (bit : ℕ) (before : BothLevels) (a : Bool) (xs : List Bool)
    → changes_from rate bit before (a ∷ xs) [] ≡ []
unfolding changes_from
changes_one rate bit before a xs = refl

pub changes_more : (rate : Rate) (bit : ℕ) (before : BothLevels) (a b : Bool) (xs ys : List Bool)
    → changes_from rate bit before (a ∷ xs) (b ∷ ys)
    ≡ changes_at (bit_start rate bit) before a b
    ++ changes_from rate (bit + 1) (record { a = a; b = b }) xs ys
unfolding changes_from
changes_more rate bit before a b xs ys = refl

pub none_of_a : (rate : Rate) (bit : ℕ) (before : BothLevels) (xs ys : List Bool) → length xs < 1
    → changes_from rate bit before xs ys ≡ []
none_of_a rate bit before [] ys h = changes_none rate bit before ys
none_of_a rate bit before (x ∷ xs) ys h = absurd (omega arith)

pub none_of_b : (rate : Rate) (bit : ℕ) (before : BothLevels) (xs ys : List Bool) → length ys < 1
    → changes_from rate bit before xs ys ≡ []
none_of_b rate bit before [] ys h = changes_none rate bit before ys
none_of_b rate bit before (x ∷ xs) [] h = changes_one rate bit before x xs
none_of_b rate bit before (x ∷ xs) (y ∷ ys) h = absurd (omega arith)

-- The changes are those at the first bit, and those at the bits after it.
pub bits_more : (rate : Rate) (bit : ℕ) (before : BothLevels) (xs ys : List Bool) → 1 ≤ length xs
    → 1 ≤ length ys
    → changes_from rate bit before xs ys
    ≡ changes_at (bit_start rate bit) before (get_or xs 0 false) (get_or ys 0 false)
    ++ changes_from rate (bit + 1) (record { a = get_or xs 0 false; b = get_or ys 0 false })
    (take (length xs - 1) (drop 1 xs)) (take (length ys - 1) (drop 1 ys))
bits_more rate bit before [] ys h k = absurd (omega arith)
bits_more rate bit before (x ∷ xs) [] h k = absurd (omega arith)
bits_more rate bit before (x ∷ xs) (y ∷ ys) h k =
    let now : BothLevels = record { a = x; b = y } in
    let first : List Change = changes_at (bit_start rate bit) before x y in
    changes_more rate bit before x y xs ys
    ∙ ap (λ l. first ++ changes_from rate (bit + 1) now l ys)
    (sym (take_all (length (x ∷ xs) - 1) xs (omega arith)))
    ∙ ap (λ l. first ++ changes_from rate (bit + 1) now (take (length (x ∷ xs) - 1) xs) l)
    (sym (take_all (length (y ∷ ys) - 1) ys (omega arith)))

pub changes_both : (rate : Rate) (bit : ℕ) (before : BothLevels) (a b xs ys : List Bool)
    → length a ≡ length b
    → changes_from rate bit before (a ++ xs) (b ++ ys)
    ≡ changes_from rate bit before a b
    ++ changes_from rate (bit + length a) (last_of before a b) xs ys
changes_both rate bit before [] [] xs ys e =
    let same : bit ≡ bit + 0 = omega arith in
    ap (λ n. changes_from rate n before xs ys) same
    ∙ ap (λ x. x ++ changes_from rate (bit + 0) before xs ys)
    (sym (changes_none rate bit before []))
changes_both rate bit before [] (y ∷ b) xs ys e = absurd (omega arith)
changes_both rate bit before (x ∷ a) [] xs ys e = absurd (omega arith)
changes_both rate bit before (x ∷ a) (y ∷ b) xs ys e =
    let now : BothLevels = record { a = x; b = y } in
    let first : List Change = changes_at (bit_start rate bit) before x y in
    let here : List Change = changes_from rate (bit + 1) now a b in
    let place : bit + 1 + length a ≡ bit + suc (length a) = omega arith in
    changes_more rate bit before x y (a ++ xs) (b ++ ys)
    ∙ ap (λ c. first ++ c) (changes_both rate (bit + 1) now a b xs ys (omega arith))
    ∙ ap (λ n. first ++ (here ++ changes_from rate n (last_of now a b) xs ys)) place
    ∙ sym (append_assoc first here
    (changes_from rate (bit + suc (length a)) (last_of now a b) xs ys))
    ∙ ap (λ c. c ++ changes_from rate (bit + suc (length a)) (last_of now a b) xs ys)
    (sym (changes_more rate bit before x y a b))

line_more : (bits : ℕ) (line : List Tick) (tick : Tick)
    → line_levels bits (line ++ tick ∷ []) ≡ line_levels bits line ++ tick_levels bits tick
line_more bits line tick =
    flat_map-append (tick_levels bits) line (tick ∷ [])
    ∙ ap (λ x. line_levels bits line ++ x) (append-nil (tick_levels bits tick))

-- One more tick adds the changes in it, as they are after a bit in which both wires are quiet_rows.
pub ticks_more : (rate : Rate) (xs ys : List Tick) (a b : Tick) (n : ℕ) → length xs ≡ n
    → length ys ≡ n
    → ticks_changes rate (xs ++ a ∷ []) (ys ++ b ∷ [])
    ≡ ticks_changes rate xs ys ++ changes_from rate ((n + 1) * rate.bits) quiet_rows
    (tick_levels rate.bits a) (tick_levels rate.bits b)
ticks_more rate xs ys a b n of_a of_b =
    let la : List Bool = line_levels rate.bits xs in
    let lb : List Bool = line_levels rate.bits ys in
    let ta : List Bool = tick_levels rate.bits a in
    let tb : List Bool = tick_levels rate.bits b in
    let long_a : length la ≡ n * rate.bits =
    length_line rate.bits xs rate.fewest_bits rate.most_bits ∙ ap (λ k. k * rate.bits) of_a in
    let long_b : length lb ≡ n * rate.bits =
    length_line rate.bits ys rate.fewest_bits rate.most_bits ∙ ap (λ k. k * rate.bits) of_b in
    let more : (n + 1) * rate.bits ≡ n * rate.bits + rate.bits = omega arith in
    let place : rate.bits + length la ≡ (n + 1) * rate.bits = omega (arith, long_a, more) in
    let high_a : last_level true la ≡ true = line_ends_high rate.bits xs in
    let high_b : last_level true lb ≡ true = line_ends_high rate.bits ys in
    let ends : last_of quiet_rows la lb ≡ quiet_rows =
    ap (λ x. record { a = x; b = last_level true lb }) high_a
    ∙ ap (λ x. record { a = true; b = x }) high_b in
    ap (λ x. changes_from rate rate.bits quiet_rows x (line_levels rate.bits (ys ++ b ∷ [])))
    (line_more rate.bits xs a)
    ∙ ap (λ x. changes_from rate rate.bits quiet_rows (la ++ ta) x) (line_more rate.bits ys b)
    ∙ changes_both rate rate.bits quiet_rows la lb ta tb (long_a ∙ sym long_b)
    ∙ ap (λ k. changes_from rate rate.bits quiet_rows la lb
    ++ changes_from rate k (last_of quiet_rows la lb) ta tb) place
    ∙ ap (λ q. changes_from rate rate.bits quiet_rows la lb
    ++ changes_from rate ((n + 1) * rate.bits) q ta tb) ends

-- the length of a line with the silence after it
pub length_padded : (line other : List Tick) → length (padded_rows line other)
    ≡ length line + (length other - length line)
length_padded line other =
    length-append line (replicate (length other - length line) Silent)
    ∙ ap (λ n. length line + n) (length-replicate (length other - length line) Silent)
