-- The levels of ticks: how many there are, that they end high, and that they give the ticks back.
use Rattle.capture_text.specs.Levels.{data_levels, parity_levels, byte_levels, tick_levels}
use Rattle.capture_text.specs.{Levels.line_levels, Looks.value_of, Looks.tick_of_look}
use Rattle.std.proofs.Common.{◌≡◌, ◌∙◌, ℕ, zero, suc, ◌+◌, ◌-◌, ◌*◌, ◌/◌, ◌%◌, ◌^◌, ◌<◌, ◌≤◌, ◌==◌}
use Rattle.std.proofs.Common.{⊎_elim, Bool, true, count_ones, false, cond, List, [], ◌∷◌, ◌++◌}
use Rattle.std.proofs.Common.{length, get_or, take, replicate, refl, ap, sym, arith, append_assoc}
use Rattle.std.proofs.{Math.Nat.pow-succ', lemmas.Bool.cases_eq, lemmas.Bool.eq-eqb}
use Rattle.std.proofs.lemmas.{Bool.ne_eqb, Bool.cond-true, Bool.cond-false, List.length-append}
use Rattle.std.proofs.lemmas.List.{length-replicate, take-replicate, get_or_append_left}
use Rattle.{std.proofs.lemmas.List.get_or-append_right, yasir_ticks.specs.Ticks.IsTick}
use Rattle.yasir_ticks.specs.declared.tick.Tick.{Tick, TheVariants.Silent, TheVariants.Byte}

-- ---- bits of data

pub data_levels_none : (n byte : ℕ) → n ≡ 0 → data_levels n byte ≡ []
unfolding data_levels
data_levels_none zero byte e = refl
data_levels_none (suc n) byte e = absurd (omega arith)

pub data_levels_some : (n byte : ℕ) → 0 < n
    → data_levels n byte ≡ (byte % 2 == 1) ∷ data_levels (n - 1) (byte / 2)
unfolding data_levels
data_levels_some zero byte h = absurd (omega arith)
data_levels_some (suc n) byte h = let e : suc n - 1 ≡ n = omega arith in rw e refl

-- If a bit is pushed and then the bits after it, the levels of the data are pushed.
pub data_more : (old pushed all : List Bool) (count byte : ℕ) → 0 < count
    → pushed ≡ old ++ (byte % 2 == 1) ∷ [] → all ≡ pushed ++ data_levels (count - 1) (byte / 2)
    → all ≡ old ++ data_levels count byte
data_more old pushed all count byte some is rest =
    rest ∙ ap (λ x. x ++ data_levels (count - 1) (byte / 2)) is
    ∙ append_assoc old ((byte % 2 == 1) ∷ []) (data_levels (count - 1) (byte / 2))
    ∙ ap (λ x. old ++ x) (sym (data_levels_some count byte some))

pub length_data : (n byte : ℕ) → length (data_levels n byte) ≡ n
unfolding data_levels
length_data zero byte = refl
length_data (suc n) byte = ap suc (length_data n (byte / 2))

-- ---- how many levels a tick has

pub length_parity : (bits byte : ℕ) → 10 ≤ bits → bits ≤ 11
    → length (parity_levels bits byte) + 10 ≡ bits
length_parity bits byte few most =
    ⊎_elim
    (λ (same : bits ≡ 11). let is : parity_levels bits byte ≡ (count_ones byte % 2 == 1) ∷ [] =
    cond-true _ _ _ (eq-eqb bits 11 same) in
    let e : length (parity_levels bits byte) ≡ 1 = ap length is in
    omega (arith, e, same))
    (λ (other : bits ≡ 11 → ⊥). let is : parity_levels bits byte ≡ [] =
    cond-false _ _ _ (ne_eqb bits 11 other) in
    let e : length (parity_levels bits byte) ≡ 0 = ap length is in
    let ten : bits ≡ 10 = omega arith in
    omega (arith, e, ten))
    (cases_eq bits 11)

pub length_tick : (bits : ℕ) (tick : Tick) → 10 ≤ bits → bits ≤ 11
    → length (tick_levels bits tick) ≡ bits
length_tick bits Silent few most = length-replicate bits true
length_tick bits (Byte byte) few most =
    let front = length-append (false ∷ data_levels 8 byte) (parity_levels bits byte) in
    let whole = length-append ((false ∷ data_levels 8 byte) ++ parity_levels bits byte) (true ∷ []) in
    omega (arith, front, whole, length_data 8 byte, length_parity bits byte few most)

pub length_line : (bits : ℕ) (line : List Tick) → 10 ≤ bits → bits ≤ 11
    → length (line_levels bits line) ≡ length line * bits
length_line bits [] few most = omega arith
length_line bits (tick ∷ line) few most =
    let both = length-append (tick_levels bits tick) (line_levels bits line) in
    let more : suc (length line) * bits ≡ length line * bits + bits = omega arith in
    omega (arith, both, more, length_tick bits tick few most, length_line bits line few most)

-- ---- they end high

abbrev pub last_level : Bool → List Bool → Bool
last_level before [] = before
last_level before (level ∷ levels) = last_level level levels

last_end : (before : Bool) (levels : List Bool) (level : Bool)
    → last_level before (levels ++ level ∷ []) ≡ level
last_end before [] level = refl
last_end before (first ∷ levels) level = last_end first levels level

last_both : (before : Bool) (first second : List Bool)
    → last_level before (first ++ second) ≡ last_level (last_level before first) second
last_both before [] second = refl
last_both before (level ∷ first) second = last_both level first second

last_high : (n : ℕ) → last_level true (replicate n true) ≡ true
last_high zero = refl
last_high (suc n) = last_high n

tick_ends_high : (bits : ℕ) (tick : Tick) → last_level true (tick_levels bits tick) ≡ true
tick_ends_high bits Silent = last_high bits
tick_ends_high bits (Byte byte) =
    last_end true ((false ∷ data_levels 8 byte) ++ parity_levels bits byte) true

pub line_ends_high : (bits : ℕ) (line : List Tick) → last_level true (line_levels bits line) ≡ true
line_ends_high bits [] = refl
line_ends_high bits (tick ∷ line) =
    last_both true (tick_levels bits tick) (line_levels bits line)
    ∙ ap (λ x. last_level x (line_levels bits line)) (tick_ends_high bits tick)
    ∙ line_ends_high bits line

-- ---- the levels of a quiet wire, cut to a character

pub high_front : (bits : ℕ) → bits ≤ 11 → take bits (replicate 11 true) ≡ replicate bits true
high_front bits most = take-replicate bits 11 true most

-- ---- a level of a line is one of its tick

pub level_in_line : (bits : ℕ) → 10 ≤ bits → bits ≤ 11 → (line : List Tick) (tick bit n : ℕ)
    → tick * bits + bit ≡ n → tick < length line → bit < bits
    → get_or (line_levels bits line) n true
    ≡ get_or (tick_levels bits (get_or line tick Silent)) bit true
level_in_line bits few most [] tick bit n e within small = absurd (omega arith)
level_in_line bits few most (t ∷ line) zero bit n e within small =
    let same : n ≡ bit = omega arith in
    ap (λ k. get_or (line_levels bits (t ∷ line)) k true) same
    ∙ get_or_append_left (tick_levels bits t) (line_levels bits line) true bit
    (omega (arith, length_tick bits t few most))
level_in_line bits few most (t ∷ line) (suc tick) bit n e within small =
    let more : suc tick * bits ≡ tick * bits + bits = omega arith in
    get_or-append_right (tick_levels bits t) (line_levels bits line) bits n true
    (length_tick bits t few most) (omega (arith, more))
    ∙ level_in_line bits few most line tick bit (n - bits) (omega (arith, more)) (omega arith) small

-- ---- the levels of a tick give it back

bit_value : (n : ℕ) → cond (n % 2 == 1) 1 0 ≡ n % 2
bit_value n =
    ⊎_elim
    (λ (same : n % 2 ≡ 1). cond-true _ _ _ (eq-eqb (n % 2) 1 same) ∙ sym same)
    (λ (other : n % 2 ≡ 1 → ⊥). let none : n % 2 ≡ 0 = omega arith in
    cond-false _ _ _ (ne_eqb (n % 2) 1 other) ∙ sym none)
    (cases_eq (n % 2) 1)

value_back : (n byte : ℕ) → byte < 2 ^ n → value_of (data_levels n byte) ≡ byte
unfolding data_levels
value_back zero byte h = let one : 2 ^ zero ≡ 1 = refl in omega (arith, one)
value_back (suc n) byte h =
    let twice : 2 ^ suc n ≡ 2 * 2 ^ n = pow-succ' 2 n in
    let half : byte / 2 < 2 ^ n = omega arith in
    let rest = value_back n (byte / 2) half in
    let bit = bit_value byte in
    omega (arith, rest, bit)

silent_back : (bits : ℕ) → 0 < bits → tick_of_look (replicate bits true) ≡ Silent
silent_back zero h = absurd (omega arith)
silent_back (suc bits) h = refl

byte_back : (bits byte : ℕ) → byte < 256 → tick_of_look (byte_levels bits byte) ≡ Byte byte
unfolding data_levels
byte_back bits byte h = ap Byte (value_back 8 byte h)

pub tick_back : (bits : ℕ) (tick : Tick) → 10 ≤ bits → IsTick tick
    → tick_of_look (tick_levels bits tick) ≡ tick
tick_back bits Silent few h = silent_back bits (omega arith)
tick_back bits (Byte byte) few h = byte_back bits byte h
