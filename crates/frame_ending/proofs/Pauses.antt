-- Pauses and bytes of ticks that go on after a byte.
use Rattle.frame_ending.specs.LiveBytes.{before_pause, has_pause, up_to_byte}
use Rattle.std.proofs.Common.{◌≡◌, ℕ, zero, suc, ◌<◌, ◌≤◌, nat_le, true, false, ◌||◌, List, [], ◌∷◌}
use Rattle.std.proofs.Common.{◌++◌, length, refl, arith, sym, ◌∙◌, ap, append_assoc}
use Rattle.std.proofs.lemmas.{Bool.le-leb, List.append-nil}
use Rattle.yasir_ticks.specs.BurstsOf.{IsContiguous, one, more}
use Rattle.yasir_ticks.specs.Ticks.{bytes_in, silent}
use Rattle.yasir_ticks.specs.declared.tick.Tick.{Tick, TheVariants.Silent, TheVariants.Byte}

-- ticks that end with this byte
abbrev pub ended : List Tick → ℕ → List Tick
ended w a = w ++ Byte a ∷ []

-- contiguous ticks end with a byte
pub contiguous-ends : (cut : ℕ) (x : List Tick) → IsContiguous cut x
    → (w : List Tick) × (a : ℕ) × (x ≡ ended w a)
contiguous-ends cut x (one b) = ([], b, refl)
contiguous-ends cut x (more b gap rest few contiguous) =
    let last = contiguous-ends cut rest contiguous in (
      Byte b ∷ (silent gap ++ last.0),
      last.1,
      ap (λ y. Byte b ∷ y) (ap (λ y. silent gap ++ y) last.2
          ∙ sym (append_assoc (silent gap) last.0 (Byte last.1 ∷ []))),
    )

-- no pause goes across a byte
pub has_pause-append : (w : List Tick) (a : ℕ) (y : List Tick)
    → has_pause (ended w a ++ y) ≡ (has_pause (ended w a) || has_pause y)
unfolding has_pause
has_pause-append [] a y = refl
has_pause-append (Byte c ∷ w) a y = has_pause-append w a y
has_pause-append (Silent ∷ []) a y = refl
has_pause-append (Silent ∷ Silent ∷ w) a y = refl
has_pause-append (Silent ∷ Byte c ∷ w) a y = has_pause-append w a y

-- what comes after a pause doesn't change the ticks before it
pub before_pause-paused : (w : List Tick) (a : ℕ) (y : List Tick) → has_pause (ended w a) ≡ true
    → before_pause (ended w a ++ y) ≡ before_pause (ended w a)
unfolding has_pause before_pause
before_pause-paused [] a y paused = cc
before_pause-paused (Byte c ∷ w) a y paused =
    ap (λ x. Byte c ∷ x) (before_pause-paused w a y paused)
before_pause-paused (Silent ∷ []) a y paused = cc
before_pause-paused (Silent ∷ Silent ∷ w) a y paused = refl
before_pause-paused (Silent ∷ Byte c ∷ w) a y paused =
    ap (λ x. Silent ∷ Byte c ∷ x) (before_pause-paused w a y paused)

-- with no pause up to a byte, the ticks before a pause go on after that byte
pub before_pause-goes_on : (w : List Tick) (a : ℕ) (y : List Tick) → has_pause (ended w a) ≡ false
    → before_pause (ended w a ++ y) ≡ ended w a ++ before_pause y
unfolding has_pause before_pause
before_pause-goes_on [] a y none = refl
before_pause-goes_on (Byte c ∷ w) a y none = ap (λ x. Byte c ∷ x) (before_pause-goes_on w a y none)
before_pause-goes_on (Silent ∷ []) a y none = refl
before_pause-goes_on (Silent ∷ Silent ∷ w) a y none = cc
before_pause-goes_on (Silent ∷ Byte c ∷ w) a y none =
    ap (λ x. Silent ∷ Byte c ∷ x) (before_pause-goes_on w a y none)

pub before_pause-whole : (w : List Tick) (a : ℕ) → has_pause (ended w a) ≡ false
    → before_pause (ended w a) ≡ ended w a
unfolding before_pause
before_pause-whole w a none =
    ap before_pause (sym (append-nil (ended w a)))
    ∙ (before_pause-goes_on w a [] none ∙ append-nil (ended w a))

-- silent ticks before a byte are a pause if they are two or more
pub has_pause-silent : (gap b : ℕ) → has_pause (silent gap ++ Byte b ∷ []) ≡ nat_le 2 gap
unfolding has_pause
has_pause-silent zero b = refl
has_pause-silent (suc zero) b = refl
has_pause-silent (suc (suc gap)) b = sym (le-leb 2 (suc (suc gap)) (omega arith))

pub before_pause-silent_few : (gap b : ℕ) → gap < 2
    → before_pause (silent gap ++ Byte b ∷ []) ≡ silent gap ++ Byte b ∷ []
unfolding before_pause
before_pause-silent_few zero b few = refl
before_pause-silent_few (suc zero) b few = refl
before_pause-silent_few (suc (suc gap)) b few = absurd (omega arith)

pub before_pause-silent_more : (gap b : ℕ) → 2 ≤ gap → before_pause (silent gap ++ Byte b ∷ []) ≡ []
unfolding before_pause
before_pause-silent_more zero b many = absurd (omega arith)
before_pause-silent_more (suc zero) b many = absurd (omega arith)
before_pause-silent_more (suc (suc gap)) b many = refl

pub bytes_before-le : (x : List Tick) → length (bytes_in (before_pause x)) ≤ length (bytes_in x)
unfolding before_pause
bytes_before-le [] = omega arith
bytes_before-le (Byte b ∷ x) = let rest = bytes_before-le x in omega arith
bytes_before-le (Silent ∷ []) = omega arith
bytes_before-le (Silent ∷ Silent ∷ x) = omega arith
bytes_before-le (Silent ∷ Byte b ∷ x) = let rest = bytes_before-le x in omega arith

-- more ticks don't change the ticks up to a byte
pub up_to_byte-append : (k : ℕ) (x y : List Tick) → k ≤ length (bytes_in x)
    → up_to_byte k (x ++ y) ≡ up_to_byte k x
unfolding up_to_byte
up_to_byte-append zero x y within = refl
up_to_byte-append (suc k) [] y within = absurd (omega arith)
up_to_byte-append (suc k) (Silent ∷ x) y within =
    ap (λ z. Silent ∷ z) (up_to_byte-append (suc k) x y within)
up_to_byte-append (suc k) (Byte b ∷ x) y within =
    ap (λ z. Byte b ∷ z) (up_to_byte-append k x y (omega arith))

-- the ticks up to the last byte are all ticks, if they end with it
pub up_to_byte-all : (x : List Tick) (b : ℕ)
    → up_to_byte (suc (length (bytes_in x))) (ended x b) ≡ ended x b
unfolding up_to_byte
up_to_byte-all [] b = refl
up_to_byte-all (Silent ∷ x) b = ap (λ z. Silent ∷ z) (up_to_byte-all x b)
up_to_byte-all (Byte a ∷ x) b = ap (λ z. Byte a ∷ z) (up_to_byte-all x b)

pub up_to_byte-le : (k : ℕ) (x : List Tick) → length (up_to_byte k x) ≤ length x
unfolding up_to_byte
up_to_byte-le zero x = omega arith
up_to_byte-le (suc k) [] = omega arith
up_to_byte-le (suc k) (Silent ∷ x) = let rest = up_to_byte-le (suc k) x in omega arith
up_to_byte-le (suc k) (Byte b ∷ x) = let rest = up_to_byte-le k x in omega arith
