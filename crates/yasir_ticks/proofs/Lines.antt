-- The lines of a text, and of a text that is followed by another one.
use Rattle.std.proofs.Common.{◌≡◌, ◌≢◌, ◌∙◌, ◌==◌, ℕ, zero, suc, Bool, true, false, List, [], ◌∷◌}
use Rattle.std.proofs.Common.{◌++◌, ◌<◌, replicate, length, get_or, refl, ap, cond, arith}
use Rattle.std.proofs.{Common.append_assoc, Common.append-nil, lemmas.Bool.and_parts}
use Rattle.std.specs.List.{list_all}
use Rattle.yasir_ticks.specs.TickText.{Lines, lines_of, with_front}

-- all lines of a text, including the last one
abbrev pub all_lines : List ℕ → List (List ℕ)
all_lines text = (lines_of text).ended ++ (lines_of text).last ∷ []

-- these lines, with `front` put before the first of them
abbrev pub joined : List ℕ → List (List ℕ) → List (List ℕ)
joined front [] = []
joined front (l ∷ ls) = (front ++ l) ∷ ls

test_of : (b : ℕ) → b ≢ 10 → (b == 10) ≡ false
test_of b h = grind arith

-- the lines of a text with one more byte put before it, which is an LF if `lf` holds
abbrev fronted : Bool → ℕ → Lines → Lines
fronted lf c lines =
    cond lf (record { ended = [] ∷ lines.ended; last = lines.last })
    (with_front c lines.ended lines.last)

-- the lines of a text that is followed by one with these ended lines and this last one
abbrev pub behind : Lines → List (List ℕ) → List ℕ → Lines
behind lines [] last = record { ended = lines.ended; last = lines.last ++ last }
behind lines (l ∷ ls) last =
    record { ended = lines.ended ++ (lines.last ++ l) ∷ ls; last = last }

fronted_behind : (lf : Bool) (c : ℕ) (xs : List (List ℕ)) (x : List ℕ) (ys : List (List ℕ))
    (y : List ℕ) → fronted lf c (behind (record { ended = xs; last = x }) ys y)
    ≡ behind (fronted lf c (record { ended = xs; last = x })) ys y
fronted_behind true c xs x [] y = refl
fronted_behind true c xs x (l ∷ ls) y = refl
fronted_behind false c [] x [] y = refl
fronted_behind false c [] x (l ∷ ls) y = refl
fronted_behind false c (z ∷ xs) x [] y = refl
fronted_behind false c (z ∷ xs) x (l ∷ ls) y = refl

-- In a text that is followed by another one, the first line of the second goes on with the last
-- line of the first.
pub lines_of-append : (x y : List ℕ)
    → lines_of (x ++ y) ≡ behind (lines_of x) (lines_of y).ended (lines_of y).last
unfolding lines_of
lines_of-append [] y = alone (lines_of y).ended (lines_of y).last
  where
    alone : (ls : List (List ℕ)) (l : List ℕ) → record { ended = ls; last = l }
        ≡ behind (record { ended = []; last = [] }) ls l
    alone [] l = refl
    alone (k ∷ ls) l = refl
lines_of-append (c ∷ x) y = ap (fronted (c == 10) c) (lines_of-append x y)
    ∙ fronted_behind (c == 10) c (lines_of x).ended (lines_of x).last (lines_of y).ended
    (lines_of y).last

-- An LF ends the last line.
pub lines_of-lf : (x : List ℕ) → lines_of (x ++ 10 ∷ [])
    ≡ record { ended = (lines_of x).ended ++ (lines_of x).last ∷ []; last = [] }
unfolding lines_of
lines_of-lf x = lines_of-append x (10 ∷ [])
    ∙ ap (λ l. record { ended = (lines_of x).ended ++ l ∷ []; last = [] })
    (append-nil (lines_of x).last)

-- A byte other than LF is appended to the last line.
pub lines_of-more : (x : List ℕ) (b : ℕ) → b ≢ 10 → lines_of (x ++ b ∷ [])
    ≡ record { ended = (lines_of x).ended; last = (lines_of x).last ++ b ∷ [] }
unfolding lines_of
lines_of-more x b h = lines_of-append x (b ∷ []) ∙ rw (test_of b h) refl

-- Holds for bytes without an LF.
abbrev pub IsFree : List ℕ → Type 0
IsFree line = (k : ℕ) → k < length line → get_or line k 0 ≢ 10

one_line : (line : List ℕ) → IsFree line → lines_of line ≡ record { ended = []; last = line }
unfolding lines_of
one_line [] free = refl
one_line (b ∷ line) free = let first : b ≢ 10 = free 0 (omega arith) in
    rw (test_of b first, one_line line (λ k h. free (suc k) (omega arith))) refl

-- Bytes without an LF go on with the last line.
pub lines_of-free : (more text : List ℕ) → IsFree more → lines_of (text ++ more)
    ≡ record { ended = (lines_of text).ended; last = (lines_of text).last ++ more }
lines_of-free more text free = lines_of-append text more
    ∙ ap (λ (l : Lines). behind (lines_of text) l.ended l.last) (one_line more free)

-- Among all lines of a text that is followed by another one, the first line of the second goes on
-- with the last line of the first.
pub all_lines-append : (x y : List ℕ) → all_lines (x ++ y)
    ≡ (lines_of x).ended ++ joined (lines_of x).last (all_lines y)
all_lines-append x y =
    ap (λ (l : Lines). l.ended ++ l.last ∷ []) (lines_of-append x y)
    ∙ all_behind (lines_of x) (lines_of y).ended (lines_of y).last
  where
    all_behind : (x : Lines) (ls : List (List ℕ)) (l : List ℕ)
        → (behind x ls l).ended ++ (behind x ls l).last ∷ []
        ≡ x.ended ++ joined x.last (ls ++ l ∷ [])
    all_behind x [] l = refl
    all_behind x (k ∷ ls) l = append_assoc x.ended ((x.last ++ k) ∷ ls) (l ∷ [])

pub all_lines-lf : (x : List ℕ) → all_lines (10 ∷ x) ≡ [] ∷ all_lines x
unfolding lines_of
all_lines-lf x = refl

pub all_lines-byte : (b : ℕ) (x : List ℕ) → b ≢ 10
    → all_lines (b ∷ x) ≡ joined (b ∷ []) (all_lines x)
unfolding lines_of
all_lines-byte b x h = all_lines-append (b ∷ []) x ∙ rw (test_of b h) refl

-- Bytes that all pass a test that an LF doesn't pass have no LF.
pub free_passing : (test : ℕ → Bool) (line : List ℕ) → test 10 ≡ false
    → list_all test line ≡ true → IsFree line
free_passing test [] bad all k h = absurd (omega arith)
free_passing test (b ∷ line) bad all zero h = λ e.
    let parts = and_parts (test b) (list_all test line) all in cc (rw e at parts.0, bad)
free_passing test (b ∷ line) bad all (suc k) h =
    free_passing test line bad (and_parts (test b) (list_all test line) all).1 k (omega arith)

pub free_behind : (sign : ℕ) (line : List ℕ) → sign ≢ 10 → IsFree line → IsFree (sign ∷ line)
free_behind sign line other free zero h = other
free_behind sign line other free (suc k) h = free k (omega arith)

-- A line and its LF, followed by a text, have the line and then the lines of that text.
pub all_lines-line : (line more : List ℕ) → IsFree line
    → all_lines (line ++ 10 ∷ more) ≡ line ∷ all_lines more
all_lines-line line more free = all_lines-append line (10 ∷ more)
    ∙ ap (λ (l : Lines). l.ended ++ joined l.last (all_lines (10 ∷ more))) (one_line line free)
    ∙ ap (joined line) (all_lines-lf more) ∙ ap (λ l. l ∷ all_lines more) (append-nil line)

-- Each text has a first line.
pub all_lines-first : (x : List ℕ) → (l : List ℕ) × (ls : List (List ℕ)) × (all_lines x ≡ l ∷ ls)
all_lines-first x = first (lines_of x).ended (lines_of x).last
  where
    first : (ended : List (List ℕ)) (last : List ℕ)
        → (l : List ℕ) × (ls : List (List ℕ)) × (ended ++ last ∷ [] ≡ l ∷ ls)
    first [] last = (last, [], refl)
    first (l ∷ ls) last = (l, ls ++ last ∷ [], refl)

-- n more lines, each of them a mark
abbrev pub mark_lines : ℕ → List ℕ
mark_lines zero = []
mark_lines (suc n) = 10 ∷ 37 ∷ mark_lines n

pub all_lines-marks : (n : ℕ) → all_lines (mark_lines n) ≡ [] ∷ replicate n (37 ∷ [])
unfolding lines_of
all_lines-marks zero = refl
all_lines-marks (suc n) =
    ap (λ ls. [] ∷ ls) (all_lines-byte 37 (mark_lines n) (λ e. absurd (omega arith))
    ∙ ap (joined (37 ∷ [])) (all_lines-marks n))
