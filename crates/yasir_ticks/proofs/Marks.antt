-- Bytes with marks, and the ticks that they represent.
use Rattle.yasir_ticks.specs.DelayRing.{marked, marked_ticks}
use Rattle.std.proofs.Common.{◌≡◌, ◌∙◌, ℕ, zero, suc, ◌+◌, ◌<◌, ◌≤◌, List, [], ◌∷◌, ◌++◌, length}
use Rattle.std.proofs.Common.{length-append, take, drop, map, replicate, get_or, refl, sym, ap}
use Rattle.std.proofs.Common.{arith, append_assoc}
use Rattle.std.proofs.lemmas.List.{drop-take, drop-drop, take_at, length-take-le}
use Rattle.yasir_ticks.specs.Ticks.{silent}
use Rattle.yasir_ticks.specs.declared.tick.Tick.{Tick, TheVariants.Silent, TheVariants.Byte}

pub ticks-append : (x y m n : List ℕ) → length x ≡ length m
    → marked_ticks (x ++ y) (m ++ n) ≡ marked_ticks x m ++ marked_ticks y n
ticks-append [] y [] n same = refl
ticks-append [] y (k ∷ m) n same = absurd (omega arith)
ticks-append (b ∷ x) y [] n same = absurd (omega arith)
ticks-append (b ∷ x) y (k ∷ m) n same =
    ap (λ l. marked b k ∷ l) (ticks-append x y m n (omega arith))

pub ticks-length : (x m : List ℕ) → length x ≡ length m → length (marked_ticks x m) ≡ length x
ticks-length [] m same = refl
ticks-length (b ∷ x) [] same = absurd (omega arith)
ticks-length (b ∷ x) (k ∷ m) same = ap suc (ticks-length x m (omega arith))

pub ticks-take : (n : ℕ) (x m : List ℕ)
    → take n (marked_ticks x m) ≡ marked_ticks (take n x) (take n m)
ticks-take zero x m = refl
ticks-take (suc n) [] m = refl
ticks-take (suc n) (b ∷ x) [] = refl
ticks-take (suc n) (b ∷ x) (k ∷ m) = ap (λ l. marked b k ∷ l) (ticks-take n x m)

ticks-none : (x : List ℕ) → marked_ticks x [] ≡ []
ticks-none [] = refl
ticks-none (b ∷ x) = refl

pub ticks-drop : (n : ℕ) (x m : List ℕ)
    → drop n (marked_ticks x m) ≡ marked_ticks (drop n x) (drop n m)
ticks-drop zero x m = refl
ticks-drop (suc n) [] m = refl
ticks-drop (suc n) (b ∷ x) [] = sym (ticks-none (drop n x))
ticks-drop (suc n) (b ∷ x) (k ∷ m) = ticks-drop n x m

pub ticks-at : (x m : List ℕ) (i : ℕ) → i < length x → i < length m
    → get_or (marked_ticks x m) i Silent ≡ marked (get_or x i 0) (get_or m i 0)
ticks-at [] m i in_x in_m = absurd (omega arith)
ticks-at (b ∷ x) [] i in_x in_m = absurd (omega arith)
ticks-at (b ∷ x) (k ∷ m) zero in_x in_m = refl
ticks-at (b ∷ x) (k ∷ m) (suc i) in_x in_m = ticks-at x m i (omega arith) (omega arith)

-- The ticks are silent if the marks are those of silent ticks.
pub ticks-silent : (x : List ℕ) → marked_ticks x (replicate (length x) 0) ≡ silent (length x)
ticks-silent [] = refl
ticks-silent (b ∷ x) = ap (λ l. Silent ∷ l) (ticks-silent x)

-- The ticks are bytes if the marks are those of bytes.
pub ticks-bytes : (x : List ℕ) → marked_ticks x (replicate (length x) 1) ≡ map (λ b. Byte b) x
ticks-bytes [] = refl
ticks-bytes (b ∷ x) = ap (λ l. Byte b ∷ l) (ticks-bytes x)

pub marked-silent : (b k : ℕ) → k ≡ 0 → marked b k ≡ Silent
marked-silent b zero is = refl
marked-silent b (suc k) is = absurd (omega arith)

pub marked-byte : (b k : ℕ) → (k ≡ 0 → ⊥) → marked b k ≡ Byte b
marked-byte b zero some = absurd (some refl)
marked-byte b (suc k) some = refl

-- If no mark is that of a silent tick, all ticks are bytes.
pub all-bytes : (x m : List ℕ) → length x ≡ length m
    → ((k : ℕ) → k < length m → (get_or m k 0 ≡ 0 → ⊥)) → marked_ticks x m ≡ map (λ b. Byte b) x
all-bytes [] m same some = refl
all-bytes (b ∷ x) [] same some = absurd (omega arith)
all-bytes (b ∷ x) (k ∷ m) same some =
    ap (λ t. t ∷ marked_ticks x m) (marked-byte b k (some 0 (omega arith)))
    ∙ ap (λ l. Byte b ∷ l)
    (all-bytes x m (omega arith) (λ j less. some (suc j) (omega arith)))

-- If each mark is that of a silent tick, all ticks are silent.
pub all-silent : (x m : List ℕ) → length x ≡ length m
    → ((k : ℕ) → k < length m → get_or m k 0 ≡ 0) → marked_ticks x m ≡ silent (length x)
all-silent [] m same none = refl
all-silent (b ∷ x) [] same none = absurd (omega arith)
all-silent (b ∷ x) (k ∷ m) same none =
    ap (λ t. t ∷ marked_ticks x m) (marked-silent b k (none 0 (omega arith)))
    ∙ ap (λ l. Silent ∷ l)
    (all-silent x m (omega arith) (λ j less. none (suc j) (omega arith)))

-- If ticks are put right after the window of `n` ticks from place `o` on, and the window moves on
-- by as many, then its oldest ticks leave and the new ones come last.
window : (n o k : ℕ) (ticks entering behind : List Tick) → o + n ≤ length ticks
    → length entering ≡ k
    → take n (drop (o + k) (take (o + n) ticks ++ (entering ++ behind)))
    ≡ drop k (take n (drop o ticks) ++ entering)
window n o k ticks entering behind within size =
    let front : List Tick = take (o + n) ticks in
    let long : length front ≡ o + n = length-take-le (o + n) ticks within in
    let more = length-append front entering in
    let all : length (front ++ entering) ≡ o + k + n = omega arith in
    sym (drop-take (o + k) n (front ++ (entering ++ behind)))
    ∙ (ap (λ l. drop (o + k) (take (o + k + n) l)) (sym (append_assoc front entering behind))
    ∙ (ap (λ l. drop (o + k) l) (take_at (front ++ entering) behind (o + k + n) all)
    ∙ (sym (drop-drop k o (front ++ entering))
    ∙ ap (λ l. drop k l) (drop-front o n ticks entering within))))
  where
    drop-front : (o n : ℕ) (ticks entering : List Tick) → o + n ≤ length ticks
        → drop o (take (o + n) ticks ++ entering) ≡ take n (drop o ticks) ++ entering
    drop-front zero n ticks entering within = ap (λ k. take k ticks ++ entering)
        (let h : zero + n ≡ n = omega arith in h)
    drop-front (suc o) n [] entering within = absurd (omega arith)
    drop-front (suc o) n (t ∷ ticks) entering within =
        let next : suc o + n ≡ suc (o + n) = omega arith in
        ap (λ k. drop (suc o) (take k (t ∷ ticks) ++ entering)) next
        ∙ drop-front o n ticks entering (omega arith)

-- If bytes and marks are written right after those that are kept, the ticks that they represent
-- come after the ticks that are kept, whatever follows them.
pub entered : (n o k : ℕ) (bytes marks x m rest last : List ℕ) → length bytes ≡ length marks
    → o + n ≤ length bytes → length x ≡ k → length m ≡ k
    → take n (drop (o + k) (marked_ticks (take (o + n) bytes ++ (x ++ rest))
    (take (o + n) marks ++ (m ++ last))))
    ≡ drop k (take n (drop o (marked_ticks bytes marks)) ++ marked_ticks x m)
entered n o k bytes marks x m rest last same within long_x long_m =
    let size = ticks-length bytes marks same in
    let here = length-take-le (o + n) bytes (omega arith) in
    let there = length-take-le (o + n) marks (omega arith) in
    let inner = ticks-length x m (omega arith) in
    let split = ticks-append (take (o + n) bytes) (x ++ rest) (take (o + n) marks) (m ++ last)
    (omega arith) in
    let next = ticks-append x rest m last (omega arith) in
    ap (λ l. take n (drop (o + k) l))
    (split ∙ (ap (λ l. l ++ marked_ticks (x ++ rest) (m ++ last))
    (sym (ticks-take (o + n) bytes marks))
    ∙ ap (λ l. take (o + n) (marked_ticks bytes marks) ++ l) next))
    ∙ window n o k (marked_ticks bytes marks) (marked_ticks x m) (marked_ticks rest last)
    (omega arith) (omega arith)
