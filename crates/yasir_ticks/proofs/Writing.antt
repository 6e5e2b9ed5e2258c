-- The canonical text of ticks begins with the line of the first ticks, if these fill it or the next
-- tick ends it.
use Rattle.std.proofs.Common.{◌≡◌, ◌∙◌, ℕ, zero, suc, ◌+◌, ◌*◌, ◌/◌, ◌%◌, ◌==◌, ◌<◌, ◌≤◌, cond}
use Rattle.std.proofs.Common.{List, [], ◌∷◌, ◌++◌, length, map, take, drop, replicate, refl, sym}
use Rattle.std.proofs.{Common.ap, Common.arith, Common.inl, Common.inr, Math.Seq.drop-append-add}
use Rattle.std.proofs.lemmas.{Bool.cond-false, Bool.cases_lt, List.append-nil}
use Rattle.std.proofs.lemmas.List.{append_assoc, length-append, take_all, take-append-le}
use Rattle.std.specs.List.{flat_map, range_with_len}
use Rattle.yasir_ticks.proofs.Contents.{test_of}
use Rattle.yasir_ticks.specs.CanonicalText.{Stretch, stretches, with_tick, stretch_lines, byte_line}
use Rattle.yasir_ticks.specs.CanonicalText.{silence_line, canonical_text, Stretch.bytes}
use Rattle.yasir_ticks.specs.{CanonicalText.Stretch.silence, Ticks.silent}
use Rattle.yasir_ticks.specs.declared.tick.Tick.{Tick, TheVariants.Silent, TheVariants.Byte}

abbrev text_of : List Stretch → List ℕ
text_of parts = flat_map stretch_lines parts

-- ---- bytes

-- line i of a stretch of bytes
abbrev line_at : List ℕ → ℕ → List ℕ
line_at l i = byte_line (take 32 (drop (32 * i) l))

shifted : (f g : ℕ → List ℕ) (a n : ℕ) → ((i : ℕ) → f (i + 1) ≡ g i)
    → flat_map f (range_with_len (a + 1) n) ≡ flat_map g (range_with_len a n)
shifted f g a zero same = refl
shifted f g a (suc n) same =
    ap (λ x. x ++ flat_map f (range_with_len (a + 1 + 1) n)) (same a)
    ∙ ap (λ x. g a ++ x) (shifted f g (a + 1) n same)

-- A stretch of bytes that begins with 32 of them is one full line, and then the lines of the
-- others.
pub full_bytes : (l m : List ℕ) → length l ≡ 32
    → stretch_lines (bytes (l ++ m)) ≡ byte_line l ++ stretch_lines (bytes m)
full_bytes l m full =
    let count : (length (l ++ m) + 31) / 32 ≡ suc ((length m + 31) / 32) =
    simp length-append (omega arith) in
    let first : take 32 (l ++ m) ≡ l =
    take-append-le 32 l m (omega arith) ∙ take_all 32 l (omega arith) in
    ap (λ n. flat_map (line_at (l ++ m)) (range_with_len 0 n)) count
    ∙ ap (λ x. byte_line x
    ++ flat_map (line_at (l ++ m)) (range_with_len 1 ((length m + 31) / 32))) first
    ∙ ap (λ x. byte_line l ++ x)
    (shifted (line_at (l ++ m)) (line_at m) 0 ((length m + 31) / 32) later)
  where
    later : (i : ℕ) → line_at (l ++ m) (i + 1) ≡ line_at m i
    later i = let e : 32 * (i + 1) ≡ length l + 32 * i = omega arith in
        ap (λ k. byte_line (take 32 (drop k (l ++ m)))) e
        ∙ ap (λ x. byte_line (take 32 x)) (drop-append-add l m (32 * i))

-- A stretch of 1 to 32 bytes is one line.
pub last_bytes : (l : List ℕ) → 0 < length l → length l ≤ 32 → stretch_lines (bytes l) ≡ byte_line l
last_bytes l some few =
    let count : (length l + 31) / 32 ≡ 1 = omega arith in
    ap (λ n. flat_map (line_at l) (range_with_len 0 n)) count ∙ append-nil (byte_line (take 32 l))
    ∙ ap byte_line (take_all 32 l few)

-- these stretches, with bytes put before them
abbrev with_bytes : List ℕ → List Stretch → List Stretch
with_bytes l [] = bytes l ∷ []
with_bytes l (bytes m ∷ parts) = bytes (l ++ m) ∷ parts
with_bytes l (silence n ∷ parts) = bytes l ∷ silence n ∷ parts

stretches-bytes : (b : ℕ) (l : List ℕ) (more : List Tick)
    → stretches (map Byte (b ∷ l) ++ more) ≡ with_bytes (b ∷ l) (stretches more)
stretches-bytes b [] more = one (stretches more)
  where
    one : (parts : List Stretch) → with_tick (Byte b) parts ≡ with_bytes (b ∷ []) parts
    one [] = refl
    one (bytes m ∷ parts) = refl
    one (silence n ∷ parts) = refl
stretches-bytes b (c ∷ l) more =
    ap (with_tick (Byte b)) (stretches-bytes c l more) ∙ next (stretches more)
  where
    next : (parts : List Stretch)
        → with_tick (Byte b) (with_bytes (c ∷ l) parts) ≡ with_bytes (b ∷ c ∷ l) parts
    next [] = refl
    next (bytes m ∷ parts) = refl
    next (silence n ∷ parts) = refl

-- Holds if a line of these bytes is full, or the next of these stretches, if there is one, isn't of
-- bytes.
abbrev pub EndsBytes : List ℕ → List Stretch → Type 0
EndsBytes l [] = Unit {0}
EndsBytes l (bytes m ∷ parts) = length l ≡ 32
EndsBytes l (silence n ∷ parts) = Unit {0}

pub full_ends-bytes : (l : List ℕ) (parts : List Stretch) → length l ≡ 32 → EndsBytes l parts
full_ends-bytes l [] full = tt
full_ends-bytes l (bytes m ∷ parts) full = full
full_ends-bytes l (silence n ∷ parts) full = tt

pub silent_ends-bytes : (l : List ℕ) (parts : List Stretch)
    → EndsBytes l (with_tick Silent parts)
silent_ends-bytes l [] = tt
silent_ends-bytes l (bytes m ∷ parts) = tt
silent_ends-bytes l (silence n ∷ parts) = tt

text-bytes : (l : List ℕ) (parts : List Stretch) → 0 < length l → length l ≤ 32
    → EndsBytes l parts → text_of (with_bytes l parts) ≡ byte_line l ++ text_of parts
text-bytes l [] some few ends = ap (λ x. x ++ []) (last_bytes l some few)
text-bytes l (bytes m ∷ parts) some few full =
    ap (λ x. x ++ text_of parts) (full_bytes l m full)
    ∙ append_assoc (byte_line l) (stretch_lines (bytes m)) (text_of parts)
text-bytes l (silence n ∷ parts) some few ends =
    ap (λ x. x ++ text_of (silence n ∷ parts)) (last_bytes l some few)

pub leads-bytes : (l : List ℕ) (more : List Tick) → 0 < length l → length l ≤ 32
    → EndsBytes l (stretches more)
    → canonical_text (map Byte l ++ more) ≡ byte_line l ++ canonical_text more
leads-bytes [] more some few ends = absurd (omega arith)
leads-bytes (b ∷ l) more some few ends = ap text_of (stretches-bytes b l more)
    ∙ text-bytes (b ∷ l) (stretches more) some few ends

-- ---- silence

-- the lines of a silence: a number of full lines, and one line for the ticks that are left
silence_lines : ℕ → ℕ → List ℕ
silence_lines full left = flat_map silence_line (replicate full 1000000)
    ++ cond (left == 0) [] (silence_line left)

lines_of_silence : (n full left : ℕ) → n / 1000000 ≡ full → n % 1000000 ≡ left
    → stretch_lines (silence n) ≡ silence_lines full left
unfolding silence_lines
lines_of_silence n full left e f = ap (λ k. silence_lines k (n % 1000000)) e
    ∙ ap (λ k. silence_lines full k) f

silence_lines-full : (full left : ℕ)
    → silence_lines (suc full) left ≡ silence_line 1000000 ++ silence_lines full left
unfolding silence_lines
silence_lines-full full left =
    append_assoc (silence_line 1000000) (flat_map silence_line (replicate full 1000000))
    (cond (left == 0) [] (silence_line left))

silence_lines-last : (left : ℕ) → 0 < left → silence_lines 0 left ≡ silence_line left
unfolding silence_lines
silence_lines-last left some =
    cond-false (left == 0) [] (silence_line left) (test_of left 0 (λ e. absurd (omega arith)))

pub full_silence : (n m : ℕ) → n ≡ 1000000
    → stretch_lines (silence (n + m)) ≡ silence_line n ++ stretch_lines (silence m)
full_silence n m full =
    lines_of_silence (n + m) (suc (m / 1000000)) (m % 1000000) (omega arith) (omega arith)
    ∙ silence_lines-full (m / 1000000) (m % 1000000)
    ∙ ap (λ k. silence_line k ++ silence_lines (m / 1000000) (m % 1000000)) (sym full)
    ∙ ap (λ x. silence_line n ++ x)
    (sym (lines_of_silence m (m / 1000000) (m % 1000000) refl refl))

last_full : (n : ℕ) → n ≡ 1000000 → silence_line 1000000 ++ silence_lines 0 0 ≡ silence_line n
unfolding silence_lines
last_full n full = append-nil (silence_line 1000000) ∙ ap silence_line (sym full)

pub last_silence : (n : ℕ) → 0 < n → n ≤ 1000000 → stretch_lines (silence n) ≡ silence_line n
last_silence n some few = elim (cases_lt n 1000000) [
  | inl less ↦ lines_of_silence n 0 n (omega arith) (omega arith) ∙ silence_lines-last n some
  | inr full ↦ lines_of_silence n 1 0 (omega arith) (omega arith) ∙ silence_lines-full 0 0
      ∙ last_full n (omega arith)
]

abbrev with_silence : ℕ → List Stretch → List Stretch
with_silence n [] = silence n ∷ []
with_silence n (bytes l ∷ parts) = silence n ∷ bytes l ∷ parts
with_silence n (silence m ∷ parts) = silence (n + m) ∷ parts

stretches-silence : (n : ℕ) (more : List Tick)
    → stretches (silent (suc n) ++ more) ≡ with_silence (suc n) (stretches more)
stretches-silence zero more = one (stretches more)
  where
    one : (parts : List Stretch) → with_tick Silent parts ≡ with_silence 1 parts
    one [] = refl
    one (bytes l ∷ parts) = refl
    one (silence m ∷ parts) = let e : suc m ≡ 1 + m = omega arith in
        ap (λ k. silence k ∷ parts) e
stretches-silence (suc n) more =
    ap (with_tick Silent) (stretches-silence n more) ∙ next (stretches more)
  where
    next : (parts : List Stretch)
        → with_tick Silent (with_silence (suc n) parts) ≡ with_silence (suc (suc n)) parts
    next [] = refl
    next (bytes l ∷ parts) = refl
    next (silence m ∷ parts) = let e : suc (suc n + m) ≡ suc (suc n) + m = omega arith in
        ap (λ k. silence k ∷ parts) e

abbrev pub EndsSilence : ℕ → List Stretch → Type 0
EndsSilence n [] = Unit {0}
EndsSilence n (bytes l ∷ parts) = Unit {0}
EndsSilence n (silence m ∷ parts) = n ≡ 1000000

pub full_ends-silence : (n : ℕ) (parts : List Stretch) → n ≡ 1000000 → EndsSilence n parts
full_ends-silence n [] full = tt
full_ends-silence n (bytes l ∷ parts) full = tt
full_ends-silence n (silence m ∷ parts) full = full

pub byte_ends-silence : (n b : ℕ) (parts : List Stretch) → EndsSilence n (with_tick (Byte b) parts)
byte_ends-silence n b [] = tt
byte_ends-silence n b (bytes l ∷ parts) = tt
byte_ends-silence n b (silence m ∷ parts) = tt

text-silence : (n : ℕ) (parts : List Stretch) → 0 < n → n ≤ 1000000 → EndsSilence n parts
    → text_of (with_silence n parts) ≡ silence_line n ++ text_of parts
text-silence n [] some few ends = ap (λ x. x ++ []) (last_silence n some few)
text-silence n (bytes l ∷ parts) some few ends =
    ap (λ x. x ++ text_of (bytes l ∷ parts)) (last_silence n some few)
text-silence n (silence m ∷ parts) some few full =
    ap (λ x. x ++ text_of parts) (full_silence n m full)
    ∙ append_assoc (silence_line n) (stretch_lines (silence m)) (text_of parts)

pub leads-silence : (n : ℕ) (more : List Tick) → 0 < n → n ≤ 1000000
    → EndsSilence n (stretches more)
    → canonical_text (silent n ++ more) ≡ silence_line n ++ canonical_text more
leads-silence zero more some few ends = absurd (omega arith)
leads-silence (suc n) more some few ends = ap text_of (stretches-silence n more)
    ∙ text-silence (suc n) (stretches more) some few ends
