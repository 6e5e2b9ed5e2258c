-- The ticks of a ring, which are a window of its bytes and marks.
use Rattle.yasir_ticks.proofs.Marks.{ticks-append, ticks-length, ticks-take, ticks-drop, ticks-at}
use Rattle.yasir_ticks.proofs.Marks.{ticks-silent, ticks-bytes, all-bytes, all-silent, entered}
use Rattle.yasir_ticks.proofs.Marks.{marked-silent, marked-byte}
use Rattle.yasir_ticks.specs.DelayRing.{marked, marked_ticks, AreAlike}
use Rattle.std.proofs.Common.{◌≡◌, ◌∙◌, ℕ, zero, suc, ◌+◌, ◌<◌, ◌≤◌, List, [], ◌∷◌, ◌++◌, length}
use Rattle.std.proofs.Common.{take, drop, map, replicate, get_or, refl, sym, ap, arith, slice_set}
use Rattle.std.proofs.Common.{⊎_elim}
use Rattle.std.proofs.lemmas.List.{drop-append-le, take_at, drop_at, set_split, length-drop}
use Rattle.std.proofs.lemmas.List.{length-take-le, take-append-drop, take-replicate, get_or-take}
use Rattle.std.proofs.lemmas.List.{get_or-drop, drop-drop, length-replicate}
use Rattle.yasir_ticks.specs.Ticks.{silent}
use Rattle.yasir_ticks.specs.declared.tick.Tick.{Tick, TheVariants.Silent, TheVariants.Byte}

-- the `n` ticks from place `o` on
abbrev from : ℕ → ℕ → List ℕ → List ℕ → List Tick
from n o bytes marks = take n (drop o (marked_ticks bytes marks))

take-less : {A : Type 0} (k n : ℕ) (x : List A) → k ≤ n → take k (take n x) ≡ take k x
take-less zero n x less = refl
take-less (suc k) zero x less = absurd (omega arith)
take-less (suc k) (suc n) [] less = refl
take-less (suc k) (suc n) (t ∷ x) less = ap (λ l. t ∷ l) (take-less k n x (omega arith))

nothing-marked : (room : ℕ) → marked_ticks (replicate room 0) (replicate room 0) ≡ silent room
nothing-marked zero = refl
nothing-marked (suc room) = ap (λ l. Silent ∷ l) (nothing-marked room)

-- a ring begins with silence
pub ring-begun : (n room : ℕ) → n ≤ room
    → from n 0 (replicate room 0) (replicate room 0) ≡ silent n
ring-begun n room fits =
    ap (λ l. take n l) (nothing-marked room) ∙ take-replicate n room Silent fits

-- a byte isn't silent
byte-at : (x : List ℕ) (j : ℕ) → j < length x → get_or (map (λ b. Byte b) x) j Silent ≡ Silent → ⊥
byte-at [] j few is = absurd (omega arith)
byte-at (b ∷ x) zero few is = absurd cc
byte-at (b ∷ x) (suc j) few is = byte-at x j (omega arith) is

long-map : (x : List ℕ) → length (map {B = Tick} (λ b. Byte b) x) ≡ length x
long-map [] = refl
long-map (b ∷ x) = ap suc (long-map x)

silent-first : (k : ℕ) → 0 < k → get_or (silent k) 0 Silent ≡ Silent
silent-first zero some = absurd (omega arith)
silent-first (suc k) some = refl

module _ (n o : ℕ) (bytes marks : List ℕ) (same : length bytes ≡ length marks)
    (within : o + n ≤ length bytes) where
  -- The first ticks of the window are those of its first bytes and marks.
  parts : (k : ℕ) → k ≤ n
      → take k (from n o bytes marks) ≡ marked_ticks (take k (drop o bytes)) (take k (drop o marks))
  parts k few =
      take-less k n (drop o (marked_ticks bytes marks)) few
      ∙ (ap (λ l. take k l) (ticks-drop o bytes marks)
      ∙ ticks-take k (drop o bytes) (drop o marks))

  part-long : (k : ℕ) → k ≤ n → (x : List ℕ) → length x ≡ length bytes
      → length (take k (drop o x)) ≡ k
  part-long k few x long =
      let less = length-drop o x in length-take-le k (drop o x) (omega arith)

  part-at : (k j : ℕ) → j < k → get_or (take k (drop o marks)) j 0 ≡ get_or marks (o + j) 0
  part-at k j few = get_or-take k (drop o marks) j 0 few ∙ get_or-drop o marks j 0

  -- Each tick of the window is that of the byte and the mark at its place.
  pub ring-at : (k : ℕ) → k < n
      → get_or (from n o bytes marks) k Silent
      ≡ marked (get_or bytes (o + k) 0) (get_or marks (o + k) 0)
  ring-at k few =
      get_or-take n (drop o (marked_ticks bytes marks)) k Silent few
      ∙ (get_or-drop o (marked_ticks bytes marks) k Silent
      ∙ ticks-at bytes marks (o + k) (omega arith) (omega arith))

  pub ring-get : (k : ℕ) → k < n
      → get_or (from n o bytes marks) k Silent ≡ get_or (marked_ticks bytes marks) (o + k) Silent
  ring-get k few =
      get_or-take n (drop o (marked_ticks bytes marks)) k Silent few
      ∙ get_or-drop o (marked_ticks bytes marks) k Silent

  -- The first ticks are bytes if all their marks are those of bytes.
  pub front-bytes : (k : ℕ) → k ≤ n
      → ((j : ℕ) → j < k → (get_or marks (o + j) 0 ≡ 0 → ⊥))
      → map (λ b. Byte b) (take k (drop o bytes)) ≡ take k (from n o bytes marks)
  front-bytes k few some =
      let long = part-long k few marks (sym same) in
      let here = part-long k few bytes refl in
      sym (parts k few
      ∙ all-bytes (take k (drop o bytes)) (take k (drop o marks)) (here ∙ sym long)
      (λ j less none. some j (omega arith) (sym (part-at k j (omega arith)) ∙ none)))

  -- The first ticks are bytes if they are alike and the first mark is that of a byte.
  pub alike-bytes : (k : ℕ) → k ≤ n → AreAlike (take k (from n o bytes marks))
      → (get_or marks o 0 ≡ 0 → ⊥)
      → map (λ b. Byte b) (take k (drop o bytes)) ≡ take k (from n o bytes marks)
  alike-bytes k few alike some =
      let Q : List Tick = from n o bytes marks in
      let all = ticks-length bytes marks same in
      let rest = length-drop o (marked_ticks bytes marks) in
      let whole : length Q ≡ n = length-take-le n (drop o (marked_ticks bytes marks)) (omega arith) in
      let long : length (take k Q) ≡ k = length-take-le k Q (omega arith) in
      front-bytes k few (λ j less none.
      let here : get_or (take k Q) j Silent ≡ Silent =
      get_or-take k Q j Silent less ∙ (ring-at j (omega arith)
      ∙ marked-silent (get_or bytes (o + j) 0) (get_or marks (o + j) 0) none) in
      ⊎_elim
      (λ silence.
      let size : length (take k Q) ≡ k = long in
      let first : get_or (take k Q) 0 Silent ≡ Silent =
      ap (λ l. get_or l 0 Silent) silence ∙ silent-first (length (take k Q)) (omega arith) in
      let at : o + 0 ≡ o = omega arith in
      let mark : get_or marks (o + 0) 0 ≡ 0 → ⊥ = λ is. some (ap (λ i. get_or marks i 0) (sym at) ∙ is)
      in
      let byte : get_or (take k Q) 0 Silent ≡ Byte (get_or bytes (o + 0) 0) =
      get_or-take k Q 0 Silent (omega arith) ∙ (ring-at 0 (omega arith)
      ∙ marked-byte (get_or bytes (o + 0) 0) (get_or marks (o + 0) 0) mark) in
      let both : Silent ≡ Byte (get_or bytes (o + 0) 0) = sym first ∙ byte in
      absurd cc)
      (λ bytes_all.
      let size : length bytes_all.0 ≡ k =
      sym (long-map bytes_all.0) ∙ (sym (ap length bytes_all.1) ∙ long) in
      byte-at bytes_all.0 j (omega arith) (sym (ap (λ l. get_or l j Silent) bytes_all.1) ∙ here))
      alike)

  -- The first ticks are silent if all their marks are those of silence.
  pub front-silent : (k : ℕ) → k ≤ n
      → ((j : ℕ) → j < k → get_or marks (o + j) 0 ≡ 0)
      → take k (from n o bytes marks) ≡ silent k
  front-silent k few none =
      let long = part-long k few marks (sym same) in
      let here = part-long k few bytes refl in
      parts k few
      ∙ (all-silent (take k (drop o bytes)) (take k (drop o marks)) (here ∙ sym long)
      (λ j less. part-at k j (omega arith) ∙ none j (omega arith))
      ∙ ap silent here)

  -- If the window is moved to the front, its ticks are the same.
  pub moved : (more less : List ℕ)
      → from n 0 (take n (drop o bytes) ++ more) (take n (drop o marks) ++ less)
      ≡ from n o bytes marks
  moved more less =
      let short : n ≤ n = omega arith in
      let here = part-long n short bytes refl in
      let long = part-long n short marks (sym same) in
      let size = ticks-length (take n (drop o bytes)) (take n (drop o marks)) (here ∙ sym long) in
      ap (λ l. take n l)
      (ticks-append (take n (drop o bytes)) more (take n (drop o marks)) less (here ∙ sym long))
      ∙ (take_at (marked_ticks (take n (drop o bytes)) (take n (drop o marks)))
      (marked_ticks more less) n (size ∙ here)
      ∙ sym (ap (λ l. take n l) (ticks-drop o bytes marks)
      ∙ ticks-take n (drop o bytes) (drop o marks)))

  -- If marks of silence are written over the window, its ticks are silent.
  pub cleared : (marks_before behind : List ℕ) → length marks_before ≡ o
      → from n o bytes (marks_before ++ (replicate n 0 ++ behind)) ≡ silent n
  cleared marks_before behind size =
      let short : n ≤ n = omega arith in
      let here = part-long n short bytes refl in
      let none = length-replicate n 0 in
      ap (λ l. take n l) (ticks-drop o bytes (marks_before ++ (replicate n 0 ++ behind)))
      ∙ (ap (λ l. take n (marked_ticks (drop o bytes) l))
      (drop_at marks_before (replicate n 0 ++ behind) o size)
      ∙ (ticks-take n (drop o bytes) (replicate n 0 ++ behind)
      ∙ (ap (λ l. marked_ticks (take n (drop o bytes)) l) (take_at (replicate n 0) behind n none)
      ∙ (ap (λ k. marked_ticks (take n (drop o bytes)) (replicate k 0)) (sym here)
      ∙ (ticks-silent (take n (drop o bytes)) ∙ ap silent here)))))

  -- ---- what comes after the window

  pub bytes-come : (x rest last : List ℕ)
      → from n (o + length x) (take (o + n) bytes ++ (x ++ rest))
      (take (o + n) marks ++ (replicate (length x) 1 ++ last))
      ≡ drop (length x) (from n o bytes marks ++ map (λ b. Byte b) x)
  bytes-come x rest last =
      entered n o (length x) bytes marks x (replicate (length x) 1) rest last same within refl
      (length-replicate (length x) 1)
      ∙ ap (λ l. drop (length x) (from n o bytes marks ++ l)) (ticks-bytes x)

  pub silence-comes : (k : ℕ) (last : List ℕ) → o + n + k ≤ length bytes
      → from n (o + k) bytes (take (o + n) marks ++ (replicate k 0 ++ last))
      ≡ drop k (from n o bytes marks ++ silent k)
  silence-comes k last room =
      let x : List ℕ = take k (drop (o + n) bytes) in
      let less = length-drop (o + n) bytes in
      let long : length x ≡ k = length-take-le k (drop (o + n) bytes) (omega arith) in
      let rest : drop k (drop (o + n) bytes) ≡ drop (o + n + k) bytes =
      drop-drop k (o + n) bytes in
      let split : bytes ≡ take (o + n) bytes ++ (x ++ drop (o + n + k) bytes) =
      sym (take-append-drop (o + n) bytes)
      ∙ ap (λ l. take (o + n) bytes ++ l)
      (sym (take-append-drop k (drop (o + n) bytes)) ∙ ap (λ l. x ++ l) rest) in
      let marks' : List ℕ = take (o + n) marks ++ (replicate k 0 ++ last) in
      ap (λ b. from n (o + k) b marks') split
      ∙ (entered n o k bytes marks x (replicate k 0) (drop (o + n + k) bytes) last same within long
      (length-replicate k 0)
      ∙ ap (λ l. drop k (from n o bytes marks ++ l))
      (ap (λ j. marked_ticks x (replicate j 0)) (sym long) ∙ (ticks-silent x ∙ ap silent long)))

  pub one-comes : (byte mark : ℕ) → 1 ≤ n → o + n + 1 ≤ length bytes
      → from n (o + 1) (slice_set bytes (o + n) byte) (slice_set marks (o + n) mark)
      ≡ drop 1 (from n o bytes marks) ++ marked byte mark ∷ []
  one-comes byte mark some room =
      let next : suc (o + n) ≡ o + n + 1 = omega arith in
      let byte_set : slice_set bytes (o + n) byte
      ≡ take (o + n) bytes ++ (byte ∷ [] ++ drop (o + n + 1) bytes) =
      set_split bytes (o + n) byte (omega arith)
      ∙ ap (λ k. take (o + n) bytes ++ byte ∷ drop k bytes) next in
      let mark_set : slice_set marks (o + n) mark
      ≡ take (o + n) marks ++ (mark ∷ [] ++ drop (o + n + 1) marks) =
      set_split marks (o + n) mark (omega arith)
      ∙ ap (λ k. take (o + n) marks ++ mark ∷ drop k marks) next in
      let all = ticks-length bytes marks same in
      let less = length-drop o (marked_ticks bytes marks) in
      let long : length (from n o bytes marks) ≡ n =
      length-take-le n (drop o (marked_ticks bytes marks)) (omega arith) in
      ap (λ b. from n (o + 1) b (slice_set marks (o + n) mark)) byte_set
      ∙ (ap (λ m. from n (o + 1) (take (o + n) bytes ++ (byte ∷ [] ++ drop (o + n + 1) bytes)) m)
      mark_set
      ∙ (entered n o 1 bytes marks (byte ∷ []) (mark ∷ []) (drop (o + n + 1) bytes)
      (drop (o + n + 1) marks) same within refl refl
      ∙ drop-append-le 1 (from n o bytes marks) (marked byte mark ∷ []) (omega arith)))
