-- Bytes are written with their marks: which ticks they are then.
use Rattle.yasir_ticks.proofs.Marks.{ticks-append, ticks-take, ticks-bytes, ticks-silent}
use Rattle.yasir_ticks.proofs.Marks.{ticks-length, ticks-at, marked-silent, marked-byte}
use Rattle.yasir_ticks.specs.DelayRing.{marked, marked_ticks}
use Rattle.std.proofs.Common.{◌≡◌, ◌∙◌, ℕ, zero, suc, ◌+◌, ◌-◌, ◌<◌, ◌≤◌, List, [], ◌∷◌, ◌++◌}
use Rattle.std.proofs.Common.{length, take, drop, map, replicate, refl, ap, sym, arith}
use Rattle.std.proofs.Common.{append_assoc, length-append, slice_set}
use Rattle.std.proofs.lemmas.List.{take_all, take_at, length-take-le, length-drop, drop-take}
use Rattle.std.proofs.lemmas.List.{length-replicate, length-set, get_or-take}
use Rattle.std.{proofs.lemmas.List.get_or-drop, specs.Prelude.slice_index_or, specs.Prelude.bit_xor}
use Rattle.trial_session.{proofs.SentRuns.take-some, specs.Alterations.changed}
use Rattle.yasir_ticks.specs.Ticks.{silent}
use Rattle.yasir_ticks.specs.declared.tick.Tick.{Tick, TheVariants.Silent, TheVariants.Byte}

-- What is written at a place `o` comes after the first `o` places.
written : (o k : ℕ) (places x more : List ℕ) → o ≤ length places → length x ≡ k
    → take (o + k) (take o places ++ (x ++ more)) ≡ take o places ++ x
written o k places x more within long =
    ap (λ l. take (o + k) l) (sym (append_assoc (take o places) x more))
    ∙ take_at (take o places ++ x) more (o + k)
    (omega (arith, length-append (take o places) x, length-take-le o places within, long))

module _ (o : ℕ) (bytes marks : List ℕ) (same : length bytes ≡ length marks)
    (within : o ≤ length bytes) where
  alike : length (take o bytes) ≡ length (take o marks)
  alike = omega (
    arith,
    same,
    within,
    length-take-le o bytes within,
    length-take-le o marks (omega (arith, same, within)),
  )

  -- If bytes are written with marks of 1, these bytes are the ticks there.
  pub bytes-come : (x ones more less : List ℕ) → ones ≡ replicate (length x) 1
      → take (o + length x) (marked_ticks (take o bytes ++ (x ++ more))
      (take o marks ++ (ones ++ less)))
      ≡ take o (marked_ticks bytes marks) ++ map (λ b. Byte b) x
  bytes-come x ones more less are =
      let long : length ones ≡ length x = ap length are ∙ length-replicate (length x) 1 in
      let inside : o ≤ length marks = omega (arith, same, within) in
      ticks-take (o + length x) (take o bytes ++ (x ++ more)) (take o marks ++ (ones ++ less))
      ∙ ap (λ l. marked_ticks l (take (o + length x) (take o marks ++ (ones ++ less))))
      (written o (length x) bytes x more within refl)
      ∙ ap (λ l. marked_ticks (take o bytes ++ x) l)
      (written o (length x) marks ones less inside long)
      ∙ ticks-append (take o bytes) x (take o marks) ones alike
      ∙ ap (λ l. l ++ marked_ticks x ones) (sym (ticks-take o bytes marks))
      ∙ ap (λ l. take o (marked_ticks bytes marks) ++ marked_ticks x l) are
      ∙ ap (λ l. take o (marked_ticks bytes marks) ++ l) (ticks-bytes x)

  -- If marks of 0 are written, silent ticks are there.
  pub silence-comes : (k : ℕ) (zeros less : List ℕ) → zeros ≡ replicate k 0
      → o + k ≤ length bytes
      → take (o + k) (marked_ticks bytes (take o marks ++ (zeros ++ less)))
      ≡ take o (marked_ticks bytes marks) ++ silent k
  silence-comes k zeros less are room =
      let x : List ℕ = take k (drop o bytes) in
      let left = length-drop o bytes in
      let size : length x ≡ k = length-take-le k (drop o bytes) (omega (arith, left, room)) in
      let long : length zeros ≡ k = ap length are ∙ length-replicate k 0 in
      let inside : o ≤ length marks = omega (arith, same, within) in
      ticks-take (o + k) bytes (take o marks ++ (zeros ++ less))
      ∙ ap (λ l. marked_ticks l (take (o + k) (take o marks ++ (zeros ++ less))))
      (take-some o k bytes)
      ∙ ap (λ l. marked_ticks (take o bytes ++ x) l) (written o k marks zeros less inside long)
      ∙ ticks-append (take o bytes) x (take o marks) zeros alike
      ∙ ap (λ l. l ++ marked_ticks x zeros) (sym (ticks-take o bytes marks))
      ∙ ap (λ l. take o (marked_ticks bytes marks) ++ marked_ticks x l) are
      ∙ ap (λ n. take o (marked_ticks bytes marks) ++ marked_ticks x (replicate n 0)) (sym size)
      ∙ ap (λ l. take o (marked_ticks bytes marks) ++ l) (ticks-silent x ∙ ap silent size)

-- a tick that is written
pub tick-set : (bytes marks : List ℕ) (at b m : ℕ) → length bytes ≡ length marks
    → at < length bytes
    → marked_ticks (slice_set bytes at b) (slice_set marks at m)
    ≡ slice_set (marked_ticks bytes marks) at (marked b m)
tick-set [] marks at b m same within = absurd (omega (arith, within))
tick-set (x ∷ bytes) [] at b m same within = absurd (omega (arith, same))
tick-set (x ∷ bytes) (k ∷ marks) zero b m same within = refl
tick-set (x ∷ bytes) (k ∷ marks) (suc at) b m same within =
    ap (λ l. marked x k ∷ l)
    (tick-set bytes marks at b m (omega (arith, same)) (omega (arith, within)))

-- A byte that has its mark is written, and the mark stays.
pub byte-set : (bytes marks : List ℕ) (at b : ℕ) → length bytes ≡ length marks
    → at < length bytes
    → marked_ticks (slice_set bytes at b) marks
    ≡ slice_set (marked_ticks bytes marks) at (marked b (slice_index_or marks at 0))
byte-set [] marks at b same within = absurd (omega (arith, within))
byte-set (x ∷ bytes) [] at b same within = absurd (omega (arith, same))
byte-set (x ∷ bytes) (k ∷ marks) zero b same within = refl
byte-set (x ∷ bytes) (k ∷ marks) (suc at) b same within =
    ap (λ l. marked x k ∷ l)
    (byte-set bytes marks at b (omega (arith, same)) (omega (arith, within)))

module _ (len : ℕ) (bytes marks : List ℕ) (byte_room : length bytes ≡ 640)
    (mark_room : length marks ≡ 640) where
  same : length bytes ≡ length marks
  same = byte_room ∙ sym mark_room

  -- a whole period
  pub whole : len ≡ 640 → take len (marked_ticks bytes marks) ≡ marked_ticks bytes marks
  whole all = take_all len (marked_ticks bytes marks)
      (omega (arith, ticks-length bytes marks same, byte_room, all))

  -- the ticks from a place on
  pub from-place : (at : ℕ) → at ≤ len
      → drop at (take len (marked_ticks bytes marks))
      ≡ take (len - at) (drop at (marked_ticks bytes marks))
  from-place at within =
      let sum : len ≡ at + (len - at) = omega (arith, within) in
      ap (λ n. drop at (take n (marked_ticks bytes marks))) sum
      ∙ drop-take at (len - at) (marked_ticks bytes marks)

pub repeated : (len : ℕ) (bytes marks : List ℕ) → length bytes ≡ 640 → length marks ≡ 640
    → len ≡ 640
    → take len (marked_ticks (take 320 bytes ++ take 320 bytes) (take 320 marks ++ take 320 marks))
    ≡ take 320 (take len (marked_ticks bytes marks))
    ++ take 320 (take len (marked_ticks bytes marks))
repeated len bytes marks byte_room mark_room all =
    let b = take 320 bytes in
    let m = take 320 marks in
    let long_b = length-take-le 320 bytes (omega (arith, byte_room)) in
    let long_m = length-take-le 320 marks (omega (arith, mark_room)) in
    let joined = ticks-append b b m m (long_b ∙ sym long_m) in
    let half : marked_ticks b m ≡ take 320 (take len (marked_ticks bytes marks)) =
    sym (ap (take 320) (whole len bytes marks byte_room mark_room all)
    ∙ ticks-take 320 bytes marks) in
    let long = ticks-length b m (long_b ∙ sym long_m) in
    take_all len (marked_ticks (b ++ b) (m ++ m)) (omega (
      arith,
      ap length joined,
      length-append (marked_ticks b m) (marked_ticks b m),
      long,
      long_b,
      all,
    ))
    ∙ joined
    ∙ ap (λ l. l ++ l) half

-- a mark in a part of the marks
pub mark-at : (n o k : ℕ) (marks : List ℕ) → k < n
    → slice_index_or (take n (drop o marks)) k 0 ≡ slice_index_or marks (o + k) 0
mark-at n o k marks few = get_or-take n (drop o marks) k 0 few ∙ get_or-drop o marks k 0

module _ (len : ℕ) (bytes marks : List ℕ) (byte_room : length bytes ≡ 640)
    (mark_room : length marks ≡ 640) (all : len ≡ 640) (place value : ℕ) (within : place < 640)
  where
    abbrev T : List Tick
    T = marked_ticks bytes marks

    -- what the altered ticks are, by the tick at the place
    altered-as : (new : List Tick) (t : Tick) → slice_index_or T place Silent ≡ t
        → new ≡ slice_set T place (changed value t)
        → new ≡ slice_set (take len T) place
        (changed value (slice_index_or (take len T) place Silent))
    altered-as new t at is =
        is ∙ ap (λ x. slice_set T place (changed value x)) (sym at)
        ∙ ap (λ l. slice_set l place (changed value (slice_index_or l place Silent)))
        (sym (whole len bytes marks byte_room mark_room all))

    found : slice_index_or T place Silent
        ≡ marked (slice_index_or bytes place 0) (slice_index_or marks place 0)
    found = ticks-at bytes marks place (omega (arith, byte_room, within))
        (omega (arith, mark_room, within))

    -- A silent tick becomes a byte.
    pub silence-changed : slice_index_or marks place 0 ≡ 0
        → take len (marked_ticks (slice_set bytes place value) (slice_set marks place 1))
        ≡ slice_set (take len T) place (changed value (slice_index_or (take len T) place Silent))
    silence-changed none =
        altered-as (take len (marked_ticks (slice_set bytes place value) (slice_set marks place 1)))
        Silent
        (found ∙ marked-silent (slice_index_or bytes place 0) (slice_index_or marks place 0) none)
        (whole len (slice_set bytes place value) (slice_set marks place 1)
        (length-set bytes place value ∙ byte_room) (length-set marks place 1 ∙ mark_room) all
        ∙ tick-set bytes marks place value 1 (byte_room ∙ sym mark_room)
        (omega (arith, byte_room, within)))

    -- Bits of a byte are turned.
    pub byte-changed : (slice_index_or marks place 0 ≡ 0 → ⊥)
        → take len (marked_ticks
        (slice_set bytes place (bit_xor (slice_index_or bytes place 0) value)) marks)
        ≡ slice_set (take len T) place (changed value (slice_index_or (take len T) place Silent))
    byte-changed some =
        let b = slice_index_or bytes place 0 in
        let b' = bit_xor b value in
        altered-as (take len (marked_ticks (slice_set bytes place b') marks)) (Byte b)
        (found ∙ marked-byte b (slice_index_or marks place 0) some)
        (whole len (slice_set bytes place b') marks
        (length-set bytes place b' ∙ byte_room) mark_room
        all
        ∙ byte-set bytes marks place b' (byte_room ∙ sym mark_room)
        (omega (arith, byte_room, within))
        ∙ ap (λ t. slice_set T place t) (marked-byte b' (slice_index_or marks place 0) some))
