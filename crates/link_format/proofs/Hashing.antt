-- How a hasher takes a message as it grows, and how it ends the message.
use Rattle.std.proofs.Common.{◌≡◌, ℕ, ◌+◌, ◌-◌, ◌*◌, ◌%◌, ◌^◌, ◌<◌, ◌≤◌, List, [], ◌∷◌, ◌++◌}
use Rattle.std.proofs.Common.{length, take, drop, replicate, refl, sym, ap, ap₂, ◌∙◌, arith, set}
use Rattle.std.proofs.Common.{length-append, length-drop}
use Rattle.std.proofs.lemmas.List.{append_assoc, append-nil, take-append-drop, take_all, drop_all}
use Rattle.std.proofs.lemmas.List.{drop-replicate, set_at, take-replicate, length-replicate}
use Rattle.std.proofs.lemmas.List.{replicate-append-replicate, take-take, drop-take}
use lib.Seq.{take-append-add}
use Rattle.std.{proofs.lemmas.Slice.take-put_mid, specs.Int.w64, specs.Int.to_be_bytes}
use borrow.Rule.Slice.PartMut.{put_mid, post_of}
use Rattle.link_format.specs.Hashing.{HasBegun, HasTaken}
use Rattle.link_format.specs.declared.block_hasher.{BlockHasher.BlockHasher}
use Rattle.sha2.specs.Sha256.{padded_message}

module _ {V : Type 0} (IsAfter : V → List ℕ → Type 0) where
  -- an equal block after the same blocks
  pub after_block : (value : V) (blocks x y : List ℕ) → x ≡ y → IsAfter value (blocks ++ x)
      → IsAfter value (blocks ++ y)
  after_block value blocks x y e held = rw (← e) held

  -- more bytes are taken, for which there is room
  pub taken_more : (s n : BlockHasher V) (m d ys : List ℕ) (k j : ℕ) → HasTaken IsAfter s m
      → length s.room ≡ 128 → k ≡ s.waiting → k + length d ≤ 128 → j ≡ length d → ys ≡ d
      → n.waiting ≡ k + length d → n.start ≡ s.start → n.room ≡ put_mid k j s.room ys
      → HasTaken IsAfter n (m ++ d)
  taken_more s n m d ys k j held len at fits size same waiting start room =
      let placed : take (k + length d) n.room ≡ take k s.room ++ d =
      rw (room, same) (take-put_mid k j s.room d (k + length d) refl (omega arith)) in
      let before : m ≡ held.front ++ take k s.room = rw (← at) at held.waits in
      record {
        front = held.front;
        begun = rw start held.begun;
        within = omega arith;
        waits =
            rw (waiting, placed) (ap (λ z. z ++ d) before
            ∙ append_assoc held.front (take k s.room) d);
      }

  -- the two blocks that waited are hashed
  pub taken_hashed : (s n : BlockHasher V) (m : List ℕ) (held : HasTaken IsAfter s m)
      → length s.room ≡ 128 → s.waiting ≡ 128 → n.waiting ≡ 0
      → HasBegun IsAfter n.start
      ((held.front ++ take 64 s.room) ++ take 64 (drop 64 s.room)) → HasTaken IsAfter n m
  taken_hashed s n m held len full waiting begun =
      let front : take 64 s.room ++ drop 64 s.room ≡ s.room = take-append-drop 64 s.room in
      let back : take 64 (drop 64 s.room) ≡ drop 64 s.room =
      take_all 64 (drop 64 s.room) (omega (arith, length-drop 64 s.room)) in
      let all : take s.waiting s.room ≡ s.room = take_all s.waiting s.room (omega arith) in
      let whole : (held.front ++ take 64 s.room) ++ take 64 (drop 64 s.room) ≡ m =
      append_assoc held.front (take 64 s.room) (take 64 (drop 64 s.room))
      ∙ ap (λ z. held.front ++ (take 64 s.room ++ z)) back ∙ ap (λ z. held.front ++ z) front
      ∙ ap (λ z. held.front ++ z) (sym all) ∙ sym held.waits in
      record {
        front = m;
        begun = rw whole at begun;
        within = omega arith;
        waits = rw waiting (sym (append-nil m));
      }

  -- if nothing waits, whole blocks that are hashed are all that is taken
  pub taken_begun : (s : BlockHasher V) (m : List ℕ) → HasBegun IsAfter s.start m → s.waiting ≡ 0
      → HasTaken IsAfter s m
  taken_begun s m begun waiting = record {
    front = m;
    begun = begun;
    within = omega arith;
    waits = rw waiting (sym (append-nil m));
  }

  -- one more block, if nothing waits
  pub taken_block : (s n : BlockHasher V) (m x : List ℕ) → HasTaken IsAfter s m → s.waiting ≡ 0
      → ((blocks : List ℕ) → HasBegun IsAfter s.start blocks
      → HasBegun IsAfter n.start (blocks ++ x))
      → n.waiting ≡ 0 → HasTaken IsAfter n (m ++ x)
  taken_block s n m x held none more waiting =
      let before : m ≡ held.front = (rw none at held.waits) ∙ append-nil held.front in
      taken_begun n (m ++ x) (rw (← before) at (more held.front held.begun)) waiting

-- the last bytes of a message, and the byte 0x80 after them
laid : (t : List ℕ) (k : ℕ) → k ≡ length t → k < 64
    → set (t ++ drop k (replicate 64 0)) k 0x80 ≡ t ++ (0x80 ∷ replicate (63 - k) 0)
laid t k size short =
    let more : 64 - k ≡ 1 + (63 - k) = omega arith in
    let zeros : drop k (replicate 64 0) ≡ 0 ∷ replicate (63 - k) 0 =
    drop-replicate k 64 0 ∙ ap (λ i. replicate i 0) more
    ∙ sym (replicate-append-replicate 1 (63 - k) 0) in
    ap (λ z. set (t ++ z) k 0x80) zeros ∙ set_at t 0 (replicate (63 - k) 0) 0x80 k (sym size)

-- whole blocks, and one more in which these bytes are laid out
pub laid_whole : (m t ys : List ℕ) → length m % 64 ≡ 0 → ys ≡ t → length t < 64
    → length (m ++ set (ys ++ drop (length t) (replicate 64 0)) (length t) 0x80) % 64 ≡ 0
laid_whole m t ys whole same short =
    let k : ℕ = length t in
    let last : List ℕ = 0x80 ∷ replicate (63 - k) 0 in
    let size : length (set (ys ++ drop k (replicate 64 0)) k 0x80) ≡ length (t ++ last) =
    rw same (ap length (laid t k refl short)) in
    omega (
      arith,
      size,
      length-append t last,
      length-replicate {A = ℕ} (63 - k) 0,
      length-append m (set (ys ++ drop k (replicate 64 0)) k 0x80),
    )

-- a message with its padding, which ends with these bytes for its length
abbrev ended_with : List ℕ → List ℕ → List ℕ
ended_with message bits =
    message ++ (0x80 ∷ (replicate ((119 - length message % 64) % 64) 0 ++ bits))

-- the bytes of the length, for a message of whole blocks and some bytes after them
with_length : (m t bits : List ℕ) (hashed : ℕ) → hashed ≡ length m % 2 ^ 64
    → bits ≡ to_be_bytes w64 ((hashed + length t) % 2 ^ 64 * 8 % 2 ^ 64)
    → ended_with (m ++ t) bits ≡ padded_message (m ++ t)
with_length m t bits hashed count e =
    let size : (hashed + length t) % 2 ^ 64 * 8 % 2 ^ 64 ≡ length (m ++ t) * 8 % 2 ^ 64 =
    omega (arith, length-append m t) in
    ap (ended_with (m ++ t)) (e ∙ ap (to_be_bytes w64) size)

-- a message whose length fits into its last block
ended_short : (m t bits : List ℕ) (k : ℕ) → length m % 64 ≡ 0 → k ≡ length t → k < 56
    → m ++ (take 56 (set (t ++ drop k (replicate 64 0)) k 0x80) ++ bits) ≡ ended_with (m ++ t) bits
ended_short m t bits k whole at short =
    let size : length (m ++ t) ≡ length m + k =
    length-append m t ∙ ap (λ (i : ℕ). length m + i) (sym at) in
    let fill : (119 - length (m ++ t) % 64) % 64 ≡ 55 - k = omega arith in
    let tail : take (56 - k) (0x80 ∷ replicate (63 - k) 0) ≡ 0x80 ∷ replicate (55 - k) 0 =
    let more : 56 - k ≡ 1 + (55 - k) = omega arith in
    ap (λ i. take i (0x80 ∷ replicate (63 - k) 0)) more
    ∙ take-append-add (0x80 ∷ []) (replicate (63 - k) 0) (55 - k)
    ∙ ap (λ z. 0x80 ∷ z) (take-replicate (55 - k) (63 - k) 0 (omega arith)) in
    let sum : 56 ≡ length t + (56 - k) = omega arith in
    let last : List ℕ = t ++ (0x80 ∷ (replicate (55 - k) 0 ++ bits)) in
    let block : take 56 (set (t ++ drop k (replicate 64 0)) k 0x80) ++ bits ≡ last =
    ap (λ b. take 56 b ++ bits) (laid t k at (omega arith))
    ∙ ap (λ i. take i (t ++ (0x80 ∷ replicate (63 - k) 0)) ++ bits) sum
    ∙ ap (λ z. z ++ bits) (take-append-add t (0x80 ∷ replicate (63 - k) 0) (56 - k)
    ∙ ap (λ z. t ++ z) tail)
    ∙ append_assoc t (0x80 ∷ replicate (55 - k) 0) bits in
    let joined : ended_with (m ++ t) bits ≡ m ++ last =
    ap (λ i. (m ++ t) ++ (0x80 ∷ (replicate i 0 ++ bits))) fill
    ∙ append_assoc m t (0x80 ∷ (replicate (55 - k) 0 ++ bits)) in
    ap (λ z. m ++ z) block ∙ sym joined

-- a message whose length needs one more block
ended_long : (m t bits : List ℕ) (k : ℕ) → length m % 64 ≡ 0 → k ≡ length t → 56 ≤ k → k < 64
    → (m ++ set (t ++ drop k (replicate 64 0)) k 0x80) ++ (take 56 (replicate 64 0) ++ bits)
    ≡ ended_with (m ++ t) bits
ended_long m t bits k whole at long within =
    let size : length (m ++ t) ≡ length m + k =
    length-append m t ∙ ap (λ (i : ℕ). length m + i) (sym at) in
    let fill : (119 - length (m ++ t) % 64) % 64 ≡ 63 - k + 56 = omega arith in
    let first : List ℕ = t ++ (0x80 ∷ replicate (63 - k) 0) in
    let second : List ℕ = replicate 56 0 ++ bits in
    let zeros : take 56 (replicate 64 0) ++ bits ≡ second =
    ap (λ z. z ++ bits) (take-replicate {X = ℕ} 56 64 0 (omega arith)) in
    let joined : ended_with (m ++ t) bits ≡ (m ++ first) ++ second =
    ap (λ i. (m ++ t) ++ (0x80 ∷ (replicate i 0 ++ bits))) fill
    ∙ ap (λ z. (m ++ t) ++ (0x80 ∷ (z ++ bits))) (sym (replicate-append-replicate (63 - k) 56 0))
    ∙ ap (λ z. (m ++ t) ++ (0x80 ∷ z)) (append_assoc (replicate (63 - k) 0) (replicate 56 0) bits)
    ∙ append_assoc m t ((0x80 ∷ replicate (63 - k) 0) ++ second)
    ∙ ap (λ z. m ++ z) (sym (append_assoc t (0x80 ∷ replicate (63 - k) 0) second))
    ∙ sym (append_assoc m first second) in
    ap₂ (λ x y. (m ++ x) ++ y) (laid t k at within) zeros ∙ sym joined

-- a whole message, by its last block
pub ended_block_short : (m t bits ys : List ℕ) (hashed : ℕ) → length m % 64 ≡ 0
    → hashed ≡ length m % 2 ^ 64 → ys ≡ t → length t < 56
    → bits ≡ to_be_bytes w64 ((hashed + length t) % 2 ^ 64 * 8 % 2 ^ 64)
    → m ++ (take 56 (set (ys ++ drop (length t) (replicate 64 0)) (length t) 0x80) ++ bits)
    ≡ padded_message (m ++ t)
ended_block_short m t bits ys hashed whole count same short bytes =
    rw same (ended_short m t bits (length t) whole refl short
    ∙ with_length m t bits hashed count bytes)

-- a whole message, by its last two blocks
pub ended_block_long : (m t bits ys : List ℕ) (hashed : ℕ) → length m % 64 ≡ 0
    → hashed ≡ length m % 2 ^ 64 → ys ≡ t → 56 ≤ length t → length t < 64
    → bits ≡ to_be_bytes w64 ((hashed + length t) % 2 ^ 64 * 8 % 2 ^ 64)
    → (m ++ set (ys ++ drop (length t) (replicate 64 0)) (length t) 0x80)
    ++ (take 56 (replicate 64 0) ++ bits)
    ≡ padded_message (m ++ t)
ended_block_long m t bits ys hashed whole count same long within bytes =
    rw same (ended_long m t bits (length t) whole refl long within
    ∙ with_length m t bits hashed count bytes)

-- the last block, which ends with the bytes of the length
pub last_block : (block bits ys : List ℕ) (j : ℕ) → length block ≡ 64 → j ≡ 8 → ys ≡ bits
    → put_mid 56 j block ys ≡ take 56 block ++ bits
last_block block bits ys j len size same =
    let none : post_of 56 j block ≡ [] =
    drop_all j (drop 56 block) (omega (arith, length-drop 56 block)) in
    rw (none, append-nil, same) refl

-- the next piece of a part of the message, from `start` to `end`
pub piece_on : (m part : List ℕ) (start end : ℕ) → start ≤ end → end ≤ length part
    → (m ++ take start part) ++ take (end - start) (drop start part) ≡ m ++ take end part
piece_on m part start end le within =
    let size : end ≡ start + (end - start) = omega arith in
    let front : take start (take end part) ≡ take start part = take-take start end part le in
    let back : drop start (take end part) ≡ take (end - start) (drop start part) =
    ap (λ i. drop start (take i part)) size ∙ drop-take start (end - start) part in
    append_assoc m (take start part) (take (end - start) (drop start part))
    ∙ ap (λ z. m ++ z) (ap₂ (λ x y. x ++ y) (sym front) (sym back)
    ∙ take-append-drop start (take end part))
