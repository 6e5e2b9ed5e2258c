-- Lemmas on bytes that are read into a buffer, part by part.
use Rattle.std.proofs.Common.{◌≡◌, ℕ, ◌+◌, ◌-◌, ◌<◌, ◌≤◌, List, ◌++◌, Option, Result, Ok, Err, IfOk}
use Rattle.std.proofs.Common.{length, take, drop, replicate, slice_range, OnOk, sym, ap, ◌∙◌, subst}
use Rattle.std.proofs.Common.{arith, le_refl, drop_at, length-take-le}
use Rattle.std.proofs.{KnownBytes.Consumes-trans, lemmas.List.drop-replicate}
use Rattle.std.{proofs.lemmas.Slice.take-put_mid_below, specs.Io.KnownBytes.Consumes}
use Rattle.std.specs.{Io.KnownBytes.IsAtEnd, declared.io.Read.Ghosts as Read}
use Rattle.yasir_io.specs.{Disks.Elapses, SlotFiles.ReadsNext}
use borrow.Rule.Slice.PartMut.{put_mid, post_of}
use lib.Seq.{take-add, take-append-le}

-- What holds of any value holds of that of a result that is `Ok`.
pub always_ok : {T E : Type 0} (P : T → Type 0) (r : Result T E) → ((x : T) → P x) → IfOk r P
always_ok P (Ok x) holds = holds x
always_ok P (Err e) holds = tt

take_split : (a b : ℕ) (old new : List ℕ) → a ≤ b → take a new ≡ take a old
    → take a old ++ slice_range new a b ≡ take b new
take_split a b old new within front =
    let same : a + (b - a) ≡ b = omega arith in
    ap (λ l. l ++ slice_range new a b) (sym front) ∙ sym (take-add a (b - a) new)
    ∙ ap (λ n. take n new) same

slice_range-put_mid : (a k n : ℕ) (xs ys : List ℕ) → a ≤ length xs → n ≤ length ys
    → slice_range (put_mid a k xs ys) a (a + n) ≡ take n ys
slice_range-put_mid a k n xs ys within fits =
    let same : (a + n) - a ≡ n = omega arith in
    let after = post_of a k xs in
    ap (take ((a + n) - a)) (drop_at (take a xs) (ys ++ after) a (length-take-le a xs within))
    ∙ ap (λ m. take m (ys ++ after)) same ∙ take-append-le n ys after fits

-- If the first bytes of a buffer were read, and n more are read after them, then the first len + n
-- were read.
pub read_more : (start before after : Option (List ℕ)) (len n : ℕ) (buf part : List ℕ)
    → len ≤ length buf → n ≤ length part
    → Consumes start before (take len buf) → Consumes before after (take n part)
    → Consumes start after (take (len + n) (put_mid len (length buf - len) buf part))
read_more start before after len n buf part within fits first more =
    let room = length buf - len in
    let there = slice_range-put_mid len room n buf part within fits in
    let joined = take_split len (len + n) buf (put_mid len room buf part) (omega arith)
    (take-put_mid_below _ _ _ _ _ (le_refl _) within) in
    subst (Consumes _ _) (ap (λ l. take len buf ++ l) (sym there) ∙ joined)
    (Consumes-trans start before after (take len buf) (take n part) first more)

-- What holds anyway also holds on `Ok`.
pub always_on_ok : {T E P : Type 0} (r : Result T E) → P → OnOk r P
always_on_ok (Ok x) p = p
always_on_ok (Err e) p = tt

-- For a disk that tells no image, no time goes by.
pub nothing_elapses : Elapses 0 0 (λ t c. ⊥) (λ t c. ⊥) (λ c. ⊥)
nothing_elapses = record {
  later = le_refl 0;
  nothing_else = λ t c le none. absurd none;
  keeps = λ t c le none. none;
}

-- If no more bytes are read, the first bytes of the buffer are still those that were read.
pub read_none : (start before after : Option (List ℕ)) (len n : ℕ) (buf part : List ℕ)
    → len ≤ length buf → n ≤ length part → n ≡ 0
    → Consumes start before (take len buf) → Consumes before after (take n part)
    → Consumes start after (take len (put_mid len (length buf - len) buf part))
read_none start before after len n buf part within fits none first more =
    let P : ℕ → Type 0 = λ k. Consumes start after
    (take k (put_mid len (length buf - len) buf part)) in
    let same : len + n ≡ len = omega arith in
    subst P same (read_more start before after len n buf part within fits first more)

-- Bytes that were read, and zeros after them if the file has ended, are the next ones of the file.
pub read_and_zeros : {F : Type 0} (read : Read F) (size : ℕ) (old new : F) (n : ℕ)
    (buf front : List ℕ) → length buf ≡ size
    → n ≤ length buf → Consumes (read.remaining old) (read.remaining new) (take n buf)
    → (n < length buf → IsAtEnd (read.remaining new)) → front ≡ take n buf
    → ReadsNext read size old new (front ++ drop n (replicate size 0))
read_and_zeros read size old new n buf front full within taken end is =
    let long : length front ≡ n = ap length is ∙ length-take-le n buf within in
    record {
      front = front;
      is = ap (λ l. front ++ l)
          (drop-replicate n size 0 ∙ ap (λ k. replicate (size - k) 0) (sym long));
      taken = subst (Consumes (read.remaining old) (read.remaining new)) (sym is) taken;
      end = λ less. end (omega arith);
    }
