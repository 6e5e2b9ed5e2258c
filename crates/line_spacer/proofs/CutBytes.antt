-- Frames that wait as bytes, one after the other, with their lengths: one frame more, and one less.
use Rattle.std.proofs.Common.{◌≡◌, ◌∙◌, ℕ, suc, ◌+◌, ◌*◌, ◌<◌, ◌≤◌, List, [], ◌∷◌, ◌++◌, length}
use Rattle.std.proofs.Common.{take, drop, refl, sym, ap, subst, arith, length-drop}
use Rattle.std.proofs.Common.{length-append, ◌-◌, min}
use Rattle.circular_buffer.specs.Buffer.{keep_last}
use Rattle.std.proofs.lemmas.List.{take_all, drop_all, take-append-le, drop-append-le, length-take-le}
use Rattle.line_spacer.specs.FrameQueue.{cut_by, AreCut, AreFrames, bytes_of}

-- there are as many frames as lengths
pub count-cut : (lengths bytes : List ℕ) → length (cut_by lengths bytes) ≡ length lengths
count-cut [] bytes = refl
count-cut (n ∷ lengths) bytes = ap suc (count-cut lengths (drop n bytes))

-- The frames have all of the bytes.
pub cut-bytes : (lengths bytes : List ℕ) → AreCut lengths bytes
    → bytes_of (cut_by lengths bytes) ≡ length bytes
cut-bytes [] bytes are = sym (ap length are)
cut-bytes (n ∷ lengths) bytes are =
    let within : n ≤ length bytes = are.1 in
    let more = cut-bytes lengths (drop n bytes) are.2 in
    let front : length (take n bytes) ≡ n = length-take-le n bytes within in
    let pause = length-drop n bytes in
    omega arith

few-bytes : (lengths bytes : List ℕ) → AreCut lengths bytes → length bytes ≤ length lengths * 292
few-bytes [] bytes are = let none = ap length are in omega arith
few-bytes (n ∷ lengths) bytes are =
    let longest : n ≤ 292 = are.0 in
    let within : n ≤ length bytes = are.1 in
    let more = few-bytes lengths (drop n bytes) are.2 in
    let long = length-drop n bytes in
    omega arith

-- If fewer frames wait than may, there is room for the bytes of a longest one.
pub room-left : (capacity room : ℕ) (lengths bytes : List ℕ)
    → AreFrames capacity room lengths bytes → length lengths < capacity
    → length bytes + 292 ≤ room
room-left capacity room lengths bytes frames few =
    let fits : room ≡ capacity * 292 = frames.fits in
    let all = few-bytes lengths bytes frames.are in
    omega arith

-- A frame is added after the others.
pub cut-more : (lengths bytes frame : List ℕ) → AreCut lengths bytes
    → cut_by (lengths ++ length frame ∷ []) (bytes ++ frame) ≡ cut_by lengths bytes ++ frame ∷ []
cut-more [] bytes frame are =
    ap (λ x. take (length frame) (x ++ frame) ∷ []) are
    ∙ ap (λ x. x ∷ []) (take_all (length frame) frame (omega arith))
cut-more (n ∷ lengths) bytes frame are =
    ap (λ x. x ∷ cut_by (lengths ++ length frame ∷ []) (drop n (bytes ++ frame)))
    (take-append-le n bytes frame are.1)
    ∙ (ap (λ x. take n bytes ∷ cut_by (lengths ++ length frame ∷ []) x)
    (drop-append-le n bytes frame are.1)
    ∙ ap (λ x. take n bytes ∷ x) (cut-more lengths (drop n bytes) frame are.2))

are-more : (lengths bytes frame : List ℕ) → AreCut lengths bytes → length frame ≤ 292
    → AreCut (lengths ++ length frame ∷ []) (bytes ++ frame)
are-more [] bytes frame are few =
    let none = ap length are in (
      few,
      subst (λ x. length frame ≤ length (x ++ frame)) (sym are) (omega arith),
      ap (λ x. drop (length frame) (x ++ frame)) are
          ∙ drop_all (length frame) frame (omega arith),
    )
are-more (n ∷ lengths) bytes frame are few =
    let within : n ≤ length bytes = are.1 in
    let long = length-append bytes frame in (
      are.0,
      omega arith,
      subst (λ x. AreCut (lengths ++ length frame ∷ []) x)
          (sym (drop-append-le n bytes frame within))
          (are-more lengths (drop n bytes) frame are.2 few),
    )

pub frames-more : (capacity room : ℕ) (lengths bytes frame : List ℕ)
    → AreFrames capacity room lengths bytes → length frame ≤ 292
    → AreFrames capacity room (lengths ++ length frame ∷ []) (bytes ++ frame)
frames-more capacity room lengths bytes frame frames few = record {
  fits = frames.fits;
  are = are-more lengths bytes frame frames.are few;
}

-- All bytes of a new frame fit in.
pub filled : (capacity room : ℕ) (lengths bytes frame : List ℕ)
    → AreFrames capacity room lengths bytes → length lengths < capacity → length frame ≤ 292
    → (n : ℕ) → n ≡ min (length frame) (room - length bytes)
    → (n ≡ length frame) × (bytes ++ take n frame ≡ bytes ++ frame)
filled capacity room lengths bytes frame frames few longest n is =
    let unsent = room-left capacity room lengths bytes frames few in
    let all : n ≡ length frame = grind (arith, is) in
    (all, ap (λ x. bytes ++ x) (take_all n frame (omega arith)))

-- If fewer lengths are kept than may be, the new one displaces none.
pub kept : (capacity : ℕ) (lengths frame : List ℕ) → length lengths < capacity
    → (n : ℕ) → n ≡ length frame
    → keep_last capacity (lengths ++ n ∷ []) ≡ lengths ++ length frame ∷ []
kept capacity lengths frame few n all =
    let long = length-append lengths (n ∷ []) in
    let none : length (lengths ++ n ∷ []) - capacity ≡ 0 = omega arith in
    ap (λ k. drop k (lengths ++ n ∷ [])) none ∙ ap (λ k. lengths ++ k ∷ []) all
