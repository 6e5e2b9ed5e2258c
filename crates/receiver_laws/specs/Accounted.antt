-- How the frames that passed relate to those that were sealed.
use Rattle.std.specs.Prelude.{ℕ, ◌==◌, ◌&&◌, ◌||◌, Bool, false, not, List, [], ◌∷◌, map}
use Rattle.std.specs.Prelude.{bytes_eq}
use Rattle.std.specs.List.{filter}
use Rattle.sequence_journal.specs.Uptimes.{RiseFrom}
use Rattle.link_format.specs.NumberedFrame.{NumberedFrame, numbers_of}

-- a frame's number and bytes, wherever the frame is on a line
pub record Pair : Type 0 where
  pub number : ℕ
  pub frame : List ℕ

-- a frame without its place on the line
abbrev pub pair_of : NumberedFrame → Pair
pair_of f = record { number = f.number; frame = f.frame }

-- frames without their places on the line, in their order
abbrev pub pairs_of : List NumberedFrame → List Pair
pairs_of frames = map pair_of frames

-- whether two frames have the same number and bytes
abbrev pub is_same_pair : NumberedFrame → NumberedFrame → Bool
is_same_pair f g = f.number == g.number && bytes_eq f.frame g.frame

-- whether one of these frames has this one's number and bytes
abbrev pub is_among : List NumberedFrame → NumberedFrame → Bool
is_among [] f = false
is_among (g ∷ frames) f = is_same_pair g f || is_among frames f

-- of the frames that passed, those that were sealed with their numbers
abbrev pub rightly_passed : List NumberedFrame → List NumberedFrame → List NumberedFrame
rightly_passed sealed_ones passed_ones = filter (λ f. is_among sealed_ones f) passed_ones

-- of the frames that passed, those that weren't sealed with their numbers
abbrev pub forged : List NumberedFrame → List NumberedFrame → List NumberedFrame
forged sealed_ones passed_ones = filter (λ f. not (is_among sealed_ones f)) passed_ones

-- Holds if the first list is the second one with some elements left out, which may be none or all.
pub data IsSubsequence {X : Type 0} : List X → List X → Type 0 where
  none : IsSubsequence [] []
  skip : {x : List X} {a : X} {y : List X} → IsSubsequence x y → IsSubsequence x (a ∷ y)
  keep : {x : List X} {a : X} {y : List X} → IsSubsequence x y → IsSubsequence (a ∷ x) (a ∷ y)

-- Holds if the frames that passed are accounted for: those that aren't forged are, with their
-- numbers, a subsequence of the sealed ones. On both sides numbers rise from the floor, so no
-- number is sealed or passed twice, not even by a forged frame.
pub record IsAccountedFor (seal_floor check_floor : ℕ)
    (sealed_ones passed_ones : List NumberedFrame) : Type 0 where
  pub subsequence :
      IsSubsequence (pairs_of (rightly_passed sealed_ones passed_ones)) (pairs_of sealed_ones)
  pub sealed_rise : RiseFrom seal_floor (numbers_of sealed_ones)
  pub passed_rise : RiseFrom check_floor (numbers_of passed_ones)
