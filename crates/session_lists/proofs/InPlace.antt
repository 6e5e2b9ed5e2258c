-- A frame at the place of its number, and as a list keeps it there.
use Rattle.{link_format.specs.NumberedFrame.NumberedFrame, session_lists.specs.FrameBox.kept_frames}
use Rattle.session_lists.specs.{FrameBox.kept_numbered, Places.place_in_lists, Places.stands_at_its_number}
use Rattle.std.proofs.Common.{◌≡◌, ◌∙◌, ℕ, ◌+◌, ◌<◌, ◌≤◌, ◌&&◌, Bool, false, List}
use Rattle.std.proofs.Common.{length, get_or, bytes_eq, nat_lt, ap, arith}
use Rattle.std.proofs.lemmas.{Bool.lt-ltb, Bool.le-ltb, List.get_or-map}

pub kept-at : (frames : List NumberedFrame) (d : NumberedFrame) (i : ℕ) → i < length frames
    → (get_or (kept_frames frames) i (kept_numbered d)).frame ≡ (get_or frames i d).frame
kept-at frames d i within =
    ap (λ k. k.frame) (get_or-map kept_numbered frames i d (kept_numbered d) within)

-- ---- whether a frame is at the place of its number

module _ (floor : ℕ) (frames : List NumberedFrame) (f : NumberedFrame) where
  abbrev same : ℕ → Bool
  same i = bytes_eq (get_or frames i f).frame f.frame

  pub is-below : f.number ≤ floor → stands_at_its_number floor frames f ≡ false
  is-below below = ap (λ b. b && nat_lt (place_in_lists floor f.number) (length frames)
      && same (place_in_lists floor f.number)) (le-ltb floor f.number below)

  module _ (above : floor < f.number) where
    by-place : stands_at_its_number floor frames f
        ≡ (nat_lt (place_in_lists floor f.number) (length frames) && same (place_in_lists floor f.number))
    by-place = ap (λ b. b && nat_lt (place_in_lists floor f.number) (length frames)
        && same (place_in_lists floor f.number)) (lt-ltb floor f.number above)

    past-place : length frames ≤ place_in_lists floor f.number
        → stands_at_its_number floor frames f ≡ false
    past-place past = by-place ∙ ap (λ b. b && same (place_in_lists floor f.number))
        (le-ltb (place_in_lists floor f.number) (length frames) past)

    at-place : place_in_lists floor f.number < length frames
        → stands_at_its_number floor frames f ≡ same (place_in_lists floor f.number)
    at-place within = by-place ∙ ap (λ b. b && same (place_in_lists floor f.number))
        (lt-ltb (place_in_lists floor f.number) (length frames) within)

  pub is-past : floor + length frames < f.number → stands_at_its_number floor frames f ≡ false
  is-past past = past-place (omega (arith, past)) (omega (arith, past))

  pub is-there : (i : ℕ) → f.number ≡ floor + i + 1 → i < length frames
      → stands_at_its_number floor frames f ≡ bytes_eq (get_or frames i f).frame f.frame
  is-there i is within =
      let place : place_in_lists floor f.number ≡ i = omega (arith, is) in
      at-place (omega (arith, is)) (omega (arith, place, within))
      ∙ ap same place
