-- Bytes that are cut into parts, and the frame of a part.
use Rattle.std.specs.Prelude.{ℕ, ◌||◌, if◌then◌else◌, Bool, false, List, [], ◌∷◌, map}
use Rattle.device_model.specs.Frames.{FrameRead}
use Rattle.line_stamps.specs.Places.{PlacedByte}

module _ {A : Type 0} (test : A → A → Bool) where
  -- an element in front of these parts: it joins the first part, unless the test holds for it and
  -- the first element of that part
  abbrev pub join : A → List (List A) → List (List A)
  join x [] = (x ∷ []) ∷ []
  join x ([] ∷ more) = (x ∷ []) ∷ more
  join x ((y ∷ ys) ∷ more) =
      if test x y then (x ∷ []) ∷ (y ∷ ys) ∷ more else (x ∷ y ∷ ys) ∷ more

  -- a list, cut wherever the test holds for an element and the next one
  abbrev pub cut_where : List A → List (List A)
  cut_where [] = []
  cut_where (x ∷ xs) = join x (cut_where xs)

  -- whether the test holds for some element and the next one
  abbrev pub any_next : List A → Bool
  any_next [] = false
  any_next (x ∷ []) = false
  any_next (x ∷ y ∷ more) = test x y || any_next (y ∷ more)

-- the values of these bytes
abbrev pub bytes_of_cut : List PlacedByte → List ℕ
bytes_of_cut xs = map (λ x. x.byte) xs

-- the tick of the first of these bytes, or 0 if there are none
abbrev pub first_tick : List PlacedByte → ℕ
first_tick [] = 0
first_tick (x ∷ xs) = x.spot.tick

-- these bytes as a frame, with the tick of the first byte
abbrev pub frame_cut : List PlacedByte → FrameRead
frame_cut xs = record { start = first_tick xs; frame = bytes_of_cut xs }
