-- The frames that were read and weren't sealed.
use Rattle.std.specs.Prelude.{ℕ, ◌+◌, List, [], ◌∷◌, Option, Some, None, bytes_eq}
use Rattle.std.specs.Prelude.{if◌then◌else◌}

-- the frames behind the first one with these bytes, if there is one
abbrev pub behind_frame : List ℕ → List (List ℕ) → Option (List (List ℕ))
behind_frame f [] = None
behind_frame f (g ∷ frames) = if bytes_eq g f then Some frames else behind_frame f frames

-- 1 if there is none
abbrev pub is_missing : Option (List (List ℕ)) → ℕ
is_missing None = 1
is_missing (Some rest) = 0

-- the frames that may still be read
abbrev pub still_unread : Option (List (List ℕ)) → List (List ℕ) → List (List ℕ)
still_unread None frames = frames
still_unread (Some rest) frames = rest

-- How many of the frames that were read weren't sealed. Each sealed frame may be read once, and
-- those that are read have the order in which they were sealed.
abbrev pub unsealed_reads : List (List ℕ) → List (List ℕ) → ℕ
unsealed_reads sealed_ones [] = 0
unsealed_reads sealed_ones (f ∷ reads) =
    is_missing (behind_frame f sealed_ones)
    + unsealed_reads (still_unread (behind_frame f sealed_ones) sealed_ones) reads
