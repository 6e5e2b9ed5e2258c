-- How a device hunts for frames, if two bytes mark that a header begins. It looks only at the bytes
-- of a line, as if there were no silence between them. That two bytes mark the start is from IEEE
-- 1815; that bytes which were taken are never searched again is this project's choice.
use Rattle.std.specs.Prelude.{ℕ, zero, suc, ◌-◌, nat_le, ◌==◌, ◌&&◌, Bool, false, List, [], ◌∷◌}
use Rattle.std.specs.Prelude.{◌++◌, length, map, take, if◌then◌else◌}
use Rattle.std.specs.List.{flat_map}
use Rattle.yasir_ticks.specs.Bursts.{bursts_from}
use Rattle.line_rules.specs.Rules.{Rules, head_of}
use Rattle.line_rules.specs.declared.head.Head.{Head}
use Rattle.line_rules.specs.declared.head.Head.TheVariants.{Short, Good, Bad}
use Rattle.yasir_ticks.specs.declared.tick.Tick.{Tick}
use Rattle.yasir_ticks.specs.declared.tick.Tick.TheVariants.{Silent, Byte}
use Rattle.device_model.specs.Frames.{FrameRead}

-- a byte, and its tick
pub record Timed : Type 0 where
  pub tick : ℕ
  pub byte : ℕ

-- the bytes without their ticks
abbrev pub timed_bytes : List Timed → List ℕ
timed_bytes x = map (λ t. t.byte) x

-- the bytes of some ticks, the first of which is tick `n` of the line
abbrev pub timed : ℕ → List Tick → List Timed
timed n [] = []
timed n (Silent ∷ l) = timed (suc n) l
timed n (Byte b ∷ l) = record { tick = n; byte = b } ∷ timed (suc n) l

-- the first bytes, as many as a header has
abbrev pub header_hunted : Rules → List ℕ → List ℕ
header_hunted rules x = take rules.header_len x

-- how many bytes are taken if a header begins here: as many as it says if it is good, and otherwise
-- only the header
abbrev pub taken_by : Rules → Head → List ℕ → ℕ
taken_by rules Good x = rules.size (header_hunted rules x)
taken_by rules Short x = rules.header_len
taken_by rules Bad x = rules.header_len

-- the frame that the first `n` bytes are, if they are there and are one
abbrev pub frame_hunted : Rules → ℕ → ℕ → List ℕ → List FrameRead
frame_hunted rules start n x =
    if nat_le n (length x) && rules.is_frame (take n x)
    then record { start = start; frame = take n x } ∷ []
    else []

-- what is read from these bytes, if a header begins here
abbrev pub found_by : Rules → Head → ℕ → List ℕ → List FrameRead
found_by rules Good start x = frame_hunted rules start (rules.size (header_hunted rules x)) x
found_by rules Short start x = []
found_by rules Bad start x = []

-- whether a header begins here, with these two bytes
abbrev pub begins : ℕ → ℕ → List ℕ → Bool
begins first second [] = false
begins first second (a ∷ []) = false
begins first second (a ∷ b ∷ x) = a == first && b == second

-- The hunt, by the two bytes with which a header begins, and the rules.
module _ (first second : ℕ) (rules : Rules) where
  -- how many of these bytes are taken: one if no header begins here
  abbrev pub bytes_taken : List ℕ → ℕ
  bytes_taken x = if begins first second x then taken_by rules (head_of rules x) x else 1

  -- the frame that is read from the bytes that are taken, the first of which came at tick `start`
  abbrev pub found : ℕ → List ℕ → List FrameRead
  found start x =
      if begins first second x then found_by rules (head_of rules x) start x else []

  -- how many of these bytes are passed over after the first one
  abbrev pub passed_over : List ℕ → ℕ
  passed_over x = bytes_taken x - 1

  -- The frames that are read from these bytes, of which the first `k` are still passed over.
  unfoldable pub hunt : ℕ → List Timed → List FrameRead
  hunt k [] = []
  hunt (suc k) (t ∷ x) = hunt k x
  hunt zero (t ∷ x) =
      found t.tick (timed_bytes (t ∷ x)) ++ hunt (passed_over (timed_bytes (t ∷ x))) x

  -- the frames that are read from a line
  abbrev pub hunt_line : List Tick → List FrameRead
  hunt_line line = hunt 0 (timed 0 line)

  -- The frames that are read from some ticks, the first of which is tick `n` of the line, if `cut`
  -- silent ticks together end what was taken, and the hunt begins anew after them.
  abbrev pub hunt_anew : ℕ → ℕ → List Tick → List FrameRead
  hunt_anew cut n line = flat_map (λ d. hunt 0 (timed d.start d.body)) (bursts_from cut n line)
