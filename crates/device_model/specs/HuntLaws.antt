-- What rules must say so that a device can hunt by them, and the hunt case by case.
use Rattle.std.specs.Prelude.{◌≡◌, ℕ, suc, ◌<◌, ◌≤◌, true, false, List, [], ◌∷◌, ◌++◌, length}
use Rattle.std.specs.Prelude.{take, drop, if◌then◌else◌}
use Rattle.line_rules.specs.Rules.{Rules}
use Rattle.device_model.specs.Frames.{FrameRead}
use Rattle.device_model.specs.Hunt.{Timed, timed_bytes, header_hunted, begins, hunt}

-- Holds if a good header begins with these two bytes, has more, and says the size of the frame, for
-- which there is exactly room. If the frame is only a header, that isn't good any more when its
-- last byte is spoiled. A device has room for each frame.
pub record IsHunted (first second : ℕ) (rules : Rules) : Type 0 where
  pub start_within : 2 < rules.header_len
  pub starts : (x : List ℕ) → rules.is_good_header x ≡ true → begins first second x ≡ true
  pub says_size : (x more : List ℕ) → length x ≡ rules.header_len
      → rules.is_good_header x ≡ true → rules.size (x ++ more) ≡ rules.size x
  pub says_room : (x more : List ℕ) → length x ≡ rules.header_len
      → rules.is_good_header x ≡ true → rules.room (x ++ more) ≡ rules.size x
  pub spoils : (h : List ℕ) (c : ℕ) → suc (length h) ≡ rules.header_len
      → rules.is_good_header (h ++ c ∷ []) ≡ true
      → rules.size (h ++ c ∷ []) ≡ rules.header_len
      → rules.is_good_header (h ++ rules.spoil h c ∷ []) ≡ false
  pub readable : rules.longest ≤ 292

-- the frame that all of these bytes are, if they are one
abbrev pub whole_frame : Rules → List Timed → List FrameRead
whole_frame rules [] = []
whole_frame rules (t ∷ x) =
    if rules.is_frame (timed_bytes (t ∷ x))
    then record { start = t.tick; frame = timed_bytes (t ∷ x) } ∷ []
    else []

-- The hunt over these bytes, case by case. If there are too few, nothing is read. If no header
-- begins, one byte is dropped. A bad header is dropped whole. With a good one, as many bytes are
-- taken as it says, and they are read if they are a frame.
pub record HuntsByCases (first second : ℕ) (rules : Rules) (x : List Timed) : Type 0 where
  pub few : length x < 2 → hunt first second rules 0 x ≡ []
  pub no_start : begins first second (timed_bytes x) ≡ false
      → hunt first second rules 0 x ≡ hunt first second rules 0 (drop 1 x)
  pub short_header : begins first second (timed_bytes x) ≡ true
      → length x < rules.header_len → hunt first second rules 0 x ≡ []
  pub bad_header : begins first second (timed_bytes x) ≡ true
      → rules.header_len ≤ length x
      → rules.is_good_header (header_hunted rules (timed_bytes x)) ≡ false
      → hunt first second rules 0 x
      ≡ hunt first second rules 0 (drop rules.header_len x)
  pub cut : rules.header_len ≤ length x
      → rules.is_good_header (header_hunted rules (timed_bytes x)) ≡ true
      → length x < rules.size (header_hunted rules (timed_bytes x))
      → hunt first second rules 0 x ≡ []
  pub whole : rules.header_len ≤ length x
      → rules.is_good_header (header_hunted rules (timed_bytes x)) ≡ true
      → (n : ℕ) → n ≡ rules.size (header_hunted rules (timed_bytes x)) → n ≤ length x
      → hunt first second rules 0 x
      ≡ whole_frame rules (take n x) ++ hunt first second rules 0 (drop n x)
