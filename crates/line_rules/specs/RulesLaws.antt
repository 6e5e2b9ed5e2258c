-- The laws that each protocol's rules keep.
use Rattle.std.specs.Prelude.{◌≡◌, ℕ, ◌+◌, ◌-◌, ◌<◌, ◌≤◌, true, List, [], ◌∷◌, ◌++◌, length}
use Rattle.line_rules.specs.Bytes.{AreBytes}
use Rattle.line_rules.specs.Rules.{Rules, head_of, lacking_of}
use Rattle.line_rules.specs.declared.head.Head.TheVariants.{Good}

-- There is room for a first byte. As long as the room isn't full, one more byte fits into the room
-- that the bytes then have. A full room stays the same whatever byte comes. The room is never
-- greater than the longest frame.
pub record IsLawful (rules : Rules) : Type 0 where
  pub some_room : 0 < rules.room []
  pub fits : (x : List ℕ) (b : ℕ) → length x < rules.room x → length x < rules.room (x ++ b ∷ [])
  pub stays : (x : List ℕ) (b : ℕ) → rules.room x ≤ length x
      → rules.room (x ++ b ∷ []) ≡ rules.room x
  pub bounded : (x : List ℕ) → AreBytes x → rules.room x ≤ rules.longest

-- A header has at most ten bytes, and any room is large enough for it.
pub record IsHeaded (rules : Rules) : Type 0 where
  pub short : rules.header_len ≤ 10
  pub room_for_header : (x : List ℕ) → rules.header_len ≤ rules.room x

-- A frame has at least one byte, a good header, and the size that the rules give for it, and there
-- is room for it.
pub record IsFramed (rules : Rules) : Type 0 where
  pub some_byte : (frame : List ℕ) → rules.is_frame frame ≡ true → 0 < length frame
  pub good_header : (frame : List ℕ) → rules.is_frame frame ≡ true → head_of rules frame ≡ Good
  pub whole : (frame : List ℕ) → rules.is_frame frame ≡ true → rules.size frame ≡ length frame
  pub has_room : (frame : List ℕ) → rules.is_frame frame ≡ true → length frame ≤ rules.room frame

-- There is room for the bytes that a frame still lacks. After a whole header, each byte that comes
-- makes them one fewer, down to none.
pub record IsFilling (rules : Rules) : Type 0 where
  pub has_room : (x : List ℕ) → length x ≤ rules.room x
      → length x + lacking_of rules x ≤ rules.room x
  pub lessens : (x more : List ℕ) → rules.header_len ≤ length x
      → lacking_of rules (x ++ more) ≡ lacking_of rules x - length more

-- The numbers of the protocol: its longest frame and its label.
pub record HasNumbers (rules : Rules) (longest label : ℕ) : Type 0 where
  pub longest_is : rules.longest ≡ longest
  pub label_is : rules.label ≡ label
