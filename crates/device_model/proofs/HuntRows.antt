-- What a hunt reads, computed with small rules: a header is 05 64, a count, and that count again.
-- The count says how many bytes follow, and the last byte of a frame is the count.
use Rattle.device_model.specs.{Frames.FrameRead, Hunt.begins, Hunt.hunt, Hunt.hunt_line}
use Rattle.{line_rules.specs.Rules.Rules, std.proofs.Common.◌≡◌}
use Rattle.std.proofs.Common.{ℕ, ◌+◌, ◌-◌, ◌==◌, ◌&&◌, false, List, [], ◌∷◌, ◌++◌, length, get_or}
use Rattle.{std.proofs.Common.refl, yasir_ticks.specs.Ticks.silent}
use Rattle.yasir_ticks.specs.declared.tick.Tick.{Tick, TheVariants.Silent, TheVariants.Byte}

abbrev small_rules : Rules
small_rules = record {
  label = 9;
  longest = 259;
  room = λ x. 4 + get_or x 2 0;
  is_frame = λ x. length x == 4 + get_or x 2 0 && get_or x (length x - 1) 0 == get_or x 2 0;
  header_len = 4;
  is_good_header = λ x. begins 0x05 0x64 x && get_or x 2 0 == get_or x 3 0;
  size = λ x. 4 + get_or x 2 0;
  has_right_ending = λ x. false;
  spoil = λ h c. c;
}

abbrev reads : List Tick → List FrameRead
reads line = hunt_line 0x05 0x64 small_rules line

-- a frame that is only a header, and a frame of six bytes with silence inside
abbrev bare : List Tick
bare = Byte 0x05 ∷ Byte 0x64 ∷ Byte 0x00 ∷ Byte 0x00 ∷ []

abbrev parted : List Tick
parted = Byte 0x05 ∷ (silent 7 ++ Byte 0x64 ∷ Byte 0x02 ∷ Byte 0x02 ∷ Silent ∷ Byte 0x07
    ∷ Byte 0x02 ∷ [])

abbrev bare_at : ℕ → FrameRead
bare_at n = record { start = n; frame = 0x05 ∷ 0x64 ∷ 0x00 ∷ 0x00 ∷ [] }

abbrev parted_at : ℕ → FrameRead
parted_at n = record { start = n; frame = 0x05 ∷ 0x64 ∷ 0x02 ∷ 0x02 ∷ 0x07 ∷ 0x02 ∷ [] }

-- Silence means nothing. Other bytes are dropped one by one, also a first byte that comes before
-- another one.
pub frames_found : reads (Silent ∷ Byte 0x64 ∷ Byte 0x05 ∷ bare ++ parted)
    ≡ bare_at 3 ∷ parted_at 7 ∷ []
unfolding hunt
frames_found = refl

-- A bad header is dropped as a whole, with the start inside it, and the hunt goes on after it.
pub bad_header_dropped : reads (Byte 0x05 ∷ Byte 0x64 ∷ Byte 0x05 ∷ Byte 0x64 ∷ Byte 0x00
    ∷ Byte 0x00 ∷ bare) ≡ bare_at 6 ∷ []
unfolding hunt
bad_header_dropped = refl

-- As many bytes are taken as a good header says, and no header is looked for inside them, although
-- they are no frame.
pub taken_unread : reads (Byte 0x05 ∷ Byte 0x64 ∷ Byte 0x04 ∷ Byte 0x04 ∷ bare ++ bare)
    ≡ bare_at 8 ∷ []
unfolding hunt
taken_unread = refl

-- A frame that is cut off isn't read, and takes the bytes that follow.
pub cut_unread : reads (Byte 0x05 ∷ Byte 0x64 ∷ Byte 0x08 ∷ Byte 0x08 ∷ bare) ≡ []
unfolding hunt
cut_unread = refl
