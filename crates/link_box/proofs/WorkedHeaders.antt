-- The definitions of the receiver on small links of a protocol with headers: a frame is 5, its
-- size, and bytes up to a last one of 0.
use Rattle.frame_ending.proofs.BurstRows.{Row, row, noted_at, AreNotes, AreOthers}
use Rattle.frame_ending.specs.Laid.{tick_at}
use Rattle.frame_ending.specs.LiveBytes.{before_pause, up_to_byte}
use Rattle.line_rules.specs.{Rules.Rules, Spoiling.spoil_by}
use Rattle.link_format.{proofs.Worked.on_line, specs.Profile.Profile}
use Rattle.link_box.specs.Checking.{FullNote, check_notes, received_line}
use Rattle.link_box.specs.Checking.FullNote.{passed_note, refused_note, dropped_note}
use Rattle.link_box.specs.{Emissions.spoiled, Shapes.kept}
use Rattle.link_box.specs.Verdicts.{verdict_of, checked}
use Rattle.link_box.specs.declared.check_note.DroppedWhy.TheVariants.{Busy, Head}
use Rattle.link_box.specs.declared.check_note.RefusedWhy.TheVariants.{Trailer, Form, Tag}
use Rattle.std.proofs.Common.{ℕ, ◌==◌, ◌&&◌, ◌-◌, nat_le, Bool, List, [], ◌∷◌, ◌++◌, length}
use Rattle.std.proofs.Common.{get_or, cond, refl}
use Rattle.yasir_ticks.specs.Bursts.{bursts_from, with_byte}
use Rattle.yasir_ticks.specs.{Ticks.silent, declared.tick.Tick.Tick}

abbrev is_header : List ℕ → Bool
is_header x = nat_le 2 (length x) && get_or x 0 0 == 5 && nat_le 3 (get_or x 1 0)
    && nat_le (get_or x 1 0) 8

abbrev ends_right : List ℕ → Bool
ends_right x = is_header x && length x == get_or x 1 0 && get_or x (length x - 1) 1 == 0

abbrev rules : Rules
rules = record {
  label = 2;
  longest = 8;
  room = λ x. cond (is_header x) (get_or x 1 0) 8;
  is_frame = ends_right;
  header_len = 2;
  is_good_header = is_header;
  size = λ x. get_or x 1 0;
  has_right_ending = ends_right;
  spoil = spoil_by ends_right;
}

-- a profile with words of one byte and tags of two
abbrev profile : Profile
profile = record {
  word_len = 1;
  tag_len = 2;
  tag = λ number frame. 0x40 ∷ number ∷ [];
  limit = 1000;
}

-- a frame of four bytes, and its packet with number 1
abbrev FRAME : List ℕ
FRAME = 0x05 ∷ 0x04 ∷ 0x09 ∷ 0x00 ∷ []

abbrev PACKET : List Tick
PACKET = on_line FRAME ++ silent 3 ++ on_line (0x01 ∷ 0x40 ∷ 0x01 ∷ [])

-- a whole packet
abbrev one_packet : Row FullNote
one_packet = row 0 (PACKET ++ silent 8) (noted_at 9 (passed_note 1 0 FRAME) ∷ [])
    (silent 7 ++ on_line FRAME ++ silent 7)

-- a wrong tag
abbrev wrong_tag : Row FullNote
wrong_tag = row 0 (on_line FRAME ++ silent 3 ++ on_line (0x01 ∷ 0x40 ∷ 0x00 ∷ []) ++ silent 8)
    (noted_at 9 (refused_note 0 Tag) ∷ [])
    (silent 7 ++ on_line (0x05 ∷ 0x04 ∷ 0x09 ∷ 0x01 ∷ []) ++ silent 7)

-- as many bytes as the header says, which are no frame
abbrev wrong_form : Row FullNote
wrong_form = row 0
    (on_line (0x05 ∷ 0x04 ∷ 0x09 ∷ 0x02 ∷ []) ++ silent 3 ++ on_line (0x01 ∷ 0x40 ∷ 0x01 ∷ [])
    ++ silent 8) (noted_at 9 (refused_note 0 Form) ∷ [])
    (silent 7 ++ on_line (0x05 ∷ 0x04 ∷ 0x09 ∷ 0x02 ∷ []) ++ silent 7)

-- a byte more than the header says, in the place of the pause
abbrev one_more : Row FullNote
one_more = row 0 (on_line (0x05 ∷ 0x04 ∷ 0x09 ∷ 0x00 ∷ 0x00 ∷ []) ++ silent 8)
    (noted_at 4 (refused_note 0 Trailer) ∷ [])
    (silent 7 ++ on_line (0x05 ∷ 0x04 ∷ 0x09 ∷ 0x01 ∷ []) ++ silent 2)

-- only a header: it is filled, and the last byte of the fill is spoiled
abbrev cut_frame : Row FullNote
cut_frame = row 0 (on_line (0x05 ∷ 0x04 ∷ []) ++ silent 12)
    (noted_at 5 (refused_note 0 Trailer) ∷ [])
    (silent 7 ++ on_line (0x05 ∷ 0x04 ∷ 0x00 ∷ 0x01 ∷ []) ++ silent 3)

-- a header and one more byte, with silence between the bytes
abbrev slow_cut_frame : Row FullNote
slow_cut_frame = row 0
    (on_line (0x05 ∷ []) ++ silent 1 ++ on_line (0x04 ∷ []) ++ silent 1 ++ on_line (0x07 ∷ [])
    ++ silent 12) (noted_at 8 (refused_note 0 Trailer) ∷ [])
    (silent 7 ++ on_line (0x05 ∷ []) ++ silent 1 ++ on_line (0x04 ∷ []) ++ silent 1 ++ on_line (0x07
    ∷ 0x01 ∷ []) ++ silent 4)

-- a packet that starts while the fill leaves, and is dropped
abbrev busy_with_fill : Row FullNote
busy_with_fill = row 0 (on_line (0x05 ∷ 0x04 ∷ []) ++ silent 8 ++ PACKET ++ silent 8)
    (noted_at 5 (refused_note 0 Trailer) ∷ noted_at 10 (dropped_note 10 Busy) ∷ [])
    (silent 7 ++ on_line (0x05 ∷ 0x04 ∷ 0x00 ∷ 0x01 ∷ []) ++ silent 17)

-- a packet that starts in the first tick after the fill has left, and passes
abbrev free_again : Row FullNote
free_again = row 0 (on_line (0x05 ∷ 0x04 ∷ []) ++ silent 9 ++ PACKET ++ silent 8)
    (noted_at 5 (refused_note 0 Trailer) ∷ noted_at 20 (passed_note 1 11 FRAME) ∷ [])
    (silent 7 ++ on_line (0x05 ∷ 0x04 ∷ 0x00 ∷ 0x01 ∷ []) ++ silent 7 ++ on_line FRAME ++ silent 7)

-- a header that is too short
abbrev short_header : Row FullNote
short_header = row 0 (on_line (0x05 ∷ []) ++ silent 12) (noted_at 2 (dropped_note 0 Head) ∷ [])
    (silent 13)

-- a header that is cut by two silent ticks
abbrev parted_header : Row FullNote
parted_header = row 0 (on_line (0x05 ∷ []) ++ silent 2 ++ on_line (0x04 ∷ []) ++ silent 12)
    (noted_at 2 (dropped_note 0 Head) ∷ []) (silent 16)

-- a bad header, and a packet that starts soon after it, and passes: a dropped burst doesn't keep
-- the receiver busy
abbrev bad_header : Row FullNote
bad_header = row 0 (on_line (0x06 ∷ 0x04 ∷ 0x00 ∷ []) ++ silent 4 ++ PACKET ++ silent 8)
    (noted_at 1 (dropped_note 0 Head) ∷ noted_at 16 (passed_note 1 7 FRAME) ∷ [])
    (silent 14 ++ on_line FRAME ++ silent 7)

abbrev rows : List (Row FullNote)
rows =
    one_packet ∷ wrong_tag ∷ wrong_form ∷ one_more ∷ cut_frame ∷ slow_cut_frame ∷ busy_with_fill
    ∷ free_again ∷ short_header ∷ parted_header ∷ bad_header ∷ []

notes-are : AreNotes (check_notes profile rules) rows
unfolding bursts_from with_byte before_pause up_to_byte tick_at kept spoiled verdict_of checked
notes-are = refl

others-are : AreOthers (received_line profile rules) rows
unfolding bursts_from with_byte before_pause up_to_byte tick_at kept spoiled verdict_of checked
others-are = refl
