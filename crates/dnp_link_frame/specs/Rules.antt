-- The DNP3 link layer as the rules of a line.
use Rattle.line_rules.specs.Rules.{Rules}
use Rattle.line_rules.specs.Spoiling.{spoil_by}
use Rattle.dnp_link_frame.specs.Blocks.{length_byte, size_by, room_of, is_good_header, is_frame}
use Rattle.dnp_link_frame.specs.Blocks.{has_right_ending}

-- the rules of DNP3: the label is 2, a frame has up to 292 bytes, and a header of ten
abbrev pub dnp_rules : Rules
dnp_rules = record {
  label = 2;
  longest = 292;
  room = room_of;
  is_frame = is_frame;
  header_len = 10;
  is_good_header = is_good_header;
  size = λ x. size_by (length_byte x);
  has_right_ending = has_right_ending;
  spoil = spoil_by has_right_ending;
}
