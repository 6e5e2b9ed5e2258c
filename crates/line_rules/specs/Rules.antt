-- The rules of a protocol's frames, over whole lists of bytes.
use Rattle.std.specs.Prelude.{ℕ, ◌-◌, nat_lt, ◌==◌, Bool, List, length, take, if◌then◌else◌}
use Rattle.line_rules.specs.declared.head.Head.{Head}
use Rattle.line_rules.specs.declared.head.Head.TheVariants.{Short, Good, Bad}

pub record Rules : Type 0 where
  -- the number of the protocol
  pub label : ℕ
  -- how many bytes a frame has at most
  pub longest : ℕ
  -- how many bytes of a burst can belong to a frame, if the burst begins with these bytes
  pub room : List ℕ → ℕ
  -- whether the bytes are a frame
  pub is_frame : List ℕ → Bool
  -- how many bytes a header has (0 in a protocol without headers), and whether that many bytes are
  -- a good one
  pub header_len : ℕ
  pub is_good_header : List ℕ → Bool
  -- how many bytes the frame that begins with these bytes has, if they begin with a good header
  pub size : List ℕ → ℕ
  -- whether the bytes end as a frame does, in the check of the bytes before it
  pub has_right_ending : List ℕ → Bool
  -- what is sent after these bytes in place of this last byte, if the whole must not be a frame
  pub spoil : List ℕ → ℕ → ℕ

-- Three parts of a protocol's rules, as functions of the rules.
abbrev pub is_frame_of : Rules → List ℕ → Bool
is_frame_of rules x = rules.is_frame x

abbrev pub has_right_ending_of : Rules → List ℕ → Bool
has_right_ending_of rules x = rules.has_right_ending x

abbrev pub spoil_of : Rules → List ℕ → ℕ → ℕ
spoil_of rules h c = rules.spoil h c

-- whether there are as many bytes as there is room for
abbrev pub fills_room : Rules → List ℕ → Bool
fills_room rules x = length x == rules.room x

-- what the bytes say about the header
abbrev pub head_of : Rules → List ℕ → Head
head_of rules x =
    if nat_lt (length x) rules.header_len then Short
    else if rules.is_good_header (take rules.header_len x) then Good
    else Bad

-- this many bytes if the header is good, and none otherwise
abbrev pub lacking_by : Head → ℕ → ℕ
lacking_by Good n = n
lacking_by Short n = 0
lacking_by Bad n = 0

-- how many bytes the frame still lacks, if the bytes begin with a good header, and 0 if they don't
abbrev pub lacking_of : Rules → List ℕ → ℕ
lacking_of rules x = lacking_by (head_of rules x) (rules.size x - length x)
