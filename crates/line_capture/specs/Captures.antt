-- What is kept of a capture.
use Rattle.std.specs.Prelude.{◌≡◌, ℕ, ◌+◌, ◌-◌, ◌*◌, ◌^◌, min, nat_lt, ◌==◌, ◌&&◌, ◌||◌, Bool, not, true, false}
use Rattle.std.specs.Prelude.{if◌then◌else◌, List, [], ◌∷◌, ◌++◌, length, Option, Some, None}
use Rattle.std.specs.List.{filter_map}
use Rattle.line_stamps.specs.Parts.{character}
use Rattle.line_stamps.specs.declared.capture.CaptureByte.{CaptureByte}
use Rattle.line_stamps.specs.declared.capture.Way.{Way}
use Rattle.line_stamps.specs.declared.capture.Way.TheVariants as way
use Rattle.line_stamps.specs.declared.rate.Rate.{Rate}
use Rattle.line_stamps.specs.declared.seen.LineEvent.{LineEvent}
use Rattle.line_stamps.specs.declared.seen.Seen.{Seen}
use Rattle.line_stamps.specs.declared.seen.Seen.TheVariants.{Byte, Event}
use Rattle.line_capture.specs.Formats.{Format}
use Rattle.line_capture.specs.declared.bad_capture.BadCapture.{BadCapture}
use Rattle.line_capture.specs.declared.bad_capture.BadCapture.TheVariants.{ByteError}
use Rattle.line_capture.specs.declared.collect.CaptureEnd.{CaptureEnd}
use Rattle.line_capture.specs.declared.collect.CaptureEnd.TheVariants.{Whole, Open, Bad}
use Rattle.line_capture.specs.declared.collect.Kept.{Kept}
use Rattle.line_capture.specs.declared.take.Taking.{Taking}
use Rattle.line_capture.specs.declared.words.Ways.{Ways}
use Rattle.line_capture.specs.declared.words.Ways.TheVariants as ways

-- whether a way is taken
abbrev pub takes : Ways → Way → Bool
takes ways.A way.A = true
takes ways.A way.B = false
takes ways.B way.A = false
takes ways.B way.B = true
takes ways.Both w = true

-- whether two ways are the same
abbrev pub is_way : Way → Way → Bool
is_way way.A way.A = true
is_way way.A way.B = false
is_way way.B way.A = false
is_way way.B way.B = true

-- the byte of the line that an item is, if it goes this way and the way is taken
abbrev pub byte_of : Ways → Way → Seen → Option CaptureByte
byte_of chosen w (Byte c) = if takes chosen c.way && is_way w c.way then Some c else None
byte_of chosen w (Event e) = None

-- the bytes of a capture that go this way, if the way is taken
abbrev pub way_bytes : Ways → Way → List Seen → List CaptureByte
way_bytes chosen w items = filter_map (byte_of chosen w) items

-- whether an item is a framing error (7) or a parity error (8)
abbrev pub is_error : Seen → Bool
is_error (Byte c) = false
is_error (Event e) = (e.event == 7) || (e.event == 8)

-- whether an item is a break (9)
abbrev pub is_break : Seen → Bool
is_break (Byte c) = false
is_break (Event e) = e.event == 9

-- whether an item is a change of a control line (0)
abbrev pub is_control_line : Seen → Bool
is_control_line (Byte c) = false
is_control_line (Event e) = e.event == 0

-- whether an item is a byte that goes a way that isn't taken
abbrev pub is_other : Ways → Seen → Bool
is_other chosen (Byte c) = not (takes chosen c.way)
is_other chosen (Event e) = false

-- how many items pass this test
abbrev pub count_of : (Seen → Bool) → List Seen → ℕ
count_of such [] = 0
count_of such (item ∷ items) = (if such item then 1 else 0) + count_of such items

-- Holds if none of these items is an error.
abbrev pub NoError : List Seen → Type 0
NoError [] = Unit {0}
NoError (item ∷ items) = (is_error item ≡ false) × NoError items

-- Holds if this is what is kept of these items.
pub record HoldsItems (chosen : Ways) (kept : Kept) (items : List Seen) : Type 0 where
  pub a_is : kept.a.items ≡ way_bytes chosen way.A items
  pub b_is : kept.b.items ≡ way_bytes chosen way.B items
  pub breaks_are : kept.breaks ≡ min (count_of is_break items) (2 ^ 64 - 1)
  pub lines_are : kept.control_lines ≡ min (count_of is_control_line items) (2 ^ 64 - 1)
  pub others_are : kept.others ≡ min (count_of (is_other chosen) items) (2 ^ 64 - 1)

-- whether an event was seen on this way
abbrev pub is_on : Option Way → Way → Bool
is_on (Some v) w = is_way v w
is_on None w = false

-- whether an error that follows a byte belongs to it: it is on the way of the byte, and comes less
-- than one character after the start of the byte
abbrev pub tells_of : Rate → LineEvent → CaptureByte → Bool
tells_of rate error c =
    is_on error.way c.way && nat_lt ((error.start - c.start) * rate.baud) (character rate)

-- these bytes without the last one, if that is wrong
abbrev pub without_wrong : (CaptureByte → Bool) → List CaptureByte → List CaptureByte
without_wrong wrong [] = []
without_wrong wrong (c ∷ []) = if wrong c then [] else c ∷ []
without_wrong wrong (c ∷ d ∷ cs) = c ∷ without_wrong wrong (d ∷ cs)

-- the bytes of a way that are kept before an error: if errors follow their bytes, the last byte
-- isn't kept if the error belongs to it
abbrev pub before_error : Bool → Rate → LineEvent → List CaptureByte → List CaptureByte
before_error true rate error cs = without_wrong (tells_of rate error) cs
before_error false rate error cs = cs

-- Holds if this is what is kept of these items when an error follows them.
pub record HoldsBefore (follows : Bool) (taking : Taking) (kept : Kept) (items : List Seen)
    (error : LineEvent) : Type 0 where
  pub a_is : kept.a.items
      ≡ before_error follows taking.rate error (way_bytes taking.ways way.A items)
  pub b_is : kept.b.items
      ≡ before_error follows taking.rate error (way_bytes taking.ways way.B items)
  pub breaks_are : kept.breaks ≡ min (count_of is_break items) (2 ^ 64 - 1)
  pub lines_are : kept.control_lines ≡ min (count_of is_control_line items) (2 ^ 64 - 1)
  pub others_are : kept.others ≡ min (count_of (is_other taking.ways) items) (2 ^ 64 - 1)

-- Holds if one more item was taken, whatever items were taken before.
abbrev pub TakesItem : Ways → Kept → Kept → Seen → Type 0
TakesItem chosen old new item = (items : List Seen) → HoldsItems chosen old items
    → HoldsItems chosen new (items ++ item ∷ [])

-- Holds if this is what is kept of a file so far: its items are the first ones of each capture that
-- begins with the file, and none of them is an error.
pub record TakesItems (format : Format) (chosen : Ways) (file : List ℕ) (kept : Kept) : Type 0 where
  pub items : List Seen
  pub begins : format.begins file items
  pub holds : HoldsItems chosen kept items
  pub right : NoError items

-- Holds if the byte after a front of the file is refused, and this is what is kept of that front.
pub record RefusesCaptureByte (format : Format) (chosen : Ways) (file : List ℕ) (kept : Kept)
    (bad : BadCapture) : Type 0 where
  pub front : List ℕ
  pub byte : ℕ
  pub more : List ℕ
  pub is : file ≡ front ++ byte ∷ more
  pub items : List Seen
  pub begins : format.begins front items
  pub holds : HoldsItems chosen kept items
  pub right : NoError items
  pub refused : format.refuses front items byte bad

-- Holds if the byte after a front of the file ends an event that is an error, and this is what is
-- kept of that front. If errors follow their bytes, the byte to which the error belongs isn't kept.
pub record EndsInError (format : Format) (taking : Taking) (file : List ℕ) (kept : Kept)
    (bad : BadCapture) : Type 0 where
  pub front : List ℕ
  pub byte : ℕ
  pub more : List ℕ
  pub is : file ≡ front ++ byte ∷ more
  pub items : List Seen
  pub error : LineEvent
  pub holds : HoldsBefore format.error_follows taking kept items error
  pub right : NoError items
  pub begins : format.begins (front ++ byte ∷ []) (items ++ Event error ∷ [])
  pub wrong : is_error (Event error) ≡ true
  pub bad_is : bad ≡ ByteError (length front)

-- Holds if the file ends too early, and this is what is kept of it.
pub record EndsEarly (format : Format) (chosen : Ways) (file : List ℕ) (kept : Kept)
    (bad : BadCapture) : Type 0 where
  pub taken : TakesItems format chosen file kept
  pub lacks : format.lacks file taken.items bad

-- Holds if the file is a capture without an error, and this is what is kept of it.
pub record IsTaken (format : Format) (chosen : Ways) (file : List ℕ) (kept : Kept) : Type 0 where
  pub items : List Seen
  pub is : format.is file items
  pub holds : HoldsItems chosen kept items
  pub right : NoError items

-- Holds if the refusal of a file is right, and this is what is kept of the file before it. The end
-- of a file is refused only if the file is whole.
pub data CaptureIsRefused (format : Format) (taking : Taking) (whole : Bool) (file : List ℕ) (kept : Kept)
    (bad : BadCapture) : Type 0 where
  at_byte : RefusesCaptureByte format taking.ways file kept bad
      → CaptureIsRefused format taking whole file kept bad
  at_error : EndsInError format taking file kept bad → CaptureIsRefused format taking whole file kept bad
  at_end : whole ≡ true → EndsEarly format taking.ways file kept bad
      → CaptureIsRefused format taking whole file kept bad

-- Holds if this is what is kept of a file, and the capture ends like this. If the file isn't whole,
-- more was to come.
abbrev pub Collects : Format → Taking → Bool → List ℕ → Kept → CaptureEnd → Type 0
Collects format taking whole file kept Whole =
    (whole ≡ true) × IsTaken format taking.ways file kept
Collects format taking whole file kept Open =
    (whole ≡ false) × TakesItems format taking.ways file kept
Collects format taking whole file kept (Bad bad) = CaptureIsRefused format taking whole file kept bad

-- Holds if a file that was read to its end has this end: it is a capture, or it lacks something.
abbrev pub EndsSo : Format → List ℕ → List Seen → CaptureEnd → Type 0
EndsSo format file items Whole = format.is file items
EndsSo format file items Open = ⊥
EndsSo format file items (Bad bad) = format.lacks file items bad
