-- The frames that should be read, as lists in memory have them.
use Rattle.std.specs.Prelude.{◌≡◌, ℕ, ◌+◌, ◌<◌, ◌^◌, Bool, true, false, List, map, All, Option, Some, None}
use Rattle.std.specs.Prelude.{option_map}
use Rattle.device_model.specs.Frames.{FrameRead}
use Rattle.link_format.specs.NumberedFrame.{NumberedFrame}
use Rattle.session_lists.specs.Comparison.{is_same_read}
use Rattle.session_lists.specs.FrameBox.{kept_frames}
use Rattle.session_lists.specs.FrameList.{Holds, ListIsWhole}
use Rattle.session_lists.specs.Lateness.{read_later}
use Rattle.session_lists.specs.ReplayLists.{kept_reads}
use Rattle.session_lists.specs.declared.expected.Due.{Due}
use Rattle.session_lists.specs.declared.expected.Expected.{Expected}
use Rattle.session_lists.specs.declared.expected.Origin.{Origin}
use Rattle.session_lists.specs.declared.expected.Origin.TheVariants.{Passed, Spaced}
use Rattle.session_lists.specs.declared.frame_box.Numbered.{Numbered}
use Rattle.session_lists.specs.declared.frame_list.FrameList.{FrameList}
use Rattle.session_lists.specs.declared.lateness.Lateness.{Lateness}

-- Holds if the list holds frames that passed, and `frames` are these, each `late` ticks later.
pub record AreLater (late : ℕ) (list : FrameList Numbered) (frames : List FrameRead) : Type 0 where
  pub passed_ones : List NumberedFrame
  pub holds : Holds list (kept_frames passed_ones)
  pub are : frames ≡ map (read_later late) passed_ones

-- Holds if the list holds frames that passed, each of which is read, `late` ticks later, from a
-- tick below 2 ^ 64 on.
pub record StartInTime (late : ℕ) (list : FrameList Numbered) : Type 0 where
  pub passed_ones : List NumberedFrame
  pub holds : Holds list (kept_frames passed_ones)
  pub in_time : All (λ f. late + f.start < 2 ^ 64) passed_ones

-- what `Expects` says by where the frames come from
abbrev pub ExpectsFrom : Origin → ℕ → List FrameRead → Type 0
ExpectsFrom (Passed list) late frames = AreLater late list.now frames
ExpectsFrom (Spaced list) late frames = Holds list.now (kept_reads frames)

-- Holds if these are the frames that should be read.
abbrev pub Expects : Expected → List FrameRead → Type 0
Expects expected frames = ExpectsFrom expected.origin expected.late.late frames

-- what `AreInTime` says by where the frames come from
abbrev pub InTimeFrom : Origin → ℕ → Type 0
InTimeFrom (Passed list) late = StartInTime late list.now
InTimeFrom (Spaced list) late = Unit {0}

-- Holds if each frame that should be read since it has passed starts at a tick below 2 ^ 64. A
-- frame of a spaced line does so anyway.
abbrev pub AreInTime : Expected → Type 0
AreInTime expected = InTimeFrom expected.origin expected.late.late

-- what `AreWhole` says by where the frames come from
abbrev pub WholeFrom : Origin → Type 0
WholeFrom (Passed list) = ListIsWhole list.now
WholeFrom (Spaced list) = ListIsWhole list.now

-- Holds if no byte of a frame that should be read is missing.
abbrev pub AreWhole : Expected → Type 0
AreWhole expected = WholeFrom expected.origin

-- a frame that is due, if there is one
abbrev pub due_frame : Option Due → Option FrameRead
due_frame due = option_map (λ (d : Due). record { start = d.start; frame = d.bytes.now }) due

-- whether a frame that was read is the one that is due, if one is
abbrev pub is_due : Lateness → Option FrameRead → FrameRead → Bool
is_due late None g = false
is_due late (Some f) g = is_same_read late f g

-- The frames that should be read, by whether a spacer stands behind the receiver. Without it these
-- are the ones that passed, each `late` ticks later. With it they are those that a device behind it
-- reads.
abbrev pub expected_by : Bool → ℕ → List NumberedFrame → List FrameRead → List FrameRead
expected_by false late passed_ones behind = map (read_later late) passed_ones
expected_by true late passed_ones behind = behind

-- Holds if these are the frames that should be read, and no byte of them is missing.
pub record AreExpected (expected : Expected) (frames : List FrameRead) : Type 0 where
  pub expects : Expects expected frames
  pub whole : AreWhole expected
