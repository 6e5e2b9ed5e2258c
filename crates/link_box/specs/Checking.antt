-- What the receiver makes of a link: its notes, the frames that pass, and the device's line.
use Rattle.std.specs.Prelude.{ℕ, ◌+◌, ◌-◌, List, length, min, Option, Some, None}
use Rattle.std.specs.List.{filter_map}
use Rattle.yasir_ticks.specs.Bursts.{Burst}
use Rattle.yasir_ticks.specs.declared.TheConstants.{T1_5_TICKS}
use Rattle.yasir_ticks.specs.declared.tick.Tick.{Tick}
use Rattle.line_rules.specs.Rules.{Rules, head_of}
use Rattle.line_rules.specs.declared.head.Head.{Head}
use Rattle.line_rules.specs.declared.head.Head.TheVariants.{Short, Good, Bad}
use Rattle.frame_ending.specs.LiveBytes.{before_pause, up_to_byte, live_bytes, live_end}
use Rattle.frame_ending.specs.Walk.{Walker, Noted, notes_of, line_of}
use Rattle.link_format.specs.Profile.{Profile, pause_len, trailer_len, delay}
use Rattle.link_format.specs.NumberedFrame.{NumberedFrame}
use Rattle.link_box.specs.Verdicts.{CheckState, Verdict, kept_after, checked}
use Rattle.link_box.specs.Verdicts.Verdict.{passed_with, refused, dropped}
use Rattle.link_box.specs.Emissions.{owed, emission_by}
use Rattle.link_box.specs.declared.check_note.RefusedWhy.{RefusedWhy}
use Rattle.link_box.specs.declared.check_note.DroppedWhy.{DroppedWhy}
use Rattle.link_box.specs.declared.check_note.DroppedWhy.TheVariants.{Busy, Head as NoHead}
use Rattle.link_box.specs.declared.check_note.CheckNote.{CheckNote}
use Rattle.link_box.specs.declared.check_note.CheckNote.TheVariants.{Passed, Refused, Dropped}

-- ---- when a burst is noted

-- the tick at which the receiver sees that a burst's header isn't good: that of the last byte of a
-- bad header, or of the second silent tick in a row after a header that is too short
abbrev pub head_tick : Rules → Burst → Head → ℕ
head_tick rules d Bad = d.start + (length (up_to_byte rules.header_len d.body) - 1)
head_tick rules d Short = d.start + length (before_pause d.body) + (T1_5_TICKS - 1)
head_tick rules d Good = d.start

-- the first tick after a burst's live bytes that differs from a pause and a trailer, or, if none
-- does, the tick of the trailer's last byte
abbrev pub trailer_tick : Profile → Rules → Burst → ℕ
trailer_tick profile rules d =
    live_end rules d + min (kept_after profile rules d) (pause_len + trailer_len profile - 1)

-- the tick at which a burst with this verdict is noted
abbrev pub note_tick : Profile → Rules → Burst → Verdict → ℕ
note_tick profile rules d (passed_with number) = trailer_tick profile rules d
note_tick profile rules d (refused why) = trailer_tick profile rules d
note_tick profile rules d (dropped Busy) = d.start
note_tick profile rules d (dropped NoHead) = head_tick rules d (head_of rules (live_bytes rules d))

-- ---- what is known after a burst

-- the tick after the one in which a burst's last live byte leaves
abbrev pub start_after : Profile → Rules → Burst → ℕ
start_after profile rules d = live_end rules d + delay profile

-- The next burst may start when all bytes of this one have left.
abbrev pub state_by : Profile → Rules → CheckState → Burst → Verdict → CheckState
state_by profile rules s d (passed_with number) =
    record { floor = number; earliest_start = start_after profile rules d }
state_by profile rules s d (refused why) =
    record { floor = s.floor; earliest_start = start_after profile rules d + owed rules d }
state_by profile rules s d (dropped why) = s

-- ---- what is noted about a burst; for a passed one, the frame itself

pub data FullNote : Type 0 where
  passed_note : (number start : ℕ) (frame : List ℕ) → FullNote
  refused_note : (start : ℕ) → RefusedWhy → FullNote
  dropped_note : (start : ℕ) → DroppedWhy → FullNote

-- the note about a burst with this verdict
abbrev pub note_by : Rules → Burst → Verdict → FullNote
note_by rules d (passed_with number) = passed_note number d.start (live_bytes rules d)
note_by rules d (refused why) = refused_note d.start why
note_by rules d (dropped why) = dropped_note d.start why

-- A note as a step returns it: for a passed frame it has only the length.
abbrev pub brief_note : FullNote → CheckNote
brief_note (passed_note number start frame) = Passed number start (length frame)
brief_note (refused_note start why) = Refused start why
brief_note (dropped_note start why) = Dropped start why

-- ---- the receiver as a walk over bursts

abbrev pub checker : Profile → Rules → Walker CheckState FullNote
checker profile rules = record {
  next = λ s d. state_by profile rules s d (checked profile rules s d);
  note = λ s d. note_by rules d (checked profile rules s d);
  tick = λ s d. note_tick profile rules d (checked profile rules s d);
  emission = λ s d. emission_by profile rules d (checked profile rules s d);
}

-- what a receiver whose journal has this floor knows before the first burst
abbrev pub at_floor : ℕ → CheckState
at_floor floor = record { floor = floor; earliest_start = 0 }

-- the notes of the receiver, as far as the link's ticks go
abbrev pub check_notes : Profile → Rules → ℕ → List Tick → List (Noted FullNote)
check_notes profile rules floor link = notes_of (checker profile rules) (at_floor floor) link

-- the line that the receiver sends to the device, tick by tick with the link
abbrev pub received_line : Profile → Rules → ℕ → List Tick → List Tick
received_line profile rules floor link = line_of (checker profile rules) (at_floor floor) link

-- the frame of a note about a passed burst, and `None` for any other note
abbrev pub passed_in : FullNote → Option NumberedFrame
passed_in (passed_note number start frame) =
    Some (record { number = number; start = start; frame = frame })
passed_in (refused_note start why) = None
passed_in (dropped_note start why) = None

-- the frames that the receiver has passed
abbrev pub passed : Profile → Rules → ℕ → List Tick → List NumberedFrame
passed profile rules floor link = filter_map (λ n. passed_in n.note)
    (check_notes profile rules floor link)
