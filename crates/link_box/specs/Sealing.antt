-- What the transmitter makes of the device's line: its notes, the frames that it seals, and the
-- line of the link.
use Rattle.std.specs.Prelude.{ℕ, suc, ◌+◌, ◌==◌, ◌||◌, not, nat_lt, List, [], ◌∷◌, ◌++◌, map}
use Rattle.std.specs.Prelude.{Option, Some, None, if◌then◌else◌}
use Rattle.std.specs.List.{filter_map}
use Rattle.yasir_ticks.specs.Ticks.{silent}
use Rattle.yasir_ticks.specs.Bursts.{Burst, end_of}
use Rattle.yasir_ticks.specs.declared.TheConstants.{T3_5_TICKS}
use Rattle.yasir_ticks.specs.declared.tick.Tick.{Tick}
use Rattle.yasir_ticks.specs.declared.tick.Tick.TheVariants.{Byte}
use Rattle.line_rules.specs.Rules.{Rules}
use Rattle.frame_ending.specs.LiveBytes.{live_bytes, live_ticks, live_end, has_extra}
use Rattle.frame_ending.specs.Walk.{Walker, Noted, notes_of, line_of}
use Rattle.link_format.specs.Profile.{Profile, pause_len, trailer_len, trailer}
use Rattle.link_format.specs.NumberedFrame.{NumberedFrame}
use Rattle.link_box.specs.declared.seal_note.UnsealedWhy.{UnsealedWhy}
use Rattle.link_box.specs.declared.seal_note.UnsealedWhy.TheVariants.{Early, Form, Spent}

-- what the transmitter knows between bursts
pub record SealState : Type 0 where
  -- the number of the last sealed burst, or the floor of the journal before the first
  pub floor : ℕ
  -- a burst that starts before this tick is early
  pub earliest_start : ℕ

-- what happens to a burst: it is sealed with a number, or it isn't sealed, for a reason
pub data Judgement : Type 0 where
  sealed_with : (number : ℕ) → Judgement
  unsealed : UnsealedWhy → Judgement

-- How a closed burst is judged: by the first of these conditions that holds.
unfoldable pub judged : Profile → Rules → SealState → Burst → Judgement
judged profile rules s d =
    if nat_lt d.start s.earliest_start then unsealed Early
    else if has_extra rules d || not (rules.is_frame (live_bytes rules d)) then unsealed Form
    else if s.floor == profile.limit then unsealed Spent
    else sealed_with (suc s.floor)

-- The first tick from which a burst after this sealed one isn't early: a pause, the trailer, and
-- the silence that ends a burst come before it.
abbrev pub start_after : Profile → Rules → Burst → ℕ
start_after profile rules d = live_end rules d + pause_len + trailer_len profile + T3_5_TICKS

-- the state after a burst with this judgement
abbrev pub state_by : Profile → Rules → SealState → Burst → Judgement → SealState
state_by profile rules s d (sealed_with number) =
    record { floor = number; earliest_start = start_after profile rules d }
state_by profile rules s d (unsealed why) = s

-- the note of a burst; that of a sealed one has the frame itself
pub data FullNote : Type 0 where
  sealed_note : (number start : ℕ) (frame : List ℕ) → FullNote
  unsealed_note : (start : ℕ) → UnsealedWhy → FullNote

-- the note of a burst with this judgement
abbrev pub note_by : Rules → Burst → Judgement → FullNote
note_by rules d (sealed_with number) = sealed_note number d.start (live_bytes rules d)
note_by rules d (unsealed why) = unsealed_note d.start why

-- the live bytes of a burst in their own ticks, followed by the ticks `more`
abbrev pub forwarded : Rules → Burst → List Tick → Burst
forwarded rules d more = record { start = d.start; body = live_ticks rules d ++ more }

-- a pause, and a trailer of these bytes
abbrev pub trailing : List ℕ → List Tick
trailing bytes = silent pause_len ++ map (λ b. Byte b) bytes

-- The emission of a burst: its live bytes, and after those of a sealed one its trailer. An early
-- burst has none.
abbrev pub emission_by : Profile → Rules → Burst → Judgement → List Burst
emission_by profile rules d (sealed_with number) =
    forwarded rules d (trailing (trailer profile number (live_bytes rules d))) ∷ []
emission_by profile rules d (unsealed Early) = []
emission_by profile rules d (unsealed Form) = forwarded rules d [] ∷ []
emission_by profile rules d (unsealed Spent) = forwarded rules d [] ∷ []

-- The transmitter as a walk over bursts. It notes a burst in the step of the burst's fourth silent
-- tick, which closes it.
abbrev pub sealer : Profile → Rules → Walker SealState FullNote
sealer profile rules = record {
  next = λ s d. state_by profile rules s d (judged profile rules s d);
  note = λ s d. note_by rules d (judged profile rules s d);
  tick = λ s d. end_of d + 3;
  emission = λ s d. emission_by profile rules d (judged profile rules s d);
}

-- the state of a transmitter at rest whose journal has this floor
abbrev pub at_floor : ℕ → SealState
at_floor floor = record { floor = floor; earliest_start = 0 }

-- the notes of the transmitter in the steps of this line
abbrev pub seal_notes : Profile → Rules → ℕ → List Tick → List (Noted FullNote)
seal_notes profile rules floor line = notes_of (sealer profile rules) (at_floor floor) line

-- the line of the link, which has a tick for each tick of the device's line
abbrev pub link_line : Profile → Rules → ℕ → List Tick → List Tick
link_line profile rules floor line = line_of (sealer profile rules) (at_floor floor) line

-- the sealed frame of a note, if it has one
abbrev pub sealed_in : FullNote → Option NumberedFrame
sealed_in (sealed_note number start frame) =
    Some (record { number = number; start = start; frame = frame })
sealed_in (unsealed_note start why) = None

-- the frames that the transmitter has sealed
abbrev pub sealed : Profile → Rules → ℕ → List Tick → List NumberedFrame
sealed profile rules floor line = filter_map (λ n. sealed_in n.note)
    (seal_notes profile rules floor line)
