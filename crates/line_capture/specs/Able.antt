-- Which inputs are right for a run, so that nothing refuses them.
use Rattle.std.specs.Prelude.{◌≡◌, ◌⊎◌, ℕ, ◌≤◌, List, [], ◌∷◌, length, Option, Some, None, Ok}
use Rattle.tick_drive.specs.Input.{max_ticks, max_bytes}
use Rattle.command_ends.specs.Readable.{IsReadableWith}
use Rattle.command_ends.specs.declared.status.Status.TheVariants.{Done, NoMemory}
use Rattle.line_stamps.specs.Places.{Spot, spot_of, line_of_places}
use Rattle.line_stamps.specs.Placing.{answer_at}
use Rattle.line_stamps.specs.declared.capture.CaptureByte.{CaptureByte}
use Rattle.line_stamps.specs.declared.capture.Way.TheVariants as way
use Rattle.line_stamps.specs.declared.seen.Seen.{Seen}
use Rattle.line_stamps.specs.declared.timing.Timing.{Timing}
use Rattle.line_capture.specs.Captures.{way_bytes, NoError}
use Rattle.line_capture.specs.Formats.{Format, format_of}
use Rattle.line_capture.specs.Gives.{marks_for}
use Rattle.line_capture.specs.Takes.{origin_of}
use Rattle.line_capture.specs.declared.outcome.Outcome.{Outcome}
use Rattle.line_capture.specs.declared.outcome.Outcome.TheVariants.{Ended}
use Rattle.line_capture.specs.declared.take.Taking.{Taking}
use Rattle.line_capture.specs.declared.words.Command.{Command}
use Rattle.line_capture.specs.declared.words.Command.TheVariants.{Take, Give, Help, Version}
use Rattle.line_capture.specs.declared.words.GiveForm.{GiveForm}

-- Holds if each of these bytes is placed, given where the byte before them is, if there is one.
abbrev pub ArePlaced : Timing → Option Spot → List CaptureByte → Type 0
ArePlaced t last [] = Unit {0}
ArePlaced t last (c ∷ cs) =
    ((silence : ℕ) × (answer_at t last c ≡ Ok silence)) × ArePlaced t (Some (spot_of t last c)) cs

-- Holds if all bytes of a way are placed, on no more ticks than are written.
pub record IsPlacedWhole (t : Timing) (cs : List CaptureByte) : Type 0 where
  pub each : ArePlaced t None cs
  pub few : length (line_of_places t cs) ≤ max_ticks

-- how the bytes of a capture with these items are placed
abbrev pub timing_of_items : Taking → List Seen → Timing
timing_of_items taking items = record {
  rate = taking.rate;
  spacing = taking.spacing;
  origin = origin_of (way_bytes taking.ways way.A items) (way_bytes taking.ways way.B items);
}

-- Holds if the input tells what it has left, which is a right capture within the limits and without
-- an error, and all bytes of the ways that are taken are placed.
pub record IsTakeable (format : Format) (taking : Taking) (input : Option (List ℕ)) : Type 0 where
  pub file : List ℕ
  pub items : List Seen
  pub told : input ≡ Some file
  pub few : length file ≤ max_bytes
  pub right : format.is file items
  pub no_error : NoError items
  pub a : IsPlacedWhole (timing_of_items taking items) (way_bytes taking.ways way.A items)
  pub b : IsPlacedWhole (timing_of_items taking items) (way_bytes taking.ways way.B items)

-- Holds if the input tells what it has left, which is a right tick text within the limits, with as
-- many marks as it must have.
pub record IsGivable (form : GiveForm) (input : Option (List ℕ)) : Type 0 where
  pub file : List ℕ
  pub told : input ≡ Some file
  pub readable : IsReadableWith (marks_for form file) (Some file)

-- Holds if the input is right for what was asked for. If no command was asked for, no input is
-- right.
abbrev pub CaptureMayDo : Option Command → Option (List ℕ) → Type 0
CaptureMayDo None input = ⊥
CaptureMayDo (Some (Take form rate ways spacing)) input =
    IsTakeable (format_of form) (record { rate = rate; ways = ways; spacing = spacing }) input
CaptureMayDo (Some (Give form rate)) input = IsGivable form input
CaptureMayDo (Some Help) input = Unit {0}
CaptureMayDo (Some Version) input = Unit {0}

-- Holds if the run is done, or had no memory.
abbrev pub CaptureEndsWell : Outcome → Type 0
CaptureEndsWell outcome = (outcome ≡ Ended Done) ⊎ (outcome ≡ Ended NoMemory)
