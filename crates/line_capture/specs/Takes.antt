-- What `take` does.
use Rattle.std.specs.Prelude.{◌≡◌, ℕ, ◌+◌, ◌^◌, min, Bool, true, false, List, [], ◌∷◌, ◌++◌, codes, ◌-◌, length}
use Rattle.std.specs.Prelude.{◌==◌, ◌&&◌, if◌then◌else◌}
use Rattle.std.specs.Prelude.{decimal, Option, Some, None, Result, Ok, Err}
use Rattle.std.specs.Io.KnownBytes.{append_known}
use Rattle.yasir_io.specs.Output.{GotPrefix}
use Rattle.yasir_io.specs.declared.Failed.{Failed}
use Rattle.yasir_ticks.specs.CanonicalText.{canonical_text}
use Rattle.yasir_ticks.specs.declared.tick.Tick.{Tick}
use Rattle.tick_drive.specs.Input.{max_bytes}
use Rattle.tick_drive.specs.declared.end.TooMuch.TheVariants.{Ticks, Bytes}
use Rattle.line_stamps.specs.declared.capture.CaptureByte.{CaptureByte}
use Rattle.line_stamps.specs.declared.capture.Way.{Way}
use Rattle.line_stamps.specs.declared.capture.Way.TheVariants as way
use Rattle.line_stamps.specs.declared.timing.Timing.{Timing}
use Rattle.line_stamps.specs.Places.{line_of_places}
use Rattle.command_ends.specs.declared.status.Status.TheVariants as statuses
use Rattle.line_capture.specs.Captures.{Collects, takes}
use Rattle.line_capture.specs.Distances.{CountsDistances, both_ways, distance_lines}
use Rattle.line_capture.specs.Formats.{Format}
use Rattle.line_capture.specs.Inputs.{Told, IsRead}
use Rattle.line_capture.specs.Placed.{PlacedIsFront, PlacedStopsAt, CountsOverlaps}
use Rattle.line_capture.specs.declared.bad_capture.BadCapture.TheVariants.{ByteError}
use Rattle.line_capture.specs.declared.collect.CaptureEnd.{CaptureEnd}
use Rattle.line_capture.specs.declared.collect.CaptureEnd.TheVariants as ends
use Rattle.line_capture.specs.declared.collect.Kept.{Kept}
use Rattle.line_capture.specs.declared.distances.Distances.{Distances}
use Rattle.line_capture.specs.declared.input.ReadEnd.{ReadEnd}
use Rattle.line_capture.specs.declared.input.ReadEnd.TheVariants as reads
use Rattle.line_capture.specs.declared.outcome.Outcome.{Outcome}
use Rattle.line_capture.specs.declared.outcome.Outcome.TheVariants.{Ended, BadCapture}
use Rattle.line_capture.specs.declared.outcome.Outcome.TheVariants as outcomes
use Rattle.line_capture.specs.declared.placing.LineEnd.{LineEnd}
use Rattle.line_capture.specs.declared.placing.LineStop.{LineStop}
use Rattle.line_capture.specs.declared.placing.LineStop.TheVariants as stops
use Rattle.line_capture.specs.declared.take.Taking.{Taking}
use Rattle.line_capture.specs.declared.words.Ways.{Ways}
use Rattle.line_capture.specs.declared.words.Ways.TheVariants.{A, B, Both}

-- The time at which tick 0 begins: that of the first byte of either way, or 0 if there is none.
abbrev pub origin_of : List CaptureByte → List CaptureByte → ℕ
origin_of [] [] = 0
origin_of (c ∷ cs) [] = c.start
origin_of [] (d ∷ ds) = d.start
origin_of (c ∷ cs) (d ∷ ds) = min c.start d.start

-- how the bytes that are kept of a capture are placed
abbrev pub timing_for : Taking → Kept → Timing
timing_for taking kept = record {
  rate = taking.rate;
  spacing = taking.spacing;
  origin = origin_of kept.a.items kept.b.items;
}

-- the text between the two lists: a mark if both ways are taken
abbrev pub mark_of : Ways → List ℕ
mark_of A = []
mark_of B = []
mark_of Both = codes "%\n"

-- the text of two lines, of which one is empty if one way is taken
abbrev pub lines_text : Ways → List Tick → List Tick → List ℕ
lines_text ways a b = canonical_text a ++ (mark_of ways ++ canonical_text b)

-- Holds if these are the lines of the first bytes of two ways, up to the first byte of each that
-- isn't placed, and these are the ends of both.
pub record PlacesWays (t : Timing) (kept : Kept) (a_end b_end : LineEnd) (a b : List Tick)
    : Type 0 where
  pub front_a : List CaptureByte
  pub rest_a : List CaptureByte
  pub a_is_front : PlacedIsFront t kept.a.items front_a rest_a
  pub a_stop : PlacedStopsAt t front_a rest_a a_end.stop
  pub a_is : a ≡ line_of_places t front_a
  pub front_b : List CaptureByte
  pub rest_b : List CaptureByte
  pub b_is_front : PlacedIsFront t kept.b.items front_b rest_b
  pub b_stop : PlacedStopsAt t front_b rest_b b_end.stop
  pub b_is : b ≡ line_of_places t front_b
  pub a_placed : a_end.placed ≡ length front_a
  pub b_placed : b_end.placed ≡ length front_b

-- Holds if the lines of both ways were written.
pub record WrittenLines (t : Timing) (ways : Ways) (kept : Kept) (before now : Option (List ℕ))
    (a_end b_end : LineEnd) : Type 0 where
  pub a : List Tick
  pub b : List Tick
  pub places : PlacesWays t kept a_end b_end a b
  pub text : now ≡ append_known before (lines_text ways a b)

-- Holds if a write failed, and a front of the text of some first ticks of each line was written.
pub record WrittenFront (t : Timing) (ways : Ways) (kept : Kept) (before now : Option (List ℕ))
    : Type 0 where
  pub front_a : List CaptureByte
  pub rest_a : List CaptureByte
  pub a_is_front : PlacedIsFront t kept.a.items front_a rest_a
  pub a : List Tick
  pub later_a : List Tick
  pub a_are : line_of_places t front_a ≡ a ++ later_a
  pub front_b : List CaptureByte
  pub rest_b : List CaptureByte
  pub b_is_front : PlacedIsFront t kept.b.items front_b rest_b
  pub b : List Tick
  pub later_b : List Tick
  pub b_are : line_of_places t front_b ≡ b ++ later_b
  pub got : GotPrefix before now (lines_text ways a b)

-- What a call that writes the lines of both ways leaves in the output, by its result.
abbrev pub WritesLines : Timing → Ways → Kept → Option (List ℕ) → Option (List ℕ)
    → Result (LineEnd × LineEnd) Failed → Type 0
WritesLines t ways kept before now (Ok ends) =
    WrittenLines t ways kept before now ends.0 ends.1
WritesLines t ways kept before now (Err failed) = WrittenFront t ways kept before now

-- ---- how a run ends

-- the outcome of a line of which this many bytes were placed, if it stopped before a byte
abbrev pub stop_outcome : Way → ℕ → LineStop → Option Outcome
stop_outcome w placed stops.AllPlaced = None
stop_outcome w placed (stops.Unplaced why) = Some (outcomes.Unplaced w placed why)
stop_outcome w placed (stops.TooLong count) = Some (Ended (statuses.TooLong Ticks count))

-- the outcome of a line that stopped before a byte, or `None` if all its bytes were placed
abbrev pub line_outcome : Way → LineEnd → Option Outcome
line_outcome w end = stop_outcome w end.placed end.stop

-- how a run ends if all that was read of its input was taken
abbrev pub read_outcome : ReadEnd → Outcome
read_outcome reads.Whole = Ended statuses.Done
read_outcome reads.Failed = Ended statuses.ReadFault
read_outcome reads.TooLong = Ended (statuses.TooLong Bytes (max_bytes + 1))

-- the first outcome if there is one, and otherwise the second one
abbrev pub or_else : Option Outcome → Outcome → Outcome
or_else (Some outcome) other = outcome
or_else None other = other

-- How a run ends. A refusal of the capture itself comes first, then one of a byte of way A, and
-- then one of a byte of way B.
abbrev pub outcome_of : ReadEnd → CaptureEnd → LineEnd → LineEnd → Outcome
outcome_of read (ends.Bad bad) a b = BadCapture bad
outcome_of read ends.Whole a b =
    or_else (line_outcome way.A a) (or_else (line_outcome way.B b) (read_outcome read))
outcome_of read ends.Open a b =
    or_else (line_outcome way.A a) (or_else (line_outcome way.B b) (read_outcome read))

-- whether an input was read to its end
abbrev pub is_whole_capture : ReadEnd → Bool
is_whole_capture reads.Whole = true
is_whole_capture reads.Failed = false
is_whole_capture reads.TooLong = false

-- ---- what was counted

-- how many bytes with an error were met, in decimal: at most one, since the capture is refused
-- there
abbrev pub errors_in : CaptureEnd → List ℕ
errors_in (ends.Bad (ByteError offset)) = codes "1"
errors_in end = codes "0"

-- the line of what was counted
abbrev pub counts_line : ℕ → CaptureEnd → Kept → List ℕ
counts_line overlaps end kept =
    codes "counted: overlaps " ++ decimal overlaps ++ codes ", errors " ++ errors_in end
    ++ codes ", breaks " ++ decimal kept.breaks ++ codes ", control lines "
    ++ decimal kept.control_lines ++ codes "\n"

-- how many bytes of a capture go way A and way B
abbrev pub way_counts : Ways → Kept → ℕ × ℕ
way_counts A kept = (length kept.a.items, kept.others)
way_counts B kept = (kept.others, length kept.b.items)
way_counts Both kept = (length kept.a.items, length kept.b.items)

-- The line that warns of a way that was asked for and has no byte, with the counts of both ways.
abbrev pub empty_line : List ℕ → ℕ × ℕ → List ℕ
empty_line way counts = codes "warning: no byte on way " ++ way ++ codes ": way a has "
    ++ decimal counts.0 ++ codes ", way b " ++ decimal counts.1 ++ codes "\n"

-- the warning of a way with this many bytes, if it is taken and has none
abbrev pub empty_warning : Bool → List ℕ → ℕ → ℕ × ℕ → List ℕ
empty_warning taken way own counts = if taken && own == 0 then empty_line way counts else []

-- the lines that the log gets after all ticks: what was counted, how far apart the bytes of bursts
-- are, and the warnings of both ways
abbrev pub taken_lines : Ways → ℕ → Distances → CaptureEnd → Kept → List ℕ
taken_lines ways overlaps found end kept = counts_line overlaps end kept
    ++ distance_lines found
    ++ empty_warning (takes ways way.A) (codes "a") (length kept.a.items) (way_counts ways kept)
    ++ empty_warning (takes ways way.B) (codes "b") (length kept.b.items) (way_counts ways kept)

-- ---- a capture that was collected

-- What the sinks hold.
pub record CaptureHeld : Type 0 where
  pub out : Option (List ℕ)
  pub log : Option (List ℕ)

-- sinks that hold these texts
abbrev pub held : Option (List ℕ) → Option (List ℕ) → CaptureHeld
held out log = record { out = out; log = log }

-- Holds if the lines and what was counted were written, and the run ends as the reading, the
-- capture and the lines did.
pub record WritesAll (taking : Taking) (kept : Kept) (read : ReadEnd) (end : CaptureEnd)
    (before now : CaptureHeld) (outcome : Outcome) : Type 0 where
  pub a_end : LineEnd
  pub b_end : LineEnd
  pub lines : WrittenLines (timing_for taking kept) taking.ways kept before.out now.out a_end b_end
  pub overlaps_a : ℕ
  pub overlaps_b : ℕ
  pub overlap_a : CountsOverlaps (timing_for taking kept) kept.a.items overlaps_a
  pub overlap_b : CountsOverlaps (timing_for taking kept) kept.b.items overlaps_b
  pub distances_a : Distances
  pub distances_b : Distances
  pub distance_a : CountsDistances (timing_for taking kept) kept.a.items distances_a
  pub distance_b : CountsDistances (timing_for taking kept) kept.b.items distances_b
  pub log : now.log ≡ append_known before.log
      (taken_lines taking.ways (min (overlaps_a + overlaps_b) (2 ^ 64 - 1))
      (both_ways distances_a distances_b) end kept)
  pub outcome_is : outcome ≡ outcome_of read end a_end b_end

-- Holds if a write or a flush failed, after a front of the lines and of what was counted was
-- written.
pub record WritesPart (taking : Taking) (kept : Kept) (end : CaptureEnd) (before now : CaptureHeld)
    : Type 0 where
  pub lines : WrittenFront (timing_for taking kept) taking.ways kept before.out now.out
  pub overlaps : ℕ
  pub found : Distances
  pub log : GotPrefix before.log now.log (taken_lines taking.ways overlaps found end kept)

-- Holds if the lines and what was counted were written, or a front of them before a write or a
-- flush failed.
pub data WritesTaken (taking : Taking) (kept : Kept) (read : ReadEnd) (end : CaptureEnd)
    (before now : CaptureHeld) (outcome : Outcome) : Type 0 where
  written : WritesAll taking kept read end before now outcome
      → WritesTaken taking kept read end before now outcome
  failed : outcome ≡ Ended statuses.WriteFault → WritesPart taking kept end before now
      → WritesTaken taking kept read end before now outcome

-- ---- a file that was read

-- Holds if what is kept of the file was written.
pub record TakesFile (format : Format) (taking : Taking) (read : ReadEnd) (file : List ℕ)
    (before now : CaptureHeld) (outcome : Outcome) : Type 0 where
  pub kept : Kept
  pub end : CaptureEnd
  pub collects : Collects format taking (is_whole_capture read) file kept end
  pub writes : WritesTaken taking kept read end before now outcome

-- Holds if there was no memory, and nothing was written.
pub record HasNoMemory (before now : CaptureHeld) (outcome : Outcome) : Type 0 where
  pub outcome_is : outcome ≡ Ended statuses.NoMemory
  pub same : now ≡ before

-- Holds if what is kept of the file was written, or there was no memory.
pub data TakesRead (format : Format) (taking : Taking) (read : ReadEnd) (file : List ℕ)
    (before now : CaptureHeld) (outcome : Outcome) : Type 0 where
  no_memory : HasNoMemory before now outcome
      → TakesRead format taking read file before now outcome
  kept : TakesFile format taking read file before now outcome
      → TakesRead format taking read file before now outcome

-- ---- an input

-- Holds if what was read of the input was taken.
pub record TakesInput (format : Format) (taking : Taking) (in_before in_now : Told)
    (before now : CaptureHeld) (outcome : Outcome) : Type 0 where
  pub read : ReadEnd
  pub file : List ℕ
  pub reads : IsRead in_before in_now file read
  pub takes : TakesRead format taking read file before now outcome

-- Holds if what was read of the input was taken, or there was no memory for it.
pub data TakesCapture (format : Format) (taking : Taking) (in_before in_now : Told)
    (before now : CaptureHeld) (outcome : Outcome) : Type 0 where
  no_memory : HasNoMemory before now outcome
      → TakesCapture format taking in_before in_now before now outcome
  read : TakesInput format taking in_before in_now before now outcome
      → TakesCapture format taking in_before in_now before now outcome

-- ---- causes

-- whether a run ended because a write or a flush failed
abbrev pub is_capture_write_fault : Outcome → Bool
is_capture_write_fault (Ended statuses.WriteFault) = true
is_capture_write_fault outcome = false

-- whether a run did all
abbrev pub is_done : Outcome → Bool
is_done (Ended statuses.Done) = true
is_done outcome = false

-- whether a run ended with the verdict of an audit, as no run over a capture does
abbrev pub is_verdict : Outcome → Bool
is_verdict (Ended (statuses.Unclean verdict)) = true
is_verdict outcome = false

-- Holds if the run ends with this outcome, or the outcome was Done and a flush failed.
pub data HasOutcome (outcome result : Outcome) : Type 0 where
  same : result ≡ outcome → HasOutcome outcome result
  flush_failed : outcome ≡ Ended statuses.Done → result ≡ Ended statuses.WriteFault
      → HasOutcome outcome result
