-- What a run of the program does.
use Rattle.std.specs.Prelude.{◌≡◌, ℕ, ◌≤◌, List, Option, Some, None}
use Rattle.yasir_io.specs.Causes.{Rose}
use Rattle.yasir_io.specs.Flushed.{IsNotFlushed}
use Rattle.yasir_io.specs.declared.reason.Reason.{Reason}
use Rattle.yasir_io.specs.declared.source.Source.{Ghosts as Source}
use Rattle.yasir_io.specs.declared.sink.Sink.{Ghosts as Sink}
use Rattle.command_ends.specs.Causes.{SinkCause}
use Rattle.command_ends.specs.Flushes.{FlushesAtEnd}
use Rattle.command_ends.specs.Outside.{Outside, outside}
use Rattle.command_ends.specs.Programs.{AsksFor, Runs, IsCalm}
use Rattle.command_ends.specs.declared.status.Status.TheVariants as statuses
use Rattle.line_capture.specs.Formats.{format_of}
use Rattle.line_capture.specs.Gives.{GivesCapture}
use Rattle.line_capture.specs.Able.{CaptureMayDo, CaptureEndsWell}
use Rattle.line_capture.specs.Inputs.{told}
use Rattle.line_capture.specs.Outcomes.{status_in}
use Rattle.line_capture.specs.UsageLines.{of_input, capture_fault_text}
use Rattle.line_capture.specs.About.{PrintsAlone, capture_version}
use Rattle.line_capture.specs.declared.about.TheConstants.{HELP_PAGE}
use Rattle.line_capture.specs.Takes.{TakesCapture, held}
use Rattle.line_capture.specs.Words.{IsCaptureCommand}
use Rattle.line_capture.specs.declared.outcome.Outcome.{Outcome}
use Rattle.line_capture.specs.declared.outcome.Outcome.TheVariants.{Ended}
use Rattle.line_capture.specs.declared.words.Command.{Command}
use Rattle.line_capture.specs.declared.words.Command.TheVariants.{Take, Give, Help, Version}

-- What a run is handed: its input, and the two sinks. It has neither a key nor a journal.
abbrev pub CaptureOutside : Type 0 → Type 0 → Type 0 → Type 0
CaptureOutside S O L = Outside (Unit {0}) S O L (Unit {0})

abbrev pub capture_outside : {S O L : Type 0} → S → O → L → CaptureOutside S O L
capture_outside input out log = outside tt input out log tt

module _ {S O L : Type 0} (s : Source S) (o : Sink O) (l : Sink L) where
  -- What is done before the fault line: nothing at all if the words ask for no command.
  abbrev pub CaptureDoes : Option Command → CaptureOutside S O L → CaptureOutside S O L → Outcome
      → Type 0
  CaptureDoes None before after outcome = (outcome ≡ Ended statuses.Usage) × (after ≡ before)
  CaptureDoes (Some (Take form rate ways spacing)) before after outcome =
      TakesCapture (format_of form) (record { rate = rate; ways = ways; spacing = spacing })
      (told (s.left before.input) (s.faults before.input))
      (told (s.left after.input) (s.faults after.input))
      (held (o.held before.out) (l.held before.log)) (held (o.held after.out) (l.held after.log))
      outcome
  CaptureDoes (Some Help) before after outcome = (after.input ≡ before.input)
      × PrintsAlone HELP_PAGE (held (o.held before.out) (l.held before.log))
      (held (o.held after.out) (l.held after.log)) outcome
  CaptureDoes (Some Version) before after outcome = (after.input ≡ before.input)
      × PrintsAlone capture_version (held (o.held before.out) (l.held before.log))
      (held (o.held after.out) (l.held after.log)) outcome
  CaptureDoes (Some (Give form rate)) before after outcome =
      GivesCapture form rate (told (s.left before.input) (s.faults before.input))
      (told (s.left after.input) (s.faults after.input))
      (held (o.held before.out) (l.held before.log)) (held (o.held after.out) (l.held after.log))
      outcome

  -- Holds if no read, write or flush failed.
  abbrev pub CaptureIsCalm : CaptureOutside S O L → CaptureOutside S O L → Type 0
  CaptureIsCalm = IsCalm (λ none. 0) s.faults o.faults l.faults (λ none. 0)

  -- Holds if what the words ask for was done, and then the fault line was added to the log, if the
  -- outcome has one. `tells` is the reason that the input tells.
  pub record CaptureRuns (tells : S → Option Reason) (words : List (List ℕ)) (before after : CaptureOutside S O L)
      (outcome : Outcome) : Type 0 where
    pub asked : Option Command
    pub asks : AsksFor IsCaptureCommand words asked
    pub runs : Runs l (capture_fault_text words (of_input (tells after.input))) CaptureDoes
        (λ asked noted now outcome. IsNotFlushed l noted now) asked before after outcome
    -- if the input is right, the run is done, unless something fails outside or there is no memory
    pub able : CaptureMayDo asked (s.left before.input) → CaptureIsCalm before after
        → CaptureEndsWell outcome

  -- What an outcome says of the counts of faults and of flushes. If the run is done, `out` was
  -- flushed and then the log, each one time, after all that was written to it.
  pub record RunCauses (before after : CaptureOutside S O L) (outcome : Outcome) : Type 0 where
    pub read_failed : outcome ≡ Ended statuses.ReadFault
        → Rose (s.faults before.input) (s.faults after.input)
    pub input_never_falls : s.faults before.input ≤ s.faults after.input
    pub sinks : SinkCause (o.faults before.out) (o.faults after.out)
        (l.faults before.log) (l.faults after.log) (status_in outcome)
    pub flushes : FlushesAtEnd o l before.out after.out before.log after.log (status_in outcome)
