-- How the program ends: its exit status, and what was done.
use Rattle.std.specs.Prelude.{◌≡◌, ◌↔◌, ◌⊎◌, ℕ, List, Option, None}
use Rattle.yasir_io.specs.declared.reason.Reason.{Reason}
use Rattle.yasir_io.specs.declared.source.Source.{Ghosts as Source}
use Rattle.yasir_io.specs.declared.sink.Sink.{Ghosts as Sink}
use Rattle.command_ends.specs.declared.status.Status.TheVariants as statuses
use Rattle.line_capture.specs.Outcomes.{capture_exit_status}
use Rattle.line_capture.specs.Programs.{CaptureOutside, CaptureRuns, RunCauses}
use Rattle.command_ends.specs.Programs.{AsksFor}
use Rattle.line_capture.specs.Words.{IsCaptureCommand}
use Rattle.line_capture.specs.declared.outcome.Outcome.{Outcome}
use Rattle.line_capture.specs.declared.outcome.Outcome.TheVariants.{Ended}

-- `tells` is the reason that the input tells.
module _ {S O L : Type 0} (s : Source S) (o : Sink O) (l : Sink L) (tells : S → Option Reason) where
  -- Holds if the program did what its words ask for, and ended in this way.
  pub record RunsWith (words : List (List ℕ)) (before after : CaptureOutside S O L) (outcome : Outcome)
      : Type 0 where
    pub usage : (outcome ≡ Ended statuses.Usage) ↔ AsksFor IsCaptureCommand words None
    pub runs : CaptureRuns s o l tells words before after outcome
    pub causes : RunCauses s o l before after outcome

  -- Holds if the program ran and ended with the exit status of its outcome, or there was no memory
  -- for its words, and nothing was done.
  abbrev pub EndsOverArgs : List (List ℕ) → CaptureOutside S O L → CaptureOutside S O L → ℕ → Type 0
  EndsOverArgs words before after exit_status =
      ((outcome : Outcome) × (exit_status ≡ capture_exit_status outcome)
      × RunsWith words before after outcome)
      ⊎ ((exit_status ≡ capture_exit_status (Ended statuses.NoMemory)) × (after ≡ before))
