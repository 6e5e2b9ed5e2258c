-- The commands `help` and `version`: each prints a text of the program.
use Rattle.std.specs.Prelude.{◌≡◌, ℕ, List, codes}
use Rattle.command_ends.specs.PrintsText.{PrintsText}
use Rattle.command_ends.specs.declared.status.Status.{Status}
use Rattle.line_capture.specs.Takes.{CaptureHeld}
use Rattle.line_capture.specs.declared.outcome.Outcome.{Outcome}
use Rattle.line_capture.specs.declared.outcome.Outcome.TheVariants.{Ended}

-- the line with the program's name and version
abbrev pub capture_version : List ℕ
capture_version = codes "line_capture 0.7.0\n"

-- Holds if a text was printed, or a front of it if a write or a flush failed, and nothing else.
pub record PrintsAlone (text : List ℕ) (before now : CaptureHeld) (outcome : Outcome) : Type 0 where
  pub status : Status
  pub out : PrintsText text before.out now.out status
  pub log : now.log ≡ before.log
  pub outcome_is : outcome ≡ Ended status
