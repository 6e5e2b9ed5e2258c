-- What is sent of the frames of an input's line, and when each status comes.
use Rattle.std.specs.Prelude.{◌≡◌, ℕ, List, Option}
use Rattle.tick_drive.specs.declared.end.End.{End}
use Rattle.line_texts.specs.Sending.{LineAndNotes, SinkTexts, Waiting, SendsTexts, TextsHaveSent}
use Rattle.line_texts.specs.Sending.{HasSentFronts}
use Rattle.command_ends.specs.declared.status.Status.{Status}
use Rattle.command_ends.specs.declared.status.Status.TheVariants.{NoMemory}
use Rattle.line_commands.specs.OverInput.{AtWrite, DrivesOver, RunsOver}

-- how many silent ticks come after a whole input, so that all frames leave
abbrev pub space_rest : ℕ
space_rest = 21000

-- `made` has what is made of a line. The input had `in_before` left before and has `in_now` left
-- now, and the sinks held `before` and hold `now`.
module _ (made : LineAndNotes) (in_before in_now : Option (List ℕ)) (before now : SinkTexts) where
  -- If there is no memory, nothing was taken of the input, and the sinks have got nothing.
  abbrev pub TakesNothing : Status → Type 0
  TakesNothing NoMemory = (in_now ≡ in_before) × (now ≡ before)
  TakesNothing status = ⊥

  -- What the run took of its input, and what the sinks have got of it, for each status.
  abbrev pub SpacesLine : Status → Type 0
  SpacesLine = RunsOver space_rest in_before in_now (TextsHaveSent made before now)
      (HasSentFronts made before now) TakesNothing

  -- Holds if the run over the input ended with `end`: the texts of all ticks that were taken are on
  -- their way, some of them still waiting, or a write failed, perhaps in what was owed at the end of
  -- the run.
  abbrev pub DrivesSpacer : Waiting → End → Type 0
  DrivesSpacer waits = DrivesOver space_rest in_before in_now (SendsTexts made waits before now)
      (AtWrite (HasSentFronts made before now))
