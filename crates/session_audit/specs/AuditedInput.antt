-- The audit of three recordings that two marks separate in an input.
use Rattle.std.specs.Prelude.{◌≡◌, ◌≢◌, ℕ, List, Option, Result, Ok, Err}
use Rattle.yasir_ticks.specs.Ticks.{Item}
use Rattle.yasir_ticks.specs.declared.tick.Tick.{Tick}
use Rattle.tick_drive.specs.Input.{Takes, IsWhole}
use Rattle.tick_drive.specs.declared.end.End.{End}
use Rattle.tick_drive.specs.declared.end.End.TheVariants.{Whole}
use Rattle.tick_drive.specs.Drive.{StopsForMemory}
use Rattle.session_lists.specs.Parts.{part}
use Rattle.session_audit.specs.declared.verdict.Verdict.{Verdict}

module _ (verdict_on_three : List Tick → List Tick → List Tick → Verdict)
    (before now : Option (List ℕ)) where
  -- Holds if the input is a whole text with two marks, and the verdict is that on the recordings
  -- before the first mark, between the marks, and after the second.
  pub record FindsVerdict (verdict : Verdict) : Type 0 where
    pub items : List Item
    pub takes : IsWhole 2 0 before now items
    pub found : verdict
        ≡ verdict_on_three (part 0 takes.told) (part 1 takes.told) (part 2 takes.told)

  -- Holds if the input ended with `end`, which isn't `Whole`. If it is `Stopped`, there was no
  -- memory for what was taken of the input.
  pub record FindsNoVerdict (end : End) : Type 0 where
    pub items : List Item
    pub takes : Takes 2 0 before now items end
    pub other : end ≢ Whole
    pub memory : StopsForMemory end

  -- What the result of an audit says of the input.
  abbrev pub AuditsInput : Result Verdict End → Type 0
  AuditsInput (Ok verdict) = FindsVerdict verdict
  AuditsInput (Err end) = FindsNoVerdict end
