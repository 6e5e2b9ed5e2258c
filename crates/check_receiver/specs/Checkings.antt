-- What the steps of a receiver return, and what they do to its journal.
use Rattle.std.specs.Prelude.{◌≡◌, ℕ, List, [], ◌∷◌, ◌++◌, length, Option, Some, None}
use Rattle.std.specs.Prelude.{Result, IfOk, OnOk, OnErr}
use Rattle.yasir_ticks.specs.declared.tick.Tick.{Tick}
use Rattle.yasir_io.specs.Causes.{HasCause}
use Rattle.yasir_io.specs.Disks.{LeavesOnly}
use Rattle.yasir_io.specs.declared.disk.SlotDisk.{Ghosts as SlotDisk}
use Rattle.line_rules.specs.Rules.{Rules}
use Rattle.frame_ending.specs.Answers.{AnswersTick as AnswersTickOf}
use Rattle.link_format.specs.Profile.{Profile}
use Rattle.sequence_journal.specs.declared.journal.Journal.{Journal}
use Rattle.sequence_journal.specs.declared.journal.JournalFault.{JournalFault}
use Rattle.sequence_journal.specs.Commits.{HasCommitted, HasFailed}
use Rattle.sequence_journal.specs.Journal.{journal_link, Fits, IsCrashSafe, HasFloorFrom}
use Rattle.link_box.specs.Checking.{checker, at_floor, check_notes, brief_note}
use Rattle.link_box.specs.Checking.FullNote.{passed_note}
use Rattle.link_box.specs.declared.check_note.CheckNote.{CheckNote}
use Rattle.link_box.specs.declared.check_note.CheckNote.TheVariants.{Passed, Refused, Dropped}
use Rattle.frame_ending.specs.declared.box_step.BoxStep.{BoxStep}

-- Holds if the step for the tick `t`, after the ticks `line` of the link, returns the tick of the
-- device's line and the note that the definitions add.
abbrev pub CheckerAnswersTick : Profile → Rules → ℕ → List Tick → Tick → BoxStep CheckNote → Type 0
CheckerAnswersTick profile rules floor line t step =
    AnswersTickOf (checker profile rules) brief_note (at_floor floor) line t step.tick step.note

-- Holds if, by the definitions, a burst passes with this number in the step of the tick `t`, which
-- comes after `line`.
pub record PassesWith (profile : Profile) (rules : Rules) (floor : ℕ) (line : List Tick) (t : Tick)
    (number : ℕ) : Type 0 where
  pub start : ℕ
  pub frame : List ℕ
  pub note : check_notes profile rules floor (line ++ t ∷ [])
      ≡ check_notes profile rules floor line
      ++ record { tick = length line; note = passed_note number start frame } ∷ []

-- Holds if a step did what its note says: it has committed the number of the frame that passes, or
-- has left the journal and the disk as they were.
abbrev pub CheckerCommitsNoted : {S : Type 0} → SlotDisk S → Journal → Journal → S → S → Option CheckNote
    → Type 0
CheckerCommitsNoted d old new disk_old disk_new (Some (Passed number start len)) =
    HasCommitted old new (d.told disk_old) (d.told disk_new) (d.may_leave disk_new) number
CheckerCommitsNoted d old new disk_old disk_new (Some (Refused start why)) =
    (new ≡ old) × (disk_new ≡ disk_old)
CheckerCommitsNoted d old new disk_old disk_new (Some (Dropped start why)) =
    (new ≡ old) × (disk_new ≡ disk_old)
CheckerCommitsNoted d old new disk_old disk_new None = (new ≡ old) × (disk_new ≡ disk_old)

-- the number of the note, if it has one
abbrev pub numbers_passed_in : Option CheckNote → List ℕ
numbers_passed_in (Some (Passed number start len)) = number ∷ []
numbers_passed_in (Some (Refused start why)) = []
numbers_passed_in (Some (Dropped start why)) = []
numbers_passed_in None = []

-- What a step does to the journal and its disk.
pub record CheckerKeepsJournal {S : Type 0} (d : SlotDisk S) (old new : Journal) (disk_old disk_new : S)
    (result : Result (BoxStep CheckNote) JournalFault) : Type 0 where
  pub commits : IfOk result (λ step. CheckerCommitsNoted d old new disk_old disk_new step.note)
  pub link : journal_link new ≡ journal_link old
  pub fits : OnOk result (Fits new (d.told disk_new))
  pub failed : OnErr result
      ((number : ℕ) × HasFailed old new (d.told disk_old) (d.told disk_new) number)
  -- If the journal is crash-safe before the step, it is so after it, and a crash at any moment
  -- inside the step leaves no floor below the one before it.
  pub crash_safe : IsCrashSafe old (d.told disk_old) (d.may_leave disk_old)
      → IsCrashSafe new (d.told disk_new) (d.may_leave disk_new)
  pub any_moment : IsCrashSafe old (d.told disk_old) (d.may_leave disk_old)
      → LeavesOnly d.moment d.left_since disk_old disk_new (HasFloorFrom old)
  pub cause : HasCause (d.faults disk_old) (d.faults disk_new) result
