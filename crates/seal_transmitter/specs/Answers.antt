-- What the steps of a transmitter return, and what they do to its journal.
use Rattle.std.specs.Prelude.{◌≡◌, ℕ, ◌+◌, List, [], ◌∷◌, ◌++◌, length, Option, Some, None}
use Rattle.std.specs.Prelude.{Result, IfOk, OnOk, OnErr}
use Rattle.yasir_ticks.specs.declared.tick.Tick.{Tick}
use Rattle.yasir_io.specs.Causes.{HasCause}
use Rattle.yasir_io.specs.Disks.{LeavesOnly}
use Rattle.yasir_io.specs.declared.disk.SlotDisk.{Ghosts as SlotDisk}
use Rattle.line_rules.specs.Rules.{Rules}
use Rattle.frame_ending.specs.Answers.{AnswersTick as AnswersTickOf}
use Rattle.link_format.specs.Profile.{Profile}
use Rattle.sequence_journal.specs.declared.journal.Journal.{Journal}
use Rattle.sequence_journal.specs.declared.journal.JournalFault.{JournalFault}
use Rattle.sequence_journal.specs.Commits.{HasCommitted, HasFailed}
use Rattle.sequence_journal.specs.Journal.{journal_link, journal_floor, Fits, IsCrashSafe}
use Rattle.sequence_journal.specs.Journal.{HasFloorFrom}
use Rattle.link_box.specs.Sealing.{FullNote, sealer, at_floor, seal_notes}
use Rattle.link_box.specs.Sealing.FullNote.{sealed_note, unsealed_note}
use Rattle.link_box.specs.declared.seal_note.SealNote.{SealNote}
use Rattle.link_box.specs.declared.seal_note.SealNote.TheVariants.{Sealed, Unsealed}
use Rattle.frame_ending.specs.declared.box_step.BoxStep.{BoxStep}

-- The note as a step returns it: for a sealed frame it has only the length.
abbrev pub brief_seal_note : FullNote → SealNote
brief_seal_note (sealed_note number start frame) = Sealed number start (length frame)
brief_seal_note (unsealed_note start why) = Unsealed start why

-- Holds if the step for the tick `t`, after the ticks `line` of the device, returns the tick of the
-- link and the note that the definitions add.
abbrev pub SealerAnswersTick : Profile → Rules → ℕ → List Tick → Tick → BoxStep SealNote → Type 0
SealerAnswersTick profile rules floor line t step =
    AnswersTickOf (sealer profile rules) brief_seal_note (at_floor floor) line t step.tick step.note

-- Holds if, by the definitions, a burst is sealed with this number in the step of the tick `t`,
-- which comes after `line`.
pub record SealsWith (profile : Profile) (rules : Rules) (floor : ℕ) (line : List Tick) (t : Tick)
    (number : ℕ) : Type 0 where
  pub start : ℕ
  pub frame : List ℕ
  pub note : seal_notes profile rules floor (line ++ t ∷ []) ≡ seal_notes profile rules floor line
      ++ record { tick = length line; note = sealed_note number start frame } ∷ []

-- Holds if a step did what its note says: it has committed the next number, that of the sealed
-- frame, or has left the journal and the disk as they were.
abbrev pub SealerCommitsNoted : {D : Type 0} → SlotDisk D → Journal → Journal → D → D → Option SealNote
    → Type 0
SealerCommitsNoted d old new disk_old disk_new (Some (Sealed number start len)) =
    (number ≡ journal_floor old + 1)
    × HasCommitted old new (d.told disk_old) (d.told disk_new) (d.may_leave disk_new) number
SealerCommitsNoted d old new disk_old disk_new (Some (Unsealed start why)) =
    (new ≡ old) × (disk_new ≡ disk_old)
SealerCommitsNoted d old new disk_old disk_new None = (new ≡ old) × (disk_new ≡ disk_old)

-- the number of the note, if it has one
abbrev pub numbers_sealed_in : Option SealNote → List ℕ
numbers_sealed_in (Some (Sealed number start len)) = number ∷ []
numbers_sealed_in (Some (Unsealed start why)) = []
numbers_sealed_in None = []

-- What a step does to the journal and its disk.
pub record SealerKeepsJournal {D : Type 0} (d : SlotDisk D) (old new : Journal) (disk_old disk_new : D)
    (result : Result (BoxStep SealNote) JournalFault) : Type 0 where
  pub commits : IfOk result (λ step. SealerCommitsNoted d old new disk_old disk_new step.note)
  pub link : journal_link new ≡ journal_link old
  pub fits : OnOk result (Fits new (d.told disk_new))
  -- the only number that a step can commit is the next one
  pub failed : OnErr result
      (HasFailed old new (d.told disk_old) (d.told disk_new) (journal_floor old + 1))
  -- If the journal is crash-safe before the step, it is so after it, and a crash at any moment
  -- inside the step leaves no floor below the one before it.
  pub crash_safe : IsCrashSafe old (d.told disk_old) (d.may_leave disk_old)
      → IsCrashSafe new (d.told disk_new) (d.may_leave disk_new)
  pub any_moment : IsCrashSafe old (d.told disk_old) (d.may_leave disk_old)
      → LeavesOnly d.moment d.left_since disk_old disk_new (HasFloorFrom old)
  pub cause : HasCause (d.faults disk_old) (d.faults disk_new) result
