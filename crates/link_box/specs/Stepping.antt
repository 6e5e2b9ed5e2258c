-- What a step of a box returns, and what it does to the box's journal.
use Rattle.std.specs.Prelude.{◌≡◌, ℕ, ◌<◌, ◌≤◌, List, [], ◌∷◌, ◌++◌, length, Option, Some}
use Rattle.std.specs.Prelude.{Result, OnOk}
use Rattle.yasir_ticks.specs.declared.TheConstants.{MAX_TICKS}
use Rattle.yasir_ticks.specs.declared.tick.Tick.{Tick}
use Rattle.yasir_io.specs.Causes.{HasCause}
use Rattle.yasir_io.specs.Disks.{Slots, LeavesOnly}
use Rattle.yasir_io.specs.declared.disk.SlotDisk.{Ghosts as SlotDisk}
use Rattle.frame_ending.specs.Answers.{AnswersTick}
use Rattle.link_format.specs.NumberedFrame.{NumberedFrame}
use Rattle.link_format.specs.Setup.{Setup}
use Rattle.sequence_journal.specs.declared.journal.Journal.{Journal}
use Rattle.sequence_journal.specs.declared.journal.JournalFault.{JournalFault}
use Rattle.sequence_journal.specs.declared.link.LinkId.{LinkId}
use Rattle.sequence_journal.specs.Commits.{HasFailed}
use Rattle.sequence_journal.specs.Journal.{journal_link, journal_floor, Fits, IsCrashSafe}
use Rattle.sequence_journal.specs.Journal.{HasFloorFrom}
use Rattle.link_box.specs.Walking.{Walking, full_notes, number_used_after}

-- Holds if the journal serves this link, and the disk is the journal's.
pub record ServesLink (link : LinkId) (journal : Journal) (told : Option Slots) : Type 0 where
  pub of_link : journal_link journal ≡ link
  pub fits : Fits journal told

-- Holds if a box of this link that has taken this many ticks may take one more: they are fewer than
-- `MAX_TICKS`, the journal serves the box's own link, and the disk is the journal's.
pub record MayStep (link : LinkId) (taken : ℕ) (journal : Journal) (told : Option Slots) :
    Type 0 where
  pub room : taken < MAX_TICKS
  pub of_link : journal_link journal ≡ link
  pub fits : Fits journal told

-- `walking` is the walk of a box. `standing` holds of a box, the last number that it used, its
-- setup, and the line that it has taken.
module _ {X A : Type 0} (walking : Walking A) (standing : X → ℕ → Setup → List Tick → Type 0) where
  -- Holds if the box has taken one more tick after this line. The last number that it used is that
  -- of the last frame, and it has returned the tick of the other line and the note that the walk
  -- adds.
  pub record HasStepped (value : X) (last : ℕ) (setup : Setup) (line : List Tick) (t tick : Tick)
      (note : Option A) : Type 0 where
    pub stands : standing value last setup (line ++ t ∷ [])
    pub number : last ≡ number_used_after walking setup (line ++ t ∷ [])
    pub answers : AnswersTick (walking.walker setup) walking.brief (walking.begun setup) line t
        tick note

  -- Holds if the box has taken this tick as `HasStepped` says, whatever line it had taken.
  abbrev pub BoxSteps : X → ℕ → X → ℕ → Tick → Tick → Option A → Type 0
  BoxSteps old before new after t tick note = (setup : Setup) (line : List Tick)
      → standing old before setup line → HasStepped new after setup line t tick note

  -- Holds if, by the walk, a frame with this number is noted in the step of this tick, after this
  -- line.
  pub record NotesFrame (setup : Setup) (line : List Tick) (t : Tick) (number : ℕ) : Type 0 where
    pub full : walking.Full
    pub frame : NumberedFrame
    pub noted : full_notes walking setup (line ++ t ∷ []) ≡ full_notes walking setup line
        ++ record { tick = length line; note = full } ∷ []
    pub framed : walking.frame_in full ≡ Some frame
    pub numbered : frame.number ≡ number

  -- Holds if a step failed because a number isn't committed. It is the number of the frame that is
  -- noted in this step, whatever line the box had taken.
  pub record FailsStep (value : X) (old new : Journal) (t : Tick) (told_old told_new : Option Slots)
      : Type 0 where
    pub number : ℕ
    pub failed : HasFailed old new told_old told_new number
    pub notes : (setup : Setup) (line : List Tick) → standing value (journal_floor old) setup line
        → NotesFrame setup line t number

-- What a step does to the journal and its disk.
pub record KeepsJournal {D A : Type 0} (d : SlotDisk D) (old new : Journal) (disk_old disk_new : D)
    (result : Result A JournalFault) : Type 0 where
  pub link : journal_link new ≡ journal_link old
  pub rises : journal_floor old ≤ journal_floor new
  pub fits : OnOk result (Fits new (d.told disk_new))
  -- If a crash before the step left no floor below the journal's, a crash after it leaves none
  -- below the journal's new floor, and one at any moment inside it leaves none below the old one.
  pub crash_safe : IsCrashSafe old (d.told disk_old) (d.may_leave disk_old)
      → IsCrashSafe new (d.told disk_new) (d.may_leave disk_new)
  pub any_moment : IsCrashSafe old (d.told disk_old) (d.may_leave disk_old)
      → LeavesOnly d.moment d.left_since disk_old disk_new (HasFloorFrom old)
  pub cause : HasCause (d.faults disk_old) (d.faults disk_new) result
