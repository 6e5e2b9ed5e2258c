-- The steps of a box that commits the numbers that it returns are steps of an uptime.
use Rattle.sequence_journal.specs.{Commits.HasFailed, Journal.journal_floor, Journal.HasFloorFrom}
use Rattle.sequence_journal.specs.Uptimes.{RiseFrom, last_from, IsStepOf, CommitsAnswered}
use Rattle.sequence_journal.specs.{Uptimes.numbers_answered, declared.journal.Journal.Journal}
use Rattle.std.proofs.Common.{◌≡◌, ℕ, List, [], ◌∷◌, Result, Ok, Err, IfOk, OnErr, ap, sym}
use Rattle.yasir_io.specs.{Disks.LeavesOnly, declared.disk.SlotDisk.Ghosts as SlotDisk}

module _ {D : Type 0} (disk : SlotDisk D) (old new : Journal) (before after : D) where
  rise : (numbers : List ℕ) → CommitsAnswered disk old new before after numbers
      → RiseFrom (journal_floor old) numbers
  rise [] commits = tt
  rise (n ∷ []) commits = (commits.above, tt)
  rise (n ∷ m ∷ more) commits = absurd commits

  go-on : (numbers : List ℕ) → CommitsAnswered disk old new before after numbers
      → last_from (journal_floor old) numbers ≡ journal_floor new
  go-on [] commits = ap journal_floor (sym commits.0)
  go-on (n ∷ []) commits = sym commits.floor
  go-on (n ∷ m ∷ more) commits = absurd commits

  module _ {A E : Type 0} (numbers_of : A → List ℕ) where
    pub is-step : (result : Result A E)
        → IfOk result (λ answer. CommitsAnswered disk old new before after (numbers_of answer))
        → LeavesOnly disk.moment disk.left_since before after (HasFloorFrom old)
        → IsStepOf disk old before
        (record { numbers = numbers_answered numbers_of result; after = after })
    is-step (Ok answer) commits leaves = record {
      rise = rise (numbers_of answer) commits;
      any_moment = leaves;
    }
    is-step (Err fault) commits leaves = record { rise = tt; any_moment = leaves }

    -- the journal's floor is the last number that the step has returned, or the old floor if there
    -- is none
    pub goes-on : (result : Result A E)
        → IfOk result (λ answer. CommitsAnswered disk old new before after (numbers_of answer))
        → OnErr result ((n : ℕ) × HasFailed old new (disk.told before) (disk.told after) n)
        → last_from (journal_floor old) (numbers_answered numbers_of result) ≡ journal_floor new
    goes-on (Ok answer) commits failed = go-on (numbers_of answer) commits
    goes-on (Err fault) commits failed = sym failed.1.floor
