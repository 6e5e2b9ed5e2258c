-- The number of a step's note is the one that the step commits.
use Rattle.frame_ending.specs.declared.box_step.BoxStep.{BoxStep}
use Rattle.link_box.specs.declared.seal_note.SealNote.{SealNote}
use Rattle.link_box.specs.declared.seal_note.SealNote.TheVariants.{Sealed, Unsealed}
use Rattle.seal_transmitter.specs.Answers.{SealerCommitsNoted, SealerKeepsJournal, numbers_sealed_in}
use Rattle.sequence_journal.specs.{Commits.HasFailed, Journal.journal_floor}
use Rattle.sequence_journal.specs.Uptimes.{CommitsAnswered}
use Rattle.sequence_journal.specs.declared.journal.{Journal.Journal, JournalFault.JournalFault}
use Rattle.std.proofs.Common.{ℕ, ◌+◌, Option, Some, None, Result, Ok, Err, IfOk, OnErr}
use Rattle.yasir_io.specs.declared.disk.SlotDisk.{Ghosts as SlotDisk}

module _ {D : Type 0} (d : SlotDisk D) (old new : Journal) (before after : D) where
  answered : (note : Option SealNote) → SealerCommitsNoted d old new before after note
      → CommitsAnswered d old new before after (numbers_sealed_in note)
  answered None kept = kept
  answered (Some (Unsealed start why)) kept = kept
  answered (Some (Sealed number start len)) commits = commits.1

  pub commits-answered : (result : Result (BoxStep SealNote) JournalFault)
      → SealerKeepsJournal d old new before after result
      → IfOk result (λ step. CommitsAnswered d old new before after (numbers_sealed_in step.note))
  commits-answered (Ok step) keeps = answered step.note keeps.commits
  commits-answered (Err fault) keeps = tt

  pub fails-to-commit : (result : Result (BoxStep SealNote) JournalFault)
      → SealerKeepsJournal d old new before after result
      → OnErr result ((n : ℕ) × HasFailed old new (d.told before) (d.told after) n)
  fails-to-commit (Ok step) keeps = tt
  fails-to-commit (Err fault) keeps = (journal_floor old + 1, keeps.failed)
