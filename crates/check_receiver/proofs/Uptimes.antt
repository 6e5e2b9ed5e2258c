-- The number of a step's note is the one that the step commits.
use Rattle.frame_ending.specs.declared.box_step.BoxStep.{BoxStep}
use Rattle.check_receiver.specs.Checkings.{CheckerCommitsNoted, CheckerKeepsJournal, numbers_passed_in}
use Rattle.link_box.specs.declared.check_note.CheckNote.{CheckNote}
use Rattle.link_box.specs.declared.check_note.CheckNote.TheVariants.{Passed, Refused, Dropped}
use Rattle.sequence_journal.specs.Uptimes.{CommitsAnswered}
use Rattle.sequence_journal.specs.declared.journal.{Journal.Journal, JournalFault.JournalFault}
use Rattle.std.proofs.Common.{Option, Some, None, Result, Ok, Err, IfOk}
use Rattle.yasir_io.specs.declared.disk.SlotDisk.{Ghosts as SlotDisk}

module _ {S : Type 0} (d : SlotDisk S) (old new : Journal) (before after : S) where
  answered : (note : Option CheckNote) → CheckerCommitsNoted d old new before after note
      → CommitsAnswered d old new before after (numbers_passed_in note)
  answered None kept = kept
  answered (Some (Refused start why)) kept = kept
  answered (Some (Dropped start why)) kept = kept
  answered (Some (Passed number start len)) commits = commits

  pub commits-answered : (result : Result (BoxStep CheckNote) JournalFault)
      → CheckerKeepsJournal d old new before after result
      → IfOk result (λ step. CommitsAnswered d old new before after (numbers_passed_in step.note))
  commits-answered (Ok step) keeps = answered step.note keeps.commits
  commits-answered (Err fault) keeps = tt
