-- What a step does to the journal and its disk, as a step of a box of a link, and what a run does.
use Rattle.frame_ending.specs.declared.box_step.BoxStep.{BoxStep}
use Rattle.link_format.specs.declared.tag.Mac.{Ghosts as Mac}
use Rattle.line_rules.specs.declared.line_rules.LineRules.{Ghosts as LineRules}
use Rattle.link_box.proofs.TakenRuns.{takes-as}
use Rattle.link_box.specs.{Runs.TakesRun, Stepping.KeepsJournal as KeepsBoxed}
use Rattle.link_format.specs.Setup.{Setup}
use Rattle.link_box.specs.declared.seal_note.SealNote.{SealNote}
use Rattle.link_box.specs.declared.seal_note.SealNote.TheVariants.{Sealed, Unsealed}
use Rattle.seal_transmitter.specs.{Answers.SealerCommitsNoted, Answers.SealerKeepsJournal, Boxed.seal_walking}
use Rattle.seal_transmitter.specs.{Runs.SealerHasTakenRun, Stands.SealerStandsAt, declared.sealer.Sealer.Sealer}
use Rattle.sequence_journal.specs.Journal.{journal_floor}
use Rattle.sequence_journal.specs.declared.journal.{Journal.Journal, JournalFault.JournalFault}
use Rattle.std.proofs.Common.{◌≡◌, ◌≤◌, ℕ, List, Ok, Err, Option, Some, None, ap, arith}
use Rattle.yasir_io.specs.declared.disk.SlotDisk.{Ghosts as SlotDisk}
use Rattle.yasir_ticks.specs.declared.tick.Tick.{Tick}

-- A step doesn't lower the journal's floor.
pub commits-rise : {D : Type 0} (d : SlotDisk D) (old new : Journal) (disk_old disk_new : D)
    (note : Option SealNote)
    → SealerCommitsNoted d old new disk_old disk_new note → journal_floor old ≤ journal_floor new
commits-rise d old new disk_old disk_new None h = omega (arith, ap journal_floor h.0)
commits-rise d old new disk_old disk_new (Some (Unsealed start why)) h =
    omega (arith, ap journal_floor h.0)
commits-rise d old new disk_old disk_new (Some (Sealed number start len)) h =
    omega (arith, h.1.above, h.1.floor)

module _ {D : Type 0} (d : SlotDisk D) (old new : Journal) (disk_old disk_new : D) where
  pub keeps-ok : (step : BoxStep SealNote)
      → SealerKeepsJournal d old new disk_old disk_new (Ok step)
      → KeepsBoxed d old new disk_old disk_new (Ok step)
  keeps-ok step keeps = record {
    link = keeps.link;
    rises = commits-rise d old new disk_old disk_new step.note keeps.commits;
    fits = keeps.fits;
    crash_safe = keeps.crash_safe;
    any_moment = keeps.any_moment;
    cause = record {
      never_falls = keeps.cause.never_falls;
      failed = tt;
      same = keeps.cause.same;
    };
  }

  pub keeps-err : (fault : JournalFault)
      → SealerKeepsJournal d old new disk_old disk_new (Err fault)
      → KeepsBoxed {A = BoxStep SealNote} d old new disk_old disk_new (Err fault)
  keeps-err fault keeps = record {
    link = keeps.link;
    rises = omega (arith, keeps.failed.floor);
    fits = tt;
    crash_safe = keeps.crash_safe;
    any_moment = keeps.any_moment;
    cause = record {
      never_falls = keeps.cause.never_falls;
      failed = keeps.cause.failed;
      same = tt;
    };
  }

module _ {R M : Type 0} (proto : LineRules R) (macs : Mac M) {B : ℕ}
    (old new : Sealer R M B) where
  -- A run that the transmitter takes is a run that a box takes, if the ticks are the same.
  pub takes-run : (run answer front told : List Tick) → run ≡ front → answer ≡ told
      → ((last : ℕ) (setup : Setup) (line : List Tick) → SealerStandsAt proto macs old last setup line
      → SealerHasTakenRun proto macs new last setup line run answer)
      → TakesRun (seal_walking proto macs B) (λ value. SealerStandsAt proto macs value) old new front told
  takes-run run answer front told run_is answer_is takes =
      takes-as (seal_walking proto macs B) (λ value. SealerStandsAt proto macs value) old new run answer
      front told run_is answer_is
      (λ last setup line stands.
      let taken = takes last setup line stands in
      record { stands = taken.stands; answers = taken.answers })
