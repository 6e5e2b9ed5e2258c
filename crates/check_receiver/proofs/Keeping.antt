-- What a step does to the journal and its disk, as a step of a box of a link, and what a run does.
use Rattle.frame_ending.specs.declared.box_step.BoxStep.{BoxStep}
use Rattle.check_receiver.specs.{Boxed.check_walking, Checkings.CheckerCommitsNoted}
use Rattle.check_receiver.specs.{Checkings.CheckerKeepsJournal, Runs.CheckerHasTakenRun, Stands.CheckerStandsAt}
use Rattle.check_receiver.specs.declared.checker.Checker.{Checker}
use Rattle.link_format.specs.declared.tag.Mac.{Ghosts as Mac}
use Rattle.line_rules.specs.declared.line_rules.LineRules.{Ghosts as LineRules}
use Rattle.link_box.proofs.TakenRuns.{takes-as}
use Rattle.link_box.specs.{Runs.TakesRun, Stepping.KeepsJournal as KeepsBoxed}
use Rattle.link_format.specs.Setup.{Setup}
use Rattle.link_box.specs.declared.check_note.CheckNote.{CheckNote}
use Rattle.link_box.specs.declared.check_note.CheckNote.TheVariants.{Passed, Refused, Dropped}
use Rattle.sequence_journal.specs.Journal.{journal_floor}
use Rattle.sequence_journal.specs.declared.journal.{Journal.Journal, JournalFault.JournalFault}
use Rattle.std.proofs.Common.{◌≡◌, ◌≤◌, ℕ, List, Ok, Err, Option, Some, None, ap, arith}
use Rattle.yasir_io.specs.declared.disk.SlotDisk.{Ghosts as SlotDisk}
use Rattle.yasir_ticks.specs.declared.tick.Tick.{Tick}

-- A step doesn't lower the journal's floor.
pub commits-rise : {S : Type 0} (d : SlotDisk S) (old new : Journal) (disk_old disk_new : S)
    (note : Option CheckNote)
    → CheckerCommitsNoted d old new disk_old disk_new note → journal_floor old ≤ journal_floor new
commits-rise d old new disk_old disk_new None h = omega (arith, ap journal_floor h.0)
commits-rise d old new disk_old disk_new (Some (Refused start why)) h =
    omega (arith, ap journal_floor h.0)
commits-rise d old new disk_old disk_new (Some (Dropped start why)) h =
    omega (arith, ap journal_floor h.0)
commits-rise d old new disk_old disk_new (Some (Passed number start len)) h =
    omega (arith, h.above, h.floor)

module _ {S : Type 0} (d : SlotDisk S) (old new : Journal) (disk_old disk_new : S) where
  pub keeps-ok : (step : BoxStep CheckNote)
      → CheckerKeepsJournal d old new disk_old disk_new (Ok step)
      → KeepsBoxed d old new disk_old disk_new (Ok step)
  keeps-ok step keeps = record {
    link = keeps.link;
    rises = commits-rise d old new disk_old disk_new step.note keeps.commits;
    fits = keeps.fits;
    crash_safe = keeps.crash_safe;
    any_moment = keeps.any_moment;
    cause = record {
      never_falls = keeps.cause.never_falls;
      failed = tt;
      same = keeps.cause.same;
    };
  }

  pub keeps-err : (fault : JournalFault)
      → CheckerKeepsJournal d old new disk_old disk_new (Err fault)
      → KeepsBoxed {A = BoxStep CheckNote} d old new disk_old disk_new (Err fault)
  keeps-err fault keeps = record {
    link = keeps.link;
    rises = omega (arith, keeps.failed.1.floor);
    fits = tt;
    crash_safe = keeps.crash_safe;
    any_moment = keeps.any_moment;
    cause = record {
      never_falls = keeps.cause.never_falls;
      failed = keeps.cause.failed;
      same = tt;
    };
  }

module _ {R M : Type 0} (proto : LineRules R) (macs : Mac M) {B D : ℕ}
    (old new : Checker R M B D) where
  -- A run that the receiver takes is a run that a box takes, if the ticks are the same.
  pub takes-run : (run answer front told : List Tick) → run ≡ front → answer ≡ told
      → ((last : ℕ) (setup : Setup) (line : List Tick) → CheckerStandsAt proto macs old last setup line
      → CheckerHasTakenRun proto macs new last setup line run answer)
      → TakesRun (check_walking proto macs B) (λ value. CheckerStandsAt proto macs value) old new front
      told
  takes-run run answer front told run_is answer_is takes =
      takes-as (check_walking proto macs B) (λ value. CheckerStandsAt proto macs value) old new run answer
      front told run_is answer_is
      (λ last setup line stands.
      let taken = takes last setup line stands in
      record { stands = taken.stands; answers = taken.answers })
