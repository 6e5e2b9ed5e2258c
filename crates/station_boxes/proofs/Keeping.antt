-- What a step does to the stations.
use Rattle.frame_ending.specs.declared.box_step.BoxStep.{BoxStep}
use Rattle.sequence_journal.specs.declared.journal.JournalFault.{JournalFault}
use Rattle.sequence_journal.specs.declared.link.LinkId.{LinkId}
use Rattle.station_boxes.proofs.Tables.{all-one, all-then}
use Rattle.station_boxes.specs.Answers.{CommitsNoted, KeepsStations}
use Rattle.station_boxes.specs.Committing.{HasCommittedAt, HasFailedNext, KeepsBy}
use Rattle.station_boxes.specs.Served.{FitsOf, ServesOf}
use Rattle.station_boxes.specs.declared.note.StationNote.{StationNote}
use Rattle.station_boxes.specs.declared.note.StationNote.TheVariants.{Sealed, Unsealed}
use Rattle.station_boxes.specs.declared.note.UnsealedStationWhy.{UnsealedStationWhy}
use Rattle.station_boxes.specs.declared.station.Station.{Station}
use Rattle.std.proofs.Common.{◌≡◌, ◌∙◌, ℕ, List, sym, subst, Option, Some, None, Ok, Err}
use Rattle.std.specs.List.{All}
use Rattle.yasir_io.specs.declared.disk.SlotDisk.{Ghosts as SlotDisk}

module _ {D : Type 0} (d : SlotDisk D) (link : LinkId) (old new : List (Station D))
    (fits : All (FitsOf d) old) (serve : All (ServesOf link) old) where
  module _ {A : Type 0} (did : A → Type 0) (fails : Type 0) where
    -- After a number of one station, all disks still are as their journals know them.
    pub keeps-number : (name number : ℕ) → HasCommittedAt d old new name number
        → (step : A) → did step → KeepsBy d new did fails link (Ok step)
    keeps-number name number has step done =
        let one = has.one in
        let F : List (Station D) → Type 0 = λ l. All (FitsOf d) l in
        let S : List (Station D) → Type 0 = λ l. All (ServesOf link) l in
        let served : ServesOf link one.before =
        all-one (ServesOf link) one.front one.before one.back (subst S one.old_is serve) in
        record {
          commits = done;
          failed = tt;
          fits = subst F (sym one.new_is)
              (all-then (FitsOf d) one.front one.before one.after one.back has.done.fits
              (subst F one.old_is fits));
          serve = subst S (sym one.new_is)
              (all-then (ServesOf link) one.front one.before one.after one.back
              (has.done.keeps.link ∙ served) (subst S one.old_is serve));
        }

    -- A step without a number leaves the stations as they were.
    pub keeps-same : new ≡ old → (step : A) → did step → KeepsBy d new did fails link (Ok step)
    keeps-same same step done =
        let F : List (Station D) → Type 0 = λ l. All (FitsOf d) l in
        let S : List (Station D) → Type 0 = λ l. All (ServesOf link) l in
        record {
          commits = done;
          failed = tt;
          fits = subst F (sym same) fits;
          serve = subst S (sym same) serve;
        }

    pub keeps-fault : fails → (fault : JournalFault) → KeepsBy d new did fails link (Err fault)
    keeps-fault has fault = record { commits = tt; failed = has; fits = tt; serve = tt }

  pub keeps-committed : (name number start len : ℕ) → HasCommittedAt d old new name number
      → (step : BoxStep StationNote) → step.note ≡ Some (Sealed name number start len)
      → KeepsStations d old new link (Ok step)
  keeps-committed name number start len has step is =
      let P : Option StationNote → Type 0 = λ note. CommitsNoted d old new note in
      keeps-number _ _ name number has step (subst P (sym is) has)

  pub keeps-failed : (name : ℕ) → HasFailedNext d old new name → (fault : JournalFault)
      → KeepsStations d old new link (Err fault)
  keeps-failed name has fault = keeps-fault _ _ (name, has.failed) fault

  pub keeps-left : new ≡ old → (start : ℕ) (why : UnsealedStationWhy) (step : BoxStep StationNote)
      → step.note ≡ Some (Unsealed start why) → KeepsStations d old new link (Ok step)
  keeps-left same start why step is =
      let P : Option StationNote → Type 0 = λ note. CommitsNoted d old new note in
      keeps-same _ _ same step (subst P (sym is) same)

  pub keeps-noteless : new ≡ old → (step : BoxStep StationNote) → step.note ≡ None
      → KeepsStations d old new link (Ok step)
  keeps-noteless same step is =
      let P : Option StationNote → Type 0 = λ note. CommitsNoted d old new note in
      keeps-same _ _ same step (subst P (sym is) same)
