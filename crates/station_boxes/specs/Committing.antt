-- How a number of a station is committed, and what a step does to the stations.
use Rattle.std.specs.Prelude.{◌≡◌, ℕ, ◌+◌, ◌<◌, ◌≤◌, Bool, true, false, List, ◌∷◌, ◌++◌, length, Result}
use Rattle.std.specs.Prelude.{OnOk, OnErr, IfOk, All}
use Rattle.yasir_io.specs.declared.disk.SlotDisk.{Ghosts as SlotDisk}
use Rattle.sequence_journal.specs.declared.journal.JournalFault.{JournalFault}
use Rattle.sequence_journal.specs.declared.link.LinkId.{LinkId}
use Rattle.sequence_journal.specs.declared.numbers.TheConstants.{LIMIT}
use Rattle.sequence_journal.specs.Commits.{HasCommitted, HasFailed}
use Rattle.sequence_journal.specs.Journal.{journal_link, journal_floor, IsCrashSafe}
use Rattle.sequence_journal.specs.Journal.{HasFloorFrom}
use Rattle.yasir_io.specs.Causes.{Rose}
use Rattle.yasir_io.specs.Disks.{LeavesOnly}
use Rattle.stations.specs.Table.{has_station, table_floor}
use Rattle.station_boxes.specs.Served.{table_of, FitsOf, ServesOf}
use Rattle.station_boxes.specs.declared.station.Station.{Station}
use Rattle.station_boxes.specs.declared.station.Taken.{Taken}
use Rattle.station_boxes.specs.declared.station.Taken.TheVariants.{Number, Spent, Unlisted}

module _ {D : Type 0} (d : SlotDisk D) where
  -- What a call that commits a number does to a station in any case: nothing but its journal and
  -- its disk changes, and the journal keeps its link. If the journal was crash-safe, it still is, and
  -- a crash at any moment leaves no floor below the one before.
  pub record KeepsStation (before after : Station D) : Type 0 where
    pub name : after.name ≡ before.name
    pub key : after.key ≡ before.key
    pub link : journal_link after.journal ≡ journal_link before.journal
    pub crash_safe : IsCrashSafe before.journal (d.told before.disk) (d.may_leave before.disk)
        → IsCrashSafe after.journal (d.told after.disk) (d.may_leave after.disk)
    pub any_moment : IsCrashSafe before.journal (d.told before.disk) (d.may_leave before.disk)
        → LeavesOnly d.moment d.left_since before.disk after.disk (HasFloorFrom before.journal)

  -- Holds if the station has committed this number, and the disk's count of faults stayed.
  pub record CommitsOne (before after : Station D) (number : ℕ) : Type 0 where
    pub keeps : KeepsStation before after
    pub committed : HasCommitted before.journal after.journal (d.told before.disk)
        (d.told after.disk) (d.may_leave after.disk) number
    pub fits : FitsOf d after
    pub same : d.faults after.disk ≡ d.faults before.disk

  -- Holds if the station has failed to commit this number, and the disk's count of faults rose.
  pub record FailsOne (before after : Station D) (number : ℕ) : Type 0 where
    pub keeps : KeepsStation before after
    pub failed : HasFailed before.journal after.journal (d.told before.disk) (d.told after.disk)
        number
    pub rose : Rose (d.faults before.disk) (d.faults after.disk)

  -- Holds if the station at this place may commit this number.
  pub record MayCommitAt (stations : List (Station D)) (place number : ℕ) : Type 0 where
    pub front : List (Station D)
    pub one : Station D
    pub back : List (Station D)
    pub is : stations ≡ front ++ one ∷ back
    pub at : length front ≡ place
    pub fits : FitsOf d one
    pub rises : journal_floor one.journal < number
    pub within : number ≤ LIMIT

  -- Holds if this station, which stands between these, and no other, was to commit this number.
  pub record CommitsBetween {A : Type 0} (new front : List (Station D)) (before : Station D)
      (back : List (Station D)) (number : ℕ) (result : Result A JournalFault) : Type 0 where
    pub after : Station D
    pub new_is : new ≡ front ++ after ∷ back
    pub done : OnOk result (CommitsOne before after number)
    pub failed : OnErr result (FailsOne before after number)

  -- Holds if the station at this place, and no other, was to commit this number.
  abbrev pub CommitsAt : {A : Type 0} → List (Station D) → List (Station D) → ℕ → ℕ
      → Result A JournalFault → Type 0
  CommitsAt old new place number result =
      (front : List (Station D)) (before : Station D) (back : List (Station D))
      → old ≡ front ++ before ∷ back → length front ≡ place
      → CommitsBetween new front before back number result

  -- Holds if, of all stations, only the first with this name has changed.
  pub record ChangesFirst (old new : List (Station D)) (name : ℕ) : Type 0 where
    pub front : List (Station D)
    pub before : Station D
    pub after : Station D
    pub back : List (Station D)
    pub old_is : old ≡ front ++ before ∷ back
    pub new_is : new ≡ front ++ after ∷ back
    pub named : before.name ≡ name
    pub first : has_station (table_of front) name ≡ false

  -- Holds if the first station with this name has committed this number, and nothing else has
  -- changed.
  pub record HasCommittedAt (old new : List (Station D)) (name number : ℕ) : Type 0 where
    pub one : ChangesFirst old new name
    pub done : CommitsOne one.before one.after number

  -- Holds if the first station with this name has failed to commit this number, and nothing else
  -- has changed.
  pub record HasFailedAt (old new : List (Station D)) (name number : ℕ) : Type 0 where
    pub one : ChangesFirst old new name
    pub failed : FailsOne one.before one.after number

  -- Holds if the first station with this name had a number left, and has failed to commit it, and
  -- nothing else has changed.
  pub record HasFailedNext (old new : List (Station D)) (name : ℕ) : Type 0 where
    pub left : table_floor LIMIT (table_of old) name < LIMIT
    pub failed : HasFailedAt old new name (table_floor LIMIT (table_of old) name + 1)

  -- Holds if the next number of the first station with this name is committed, or it is clear why
  -- not, and nothing has changed.
  abbrev pub HasTakenNumber : List (Station D) → List (Station D) → ℕ → Taken → Type 0
  HasTakenNumber old new name (Number number) =
      (number ≡ table_floor LIMIT (table_of old) name + 1)
      × (table_floor LIMIT (table_of old) name < LIMIT)
      × HasCommittedAt old new name number
  HasTakenNumber old new name Spent =
      (has_station (table_of old) name ≡ true)
      × (table_floor LIMIT (table_of old) name ≡ LIMIT)
      × (new ≡ old)
  HasTakenNumber old new name Unlisted =
      (has_station (table_of old) name ≡ false) × (new ≡ old)

  -- Holds if the first station with this name has committed this number, or, if it is said not to
  -- have done so, the number isn't above its floor, and nothing has changed.
  abbrev pub HasCommittedOrNot : List (Station D) → List (Station D) → ℕ → ℕ → Bool → Type 0
  HasCommittedOrNot old new name number true = HasCommittedAt old new name number
  HasCommittedOrNot old new name number false =
      (number ≤ table_floor LIMIT (table_of old) name) × (new ≡ old)

  -- What a step does to the stations, if `did` says what a step with this answer does, and `fails`
  -- what one that fails does.
  pub record KeepsBy {A : Type 0} (new : List (Station D)) (did : A → Type 0) (fails : Type 0)
      (link : LinkId) (result : Result A JournalFault) : Type 0 where
    -- a step that succeeds has done what its answer says
    pub commits : IfOk result did
    -- one that fails has failed to commit
    pub failed : OnErr result fails
    -- after one that succeeds, each disk is as its journal knows it
    pub fits : OnOk result (All (FitsOf d) new)
    -- and each journal serves the link
    pub serve : OnOk result (All (ServesOf link) new)
