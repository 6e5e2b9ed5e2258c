-- Uptimes over one disk, one after the other. An uptime goes from the loading of a journal to a
-- stop or a crash, which may come at any moment inside it, and leaves an image, on which the next
-- one begins. That the next one finds the slots as they read, and no write that isn't synced yet,
-- is a premise wherever a call is shown to be an uptime.
use Rattle.std.specs.Prelude.{◌≡◌, ℕ, ◌<◌, ◌≤◌, ◌⊎◌, List, [], ◌∷◌, ◌++◌, Some, IfSome, Result}
use Rattle.std.specs.Prelude.{Ok, Err}
use Rattle.yasir_io.specs.Disks.{Slots, LeavesOnly}
use Rattle.yasir_io.specs.declared.disk.SlotDisk.{Ghosts as SlotDisk}
use Rattle.sequence_journal.specs.declared.journal.Journal.{Journal}
use Rattle.sequence_journal.specs.declared.link.LinkId.{LinkId}
use Rattle.sequence_journal.specs.Slots.{floor_of}
use Rattle.sequence_journal.specs.Journal.{journal_link, journal_floor, HasFloorAtLeast}
use Rattle.sequence_journal.specs.Commits.{HasCommitted}

-- Holds if each number is greater than the one before it, and the first is greater than the floor.
abbrev pub RiseFrom : ℕ → List ℕ → Type 0
RiseFrom floor [] = Unit {0}
RiseFrom floor (n ∷ numbers) = (floor < n) × RiseFrom n numbers

-- the last of these numbers, or the floor if there are none
abbrev pub last_from : ℕ → List ℕ → ℕ
last_from floor [] = floor
last_from floor (n ∷ numbers) = last_from n numbers

-- An uptime loads the floor of the slots on which it begins. Before it ends it returns these
-- numbers, which rise from that floor. It leaves an image whose floor isn't below the last of them,
-- or below the loaded floor if there are none.
pub record IsUptime (link : LinkId) (begins : Slots) (numbers : List ℕ) (image : Slots) :
    Type 0 where
  pub floor : ℕ
  pub loads : floor_of link begins ≡ Some floor
  pub rise : RiseFrom floor numbers
  pub leaves : HasFloorAtLeast link (last_from floor numbers) image

-- Holds if the slots have no floor for a link, or one that isn't below n.
abbrev pub HasNoFloorBelow : LinkId → ℕ → Slots → Type 0
HasNoFloorBelow link n slots = IfSome (floor_of link slots) (λ floor. n ≤ floor)

-- An uptime that ends before it has loaded a floor returns no number. For each number, if the slots
-- on which it begins have no floor below that number, neither has the image that it leaves.
pub record IsIdle (link : LinkId) (begins : Slots) (numbers : List ℕ) (image : Slots) :
    Type 0 where
  pub answers_none : numbers ≡ []
  pub leaves : (n : ℕ) → HasNoFloorBelow link n begins → HasNoFloorBelow link n image

-- the numbers that an uptime has returned, and the image that it has left
pub record Uptime : Type 0 where
  pub numbers : List ℕ
  pub image : Slots

-- Holds if these are uptimes over one disk and for one link, some of which may be idle, and each
-- begins on the image that the one before it left.
abbrev pub AreUptimes : LinkId → Slots → List Uptime → Type 0
AreUptimes link begins [] = Unit {0}
AreUptimes link begins (uptime ∷ uptimes) =
    (IsUptime link begins uptime.numbers uptime.image ⊎ IsIdle link begins uptime.numbers
    uptime.image)
    × AreUptimes link uptime.image uptimes

-- the numbers of all uptimes
abbrev pub all_numbers : List Uptime → List ℕ
all_numbers [] = []
all_numbers (uptime ∷ uptimes) = uptime.numbers ++ all_numbers uptimes

-- A commit, or a step of a box: the numbers that it returns, and the disk after it.
pub record Step (D : Type 0) : Type 0 where
  pub numbers : List ℕ
  pub after : D

-- The numbers of what a call returns, or none if it fails.
abbrev pub numbers_answered : {A E : Type 0} → (A → List ℕ) → Result A E → List ℕ
numbers_answered numbers_of (Ok answer) = numbers_of answer
numbers_answered numbers_of (Err fault) = []

-- the numbers that these steps return
abbrev pub answered_in : {D : Type 0} → List (Step D) → List ℕ
answered_in [] = []
answered_in (step ∷ steps) = step.numbers ++ answered_in steps

-- the disk after these steps
abbrev pub disk_after : {D : Type 0} → D → List (Step D) → D
disk_after before [] = before
disk_after before (step ∷ steps) = disk_after step.after steps

module _ {D : Type 0} (disk : SlotDisk D) where
  -- Holds if a step of a box returns one number and has committed it, or returns none and has left
  -- the journal and the disk as they were.
  abbrev pub CommitsAnswered : Journal → Journal → D → D → List ℕ → Type 0
  CommitsAnswered old new before after [] = (new ≡ old) × (after ≡ before)
  CommitsAnswered old new before after (n ∷ []) =
      HasCommitted old new (disk.told before) (disk.told after) (disk.may_leave after) n
  CommitsAnswered old new before after (n ∷ m ∷ more) = ⊥

  -- Holds if a step returns numbers that rise from the floor before it, and a crash at any moment
  -- of it leaves an image whose floor isn't below that floor.
  pub record IsStep (link : LinkId) (floor : ℕ) (before : D) (step : Step D) : Type 0 where
    pub rise : RiseFrom floor step.numbers
    pub any_moment : LeavesOnly disk.moment disk.left_since before step.after
        (HasFloorAtLeast link floor)

  -- Holds if this is a step from the journal's floor on, for the journal's link.
  abbrev pub IsStepOf : Journal → D → Step D → Type 0
  IsStepOf journal before step =
      IsStep (journal_link journal) (journal_floor journal) before step

  -- Holds if these are steps, one after the other, from this floor on.
  abbrev pub AreSteps : LinkId → ℕ → D → List (Step D) → Type 0
  AreSteps link floor before [] = Unit {0}
  AreSteps link floor before (step ∷ steps) = IsStep link floor before step
      × AreSteps link (last_from floor step.numbers) step.after steps

  -- Holds if the uptime ends, after these steps, at a moment inside one more step, before that step
  -- returns. The beginning and the end of that step count as inside. A crash at that moment leaves
  -- the image.
  pub record EndsInside (link : LinkId) (floor : ℕ) (loaded : D) (done : List (Step D))
      (image : Slots) : Type 0 where
    pub last : Step D
    pub are_steps : AreSteps link floor loaded (done ++ last ∷ [])
    pub left : disk.left_since last.after (disk.moment (disk_after loaded done)) image
