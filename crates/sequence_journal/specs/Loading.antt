-- How a journal is loaded, and how one is taken over from old slots.
use Rattle.std.specs.Prelude.{◌≡◌, ℕ, ◌≤◌, ◌⊎◌, List, Option, Some, None, IfSome}
use Rattle.yasir_io.specs.declared.disk.Slot.{Slot}
use Rattle.yasir_io.specs.declared.disk.Slot.TheVariants.{A}
use Rattle.yasir_io.specs.Causes.{Rose}
use Rattle.yasir_io.specs.Disks.{Slots, slot_in, NoMore, OneImage}
use Rattle.sequence_journal.specs.declared.journal.Journal.{Journal}
use Rattle.sequence_journal.specs.declared.journal.LoadError.{LoadError}
use Rattle.sequence_journal.specs.declared.journal.LoadError.TheVariants as Load
use Rattle.sequence_journal.specs.declared.link.LinkId.{LinkId}
use Rattle.sequence_journal.specs.declared.numbers.TheConstants.{LIMIT}
use Rattle.sequence_journal.specs.declared.slots.AllSlots.{AllSlots}
use Rattle.sequence_journal.specs.declared.slots.Standing.{Standing}
use Rattle.sequence_journal.specs.declared.slots.Standing.TheVariants.{Kept, OfAnother, Old, Blank}
use Rattle.sequence_journal.specs.Slots.{slot_bytes, greater, own_floor, any_floor, old_floor}
use Rattle.sequence_journal.specs.Slots.{place_of_greater, floor_of, floor_slot, wrong_slot}
use Rattle.sequence_journal.specs.Journal.{journal_link, journal_floor, IsBut, HasFloorAtLeast}
use Rattle.sequence_journal.specs.Journal.{told_with}

-- all slots, as they were read
abbrev pub slots_read : AllSlots → Slots
slots_read read =
    record { a = read.a; b = read.b; old = record { a = read.old_a; b = read.old_b } }

-- Holds if these are the slots, or if the slots aren't told.
abbrev pub AreRead : Option Slots → Slots → Type 0
AreRead told read = IfSome told (λ slots. slots ≡ read)

-- Holds if the result is the greater of two numbers, at most `LIMIT`, and its slot, or `None` if
-- there is no number.
abbrev pub IsGreaterOf : Option ℕ → Option ℕ → Option (ℕ × Slot) → Type 0
IsGreaterOf a b None = (greater a b ≡ None) × (place_of_greater a b ≡ None)
IsGreaterOf a b (Some found) = (greater a b ≡ Some found.0)
    × (place_of_greater a b ≡ Some found.1) × (found.0 ≤ LIMIT)

-- Holds if the slots are those of a journal that isn't taken over yet: slots A and B hold no
-- number, and n is the greatest that the old slots hold.
pub record IsOld (n : ℕ) (slots : Slots) : Type 0 where
  pub none : any_floor slots ≡ None
  pub number : old_floor slots ≡ Some n

-- Holds if the slots hold for a link what the `Standing` says.
abbrev pub StandsAs : LinkId → Slots → Standing → Type 0
StandsAs link slots (Kept floor kept) =
    (floor_of link slots ≡ Some floor) × (floor_slot link slots ≡ Some kept) × (floor ≤ LIMIT)
StandsAs link slots (OfAnother slot) = wrong_slot link slots ≡ Some slot
StandsAs link slots (Old n) = IsOld n slots × (own_floor link slots ≡ None) × (n ≤ LIMIT)
StandsAs link slots Blank = (any_floor slots ≡ None) × (old_floor slots ≡ None)

-- Holds if a number may be written into slot A for a link: slots A and B hold none for it, and the
-- old slots hold none that is greater. The number will be the floor, and slot A will keep it.
pub record MayBegin (link : LinkId) (n : ℕ) (slots : Slots) : Type 0 where
  pub none : own_floor link slots ≡ None
  pub greatest : greater (Some n) (old_floor slots) ≡ Some n

-- What loading a floor does to the disk. If the slots held a number for the link, nothing is
-- written. Otherwise the journal is taken over: the floor is written into slot A and synced.
abbrev pub LeavesLoaded : Option ℕ → LinkId → ℕ → Option Slots → Option Slots → (Slots → Type 0)
    → (Slots → Type 0) → Type 0
LeavesLoaded (Some own) link floor told_old told_new images_old images_new =
    (told_new ≡ told_old) × NoMore images_old images_new × NoMore images_new images_old
LeavesLoaded None link floor told_old told_new images_old images_new =
    (told_new ≡ told_with told_old A (slot_bytes floor link)) × OneImage told_new images_new

-- Holds if a journal was loaded: it serves the link, its floor is that of the slots as they were
-- read, and the disk is as `LeavesLoaded` says.
pub record IsLoaded (link : LinkId) (told_old told_new : Option Slots)
    (images_old images_new : Slots → Type 0) (journal : Journal) : Type 0 where
  pub read : Slots
  pub are_read : AreRead told_old read
  pub link_is : journal_link journal ≡ link
  pub floor : floor_of link read ≡ Some (journal_floor journal)
  pub leaves : LeavesLoaded (own_floor link read) link (journal_floor journal) told_old told_new
      images_old images_new

-- Holds if the slots are as they were, or if the number of a journal that wasn't taken over yet was
-- written into slot A.
abbrev pub MayTakeOver : LinkId → Option Slots → Option Slots → Type 0
MayTakeOver link old new = (new ≡ old)
    ⊎ ((n : ℕ) × IfSome old (IsOld n) × (new ≡ told_with old A (slot_bytes n link)))

-- Holds if these are slots A and B as they were read, and neither they nor the old slots hold a
-- number.
pub record FindsNone (told : Option Slots) (a b : List ℕ) : Type 0 where
  pub read : Slots
  pub are_read : AreRead told read
  pub a_is : a ≡ read.a
  pub b_is : b ≡ read.b
  pub none : any_floor read ≡ None
  pub none_old : old_floor read ≡ None

-- Holds if the slots as they were read hold numbers for other links only, and this is the slot with
-- the greatest.
pub record FindsOther (link : LinkId) (told : Option Slots) (slot : List ℕ) : Type 0 where
  pub read : Slots
  pub are_read : AreRead told read
  pub place : Slot
  pub wrong : wrong_slot link read ≡ Some place
  pub slot_is : slot ≡ slot_in read place

-- Why a journal isn't loaded: a call failed, or no slot holds a number, or none holds one for this
-- link but one does for another link.
abbrev pub RefusesLoad : LinkId → Option Slots → Option Slots → ℕ → ℕ → LoadError → Type 0
RefusesLoad link old new before now Load.Fault = Rose before now × MayTakeOver link old new
RefusesLoad link old new before now (Load.Bad a b) =
    FindsNone old a b × (new ≡ old) × (now ≡ before)
RefusesLoad link old new before now (Load.WrongLink slot) =
    FindsOther link old slot × (new ≡ old) × (now ≡ before)

-- Holds if a fault refused the load, or if a crash may leave exactly what it might have left
-- before: a load that is refused without a fault writes nothing.
abbrev pub IsUntouched : (Slots → Type 0) → (Slots → Type 0) → LoadError → Type 0
IsUntouched old new Load.Fault = Unit {0}
IsUntouched old new (Load.Bad a b) = NoMore old new × NoMore new old
IsUntouched old new (Load.WrongLink slot) = NoMore old new × NoMore new old

-- What a crash while a journal is being loaded may leave: an image that a crash before the load
-- might have left or, if an old journal is being taken over, one that differs from such an image in
-- at most slot A.
abbrev pub MayLeaveLoading : Option Slots → (Slots → Type 0) → Slots → Type 0
MayLeaveLoading told images c =
    images c ⊎ (IfSome told (λ slots. (n : ℕ) × IsOld n slots) × IsBut A images c)

-- What a crash leaves while slots with this floor are being loaded. The image has a floor that
-- isn't below this one or, if an old journal was being taken over, its slot A, which was being
-- written, holds a number for another link.
abbrev pub KeepsLoadable : LinkId → Slots → ℕ → Slots → Type 0
KeepsLoadable link slots floor c = HasFloorAtLeast link floor c
    ⊎ (IsOld floor slots × (wrong_slot link c ≡ Some A))
