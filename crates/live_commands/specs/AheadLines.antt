-- A box whose numbers go on in memory, and a disk that holds a number ahead of them.
use Rattle.std.specs.Prelude.{◌≡◌, ℕ, ◌+◌, ◌≤◌, List, Option, None, IfSome, Result, OnOk, OnErr}
use Rattle.yasir_io.specs.Causes.{HasCause}
use Rattle.yasir_io.specs.Disks.{Slots, LeavesOnly}
use Rattle.yasir_io.specs.declared.disk.SlotDisk.{Ghosts as SlotDisk}
use Rattle.yasir_ticks.specs.declared.tick.Tick.{Tick}
use Rattle.sequence_journal.specs.declared.journal.JournalFault.{JournalFault}
use Rattle.sequence_journal.specs.declared.link.LinkId.{LinkId}
use Rattle.sequence_journal.specs.declared.journal.Journal.{Journal}
use Rattle.sequence_journal.specs.Journal.{Fits, IsCrashSafe, HasFloorFrom, HasFloorAtLeast}
use Rattle.sequence_journal.specs.Late.{disk_floor, disk_journal, HasFloorBetween}
use Rattle.sequence_journal.specs.Ahead.{ahead_disk, ahead_link, ahead_floor, ahead_number, ahead_by}
use Rattle.sequence_journal.specs.Ahead.{StandsAhead}
use Rattle.link_format.specs.Setup.{Setup}
use Rattle.link_box.specs.declared.box_trait.LinkBox.{Ghosts as LinkBox}
use Rattle.line_texts.specs.Adding.{TextHasRoom, HasLineRoom, ClosesText}
use Rattle.line_texts.specs.Sending.{Waiting}
use Rattle.line_texts.specs.declared.texts.Texts.{Texts}
use Rattle.line_commands.specs.BoxLines as memory
use Rattle.live_commands.specs.declared.ahead_lines.AheadLines.{AheadLines}

-- the box itself
abbrev pub box_in : {B : Type 0} → AheadLines B → B
box_in at = memory.box_in at.lines

-- what waits to be handed on
abbrev pub waits_in : {B : Type 0} → AheadLines B → Waiting
waits_in at = memory.waits_in at.lines

-- the texts that are made of the box's line
abbrev pub texts_at : {B : Type 0} → AheadLines B → Texts
texts_at at = memory.texts_at at.lines

-- the last number that the box has used
abbrev pub number_in : {B : Type 0} → AheadLines B → ℕ
number_in at = memory.number_in at.lines

-- the last number for which the disk was settled
abbrev pub settled_in : {B : Type 0} → AheadLines B → ℕ
settled_in at = disk_floor (memory.late_in at.lines)

-- the journal as the disk holds it
abbrev pub disk_in : {B : Type 0} → AheadLines B → Journal
disk_in at = ahead_disk at.kept

-- the link of that journal
abbrev pub link_in : {B : Type 0} → AheadLines B → LinkId
link_in at = ahead_link at.kept

-- the floor of the disk
abbrev pub floor_in : {B : Type 0} → AheadLines B → ℕ
floor_in at = ahead_floor at.kept

-- how far the floor of the disk may be above the last number used
abbrev pub most_in : {B : Type 0} → AheadLines B → ℕ
most_in at = ahead_by at.kept

-- The floor of the disk is from the last number for which it was settled to `most_in` above it.
pub record IsAhead {B : Type 0} (at : AheadLines B) : Type 0 where
  pub level : ahead_number at.kept ≡ settled_in at
  pub covers : settled_in at ≤ floor_in at
  pub within : floor_in at ≤ settled_in at + most_in at

module _ {B N : Type 0} (b : LinkBox B N) (line_of : N → List ℕ) where
  -- the box has taken this line over its journal in memory
  abbrev pub StandsAfter : AheadLines B → Setup → List Tick → Type 0
  StandsAfter at setup line = memory.StandsAfter b line_of at.lines setup line

  -- A box that may take ticks: there is room for what a few of them make, its journal in memory has
  -- no fault, and the disk is the one that the journal knows.
  pub record MayDrive (at : AheadLines B) (told : Option Slots) : Type 0 where
    pub ready : memory.BoxLinesAreReady b line_of at.lines
    pub room : TextHasRoom (texts_at at)
    pub fits : Fits (disk_journal (memory.late_in at.lines)) None
    pub ahead : IsAhead at
    pub stands : StandsAhead at.kept told

  -- A box whose texts may be handed on: there is room for the line that isn't filled, its journal in
  -- memory has no fault, and the disk is the one that the journal knows.
  pub record MayHandOn (at : AheadLines B) (told : Option Slots) : Type 0 where
    pub ready : memory.BoxLinesAreReady b line_of at.lines
    pub line_room : HasLineRoom (texts_at at)
    pub fits : Fits (disk_journal (memory.late_in at.lines)) None
    pub ahead : IsAhead at
    pub stands : StandsAhead at.kept told

  -- the box has taken the first `count` of these ticks in memory, and the disk is as it was
  pub record TakesSome (old new : AheadLines B) (run : List Tick) (count : ℕ) : Type 0 where
    pub takes : memory.TakesSome b line_of old.lines new.lines run count
    pub kept : new.kept ≡ old.kept

  -- Nothing waits any more, and all else is as it was.
  pub record Empties (old new : AheadLines B) : Type 0 where
    pub empties : memory.Empties b line_of old.lines new.lines
    pub kept : new.kept ≡ old.kept

module _ {B N D : Type 0} (b : LinkBox B N) (line_of : N → List ℕ) (d : SlotDisk D) where
  -- The floor of the disk is brought to the last number used, or to a number ahead of it, and then
  -- the line that isn't filled was added to the text that waits.
  pub record IsSettled (old new : AheadLines B) (now : D) : Type 0 where
    pub ready : memory.BoxLinesAreReady b line_of new.lines
    pub fits : Fits (disk_journal (memory.late_in new.lines)) None
    pub settled : settled_in new ≡ number_in old
    pub ahead : IsAhead new
    pub stands : StandsAhead new.kept (d.told now)
    pub closes : ClosesText (waits_in old) (waits_in new)

  -- The disk was settled, or it failed: then its floor is between the one before and the number
  -- that was to be written.
  pub record Settles (old new : AheadLines B) (before now : D)
      (result : Result (Unit {0}) JournalFault) : Type 0 where
    pub taken : b.taken (box_in new) ≡ b.taken (box_in old)
    pub stood : (setup : Setup) (line : List Tick) → StandsAfter b line_of old setup line
        → StandsAfter b line_of new setup line
    pub number : number_in new ≡ number_in old
    pub link : link_in new ≡ link_in old
    pub most : most_in new ≡ most_in old
    pub rises : settled_in old ≤ settled_in new
    pub not_below : floor_in old ≤ floor_in new
    pub is_kept : IsCrashSafe (disk_in old) (d.told before) (d.may_leave before)
        → IsCrashSafe (disk_in new) (d.told now) (d.may_leave now)
    pub any_moment : IsCrashSafe (disk_in old) (d.told before) (d.may_leave before)
        → LeavesOnly d.moment d.left_since before now (HasFloorFrom (disk_in old))
    pub cause : HasCause (d.faults before) (d.faults now) result
    pub ok : OnOk result (IsSettled old new now)
    pub failed : OnErr result (IfSome (d.told now) (HasFloorBetween (link_in old) (floor_in old)
        (number_in old + most_in old)))

  -- The floor of the disk was brought down to the last number used, or the disk failed on the way.
  pub record Lowers (old new : AheadLines B) (before now : D)
      (result : Result (Unit {0}) JournalFault) : Type 0 where
    pub lines : new.lines ≡ old.lines
    pub number : ahead_number new.kept ≡ ahead_number old.kept
    pub link : link_in new ≡ link_in old
    pub most : most_in new ≡ most_in old
    pub not_below : settled_in old ≤ floor_in new
    pub is_kept : IsCrashSafe (disk_in old) (d.told before) (d.may_leave before)
        → IsCrashSafe (disk_in new) (d.told now) (d.may_leave now)
    pub any_moment : IsCrashSafe (disk_in old) (d.told before) (d.may_leave before)
        → LeavesOnly d.moment d.left_since before now
        (HasFloorAtLeast (link_in old) (settled_in old))
    pub cause : HasCause (d.faults before) (d.faults now) result
    pub lowered : OnOk result (floor_in new ≡ settled_in old)
    pub stands : OnOk result (StandsAhead new.kept (d.told now))
    pub failed : OnErr result (IfSome (d.told now) (HasFloorBetween (link_in old) (settled_in old)
        (floor_in old)))
