-- A box that filters a live line.
use Rattle.std.specs.Prelude.{◌≡◌, ℕ, ◌+◌, ◌≤◌, List, [], ◌++◌, Option, IfSome, Result, OnOk}
use Rattle.std.specs.Prelude.{IfErr, Bool, true, false}
use Rattle.yasir_io.specs.Causes.{Rose}
use Rattle.yasir_io.specs.Disks.{Slots, LeavesOnly}
use Rattle.yasir_io.specs.declared.disk.SlotDisk.{Ghosts as SlotDisk}
use Rattle.yasir_ticks.specs.Ticks.{Item, ticks_in}
use Rattle.yasir_ticks.specs.declared.tick.Tick.{Tick}
use Rattle.sequence_journal.specs.declared.link.LinkId.{LinkId}
use Rattle.sequence_journal.specs.Journal.{IsCrashSafe, HasFloorFrom}
use Rattle.sequence_journal.specs.Ahead.{StandsAhead}
use Rattle.sequence_journal.specs.Late.{HasFloorBetween}
use Rattle.link_format.specs.Setup.{Setup}
use Rattle.link_box.specs.declared.box_trait.LinkBox.{Ghosts as LinkBox}
use Rattle.tick_drive.specs.Consumers.{Consuming, IsDiskCause, is_journal_fault, is_write_fault}
use Rattle.tick_drive.specs.declared.consumer.Stop.{Stop}
use Rattle.tick_drive.specs.declared.consumer.Stop.TheVariants.{WriteFault, JournalFault}
use Rattle.tick_drive.specs.declared.consumer.Stop.TheVariants.{NoMemory}
use Rattle.line_texts.specs.Adding.{Waits}
use Rattle.line_texts.specs.Sending.{LineAndNotes, AnswersNoted}
use Rattle.line_commands.specs.Boxes.{Boxed}
use Rattle.line_commands.specs.BoxLines.{ToldFloor}
use Rattle.line_commands.specs.LinkBoxed.{boxed_of}
use Rattle.line_commands.specs.Sending.{made_by}
use Rattle.line_commands.specs.History.{History}
use Rattle.line_commands.specs.Order.{Handed, HandedFronts}
use Rattle.line_commands.specs.declared.port.Output.{Output}
use Rattle.line_commands.specs.declared.port.Port.{Ghosts as Port}
use Rattle.live_commands.specs.AheadLines.{StandsAfter, MayDrive, IsAhead, box_in, waits_in}
use Rattle.live_commands.specs.AheadLines.{number_in, settled_in, disk_in, link_in, floor_in, most_in}
use Rattle.live_commands.specs.declared.ahead_lines.AheadLines.{AheadLines}

-- how the history began, what was read since, the link of the box's journal, and the setup of the
-- box
pub record LiveOrigin : Type 0 where
  pub start : History
  pub read : List ℕ
  pub link : LinkId
  pub setup : Setup

-- a box with its journal and its texts, the port that it reads from and writes to, and the disk
pub record Outside (B P D : Type 0) : Type 0 where
  pub lines : AheadLines B
  pub port : P
  pub disk : D

-- the record with this box, port and disk
abbrev pub outside : {B P D : Type 0} → AheadLines B → P → D → Outside B P D
outside lines port disk = record { lines = lines; port = port; disk = disk }

-- Nothing waits to be handed on, and the disk was settled for the last number that the box has used.
pub record IsClear {B : Type 0} (lines : AheadLines B) (slots : Option Slots) : Type 0 where
  pub waits : Waits (waits_in lines) [] []
  pub settled : settled_in lines ≡ number_in lines
  pub ahead : IsAhead lines
  pub stands : StandsAhead lines.kept slots

-- A box, and the lines of its notes.
module _ {B N : Type 0} (b : LinkBox B N) (line_of : N → List ℕ) where
  -- the box with the setup of an origin
  abbrev pub box_at : LiveOrigin → Boxed
  box_at origin = boxed_of b.walking line_of origin.setup

  -- the texts that this box makes of a line: the other line, and the notes
  abbrev pub made_at : LiveOrigin → LineAndNotes
  made_at origin = made_by (box_at origin)

  -- What the box makes of the first ticks of a line, `early`, is handed on, and the disk was settled
  -- for the last number that it used for these. What it makes of the others waits.
  pub record HandsOver (lines : AheadLines B) (history : History) (origin : LiveOrigin)
      (line : List Tick) : Type 0 where
    pub early : List Tick
    pub later : List Tick
    pub is : line ≡ early ++ later
    pub handed : Handed (made_at origin) origin.start history origin.read early
    pub settled : settled_in lines ≡ (box_at origin).number early
    pub answer : List Tick
    pub note : List ℕ
    pub noted : AnswersNoted (made_at origin) early later answer note
    pub waits : Waits (waits_in lines) answer note

  -- Holds if the box has taken the ticks of these items, and what it makes of them is handed on or
  -- waits.
  pub record Filters (lines : AheadLines B) (history : History) (slots : Option Slots)
      (origin : LiveOrigin) (items : List Item) : Type 0 where
    pub stood : StandsAfter b line_of lines origin.setup (ticks_in items)
    pub over : HandsOver lines history origin (ticks_in items)
    pub link_is : link_in lines ≡ origin.link
    pub floor_told : ToldFloor origin.link (floor_in lines) slots

  -- Holds if a settle failed after the box had taken the last of these items. What it makes of the
  -- first ticks, `early`, was handed on before, and nothing since. The slots have a floor from the
  -- last number used for these to the number that was to be written.
  pub record StopsAtSettle (lines : AheadLines B) (history : History)
      (slots : Option Slots) (origin : LiveOrigin) (items : List Item) : Type 0 where
    pub early : List Tick
    pub later : List Tick
    pub is : ticks_in items ≡ early ++ later
    pub handed : Handed (made_at origin) origin.start history origin.read early
    pub link_is : link_in lines ≡ origin.link
    pub not_below : (box_at origin).number early ≤ floor_in lines
    pub floor_told : IfSome slots (HasFloorBetween origin.link ((box_at origin).number early)
        ((box_at origin).number (ticks_in items) + most_in lines))

  -- Holds if a write failed after the box had taken the last of these items and the disk was
  -- settled.
  pub record StopsAtWrite (lines : AheadLines B) (history : History)
      (slots : Option Slots) (origin : LiveOrigin) (items : List Item) : Type 0 where
    pub fronts : HandedFronts (made_at origin) origin.start history origin.read (ticks_in items)
    pub link_is : link_in lines ≡ origin.link
    pub not_below : (box_at origin).number (ticks_in items) ≤ floor_in lines
    pub within : floor_in lines ≤ (box_at origin).number (ticks_in items) + most_in lines
    pub floor_told : ToldFloor origin.link (floor_in lines) slots

  -- why a box was stopped at the last of these items; never for lack of memory, since it takes none
  abbrev pub StopsFilter : AheadLines B → History → Option Slots → Stop → LiveOrigin
      → List Item → Type 0
  StopsFilter lines history slots JournalFault origin items =
      StopsAtSettle lines history slots origin items
  StopsFilter lines history slots WriteFault origin items =
      StopsAtWrite lines history slots origin items
  StopsFilter lines history slots NoMemory origin items = ⊥

module _ {P : Type 0} (p : Port P) where
  -- Holds if some output's count of faults rose when an output is the cause, and no such count
  -- changed when none is.
  pub record OutputCause (old new : P) (is_cause : Bool) : Type 0 where
    pub same : is_cause ≡ false → (to : Output) → p.write_faults new to ≡ p.write_faults old to
    pub failed : is_cause ≡ true
        → (to : Output) × Rose (p.write_faults old to) (p.write_faults new to)

  -- Holds if calls that read nothing left the input as it was, and some output's count of faults
  -- rose when an output is the cause.
  pub record PortCause (old new : P) (is_cause : Bool) : Type 0 where
    pub left_same : p.left new ≡ p.left old
    pub read_same : p.read_faults new ≡ p.read_faults old
    pub outputs : OutputCause old new is_cause

module _ {B P D : Type 0} (p : Port P) (d : SlotDisk D) where
  -- What holds of the disk's images at any moment of a call and after it, whether the box stopped
  -- or not: no image has a floor below the disk's. The journal serves the same link, and neither the
  -- disk's floor nor the last number for which it was settled falls.
  pub record KeepsImages (old new : Outside B P D) : Type 0 where
    pub link : link_in new.lines ≡ link_in old.lines
    pub most : most_in new.lines ≡ most_in old.lines
    pub settles : settled_in old.lines ≤ settled_in new.lines
    pub rises : floor_in old.lines ≤ floor_in new.lines
    pub is_kept : IsCrashSafe (disk_in old.lines) (d.told old.disk) (d.may_leave old.disk)
        → IsCrashSafe (disk_in new.lines) (d.told new.disk) (d.may_leave new.disk)
    pub any_moment : IsCrashSafe (disk_in old.lines) (d.told old.disk) (d.may_leave old.disk)
        → LeavesOnly d.moment d.left_since old.disk new.disk (HasFloorFrom (disk_in old.lines))

  -- What calls do to the disk's images and to the counts of faults, if the last of them returned
  -- `result`.
  pub record GoesOn (old new : Outside B P D) (result : Result (Unit {0}) Stop) : Type 0 where
    pub images : KeepsImages old new
    pub disk : IsDiskCause (d.faults old.disk) (d.faults new.disk) (is_journal_fault result)
    pub port : PortCause p old.port new.port (is_write_fault result)

module _ {B N P D : Type 0} (b : LinkBox B N) (line_of : N → List ℕ) (p : Port P) (d : SlotDisk D)
  where
    -- What a filter promises as a consumer.
    abbrev pub filtering : Consuming (Outside B P D)
    filtering = record {
      Origin = LiveOrigin;
      stands = λ at origin. Filters b line_of at.lines (p.history at.port) (d.told at.disk) origin;
      stopped = λ at stop origin.
          StopsFilter b line_of at.lines (p.history at.port) (d.told at.disk) stop origin;
      taken = λ at. b.taken (box_in at.lines);
      able = λ at. MayDrive b line_of at.lines (d.told at.disk);
      went = GoesOn p d;
    }

    -- Holds if all that waited was handed on: the disk was settled, then the notes
    -- were written and flushed, and then the text. The box has taken no tick.
    pub record HandsOn (old new : Outside B P D) (result : Result (Unit {0}) Stop) : Type 0 where
      pub filters : OnOk result ((origin : LiveOrigin) (items : List Item)
          → filtering.stands old origin items → filtering.stands new origin items)
      pub clear : OnOk result (IsClear new.lines (d.told new.disk))
      pub stopped : IfErr result (λ stop. (origin : LiveOrigin) (items : List Item)
          → filtering.stands old origin items → filtering.stopped new stop origin items)
      pub able : OnOk result (filtering.able new)
      pub taken : filtering.taken new ≡ filtering.taken old
      pub went : GoesOn p d old new result
