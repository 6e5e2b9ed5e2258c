-- What one way of a live line makes of its ticks, with its journal, as it waits to be handed on.
use Rattle.std.specs.Prelude.{◌≡◌, ℕ, ◌+◌, ◌≤◌, List, [], ◌∷◌, ◌++◌, Option, IfSome, Result, OnOk}
use Rattle.std.specs.Prelude.{OnErr, IfErr, Bool, true, false}
use Rattle.yasir_io.specs.Causes.{HasCause, Rose}
use Rattle.yasir_io.specs.Disks.{Slots, LeavesOnly}
use Rattle.yasir_io.specs.declared.disk.SlotDisk.{Ghosts as SlotDisk}
use Rattle.yasir_ticks.specs.declared.tick.Tick.{Tick}
use Rattle.link_format.specs.Setup.{Setup}
use Rattle.sequence_journal.specs.declared.journal.Journal.{Journal}
use Rattle.sequence_journal.specs.declared.link.LinkId.{LinkId}
use Rattle.sequence_journal.specs.Ahead.{ahead_disk, ahead_link, ahead_floor, ahead_number, ahead_by}
use Rattle.sequence_journal.specs.Ahead.{StandsAhead}
use Rattle.sequence_journal.specs.declared.ahead.AheadJournal.{AheadJournal}
use Rattle.sequence_journal.specs.Journal.{IsCrashSafe, HasFloorFrom, HasFloorAtLeast}
use Rattle.sequence_journal.specs.declared.journal.JournalFault.{JournalFault as Fault}
use Rattle.sequence_journal.specs.Late.{HasFloorBetween}
use Rattle.tick_drive.specs.Consumers.{IsDiskCause, is_journal_fault, is_write_fault}
use Rattle.tick_drive.specs.declared.consumer.Stop.{Stop}
use Rattle.tick_drive.specs.declared.consumer.Stop.TheVariants.{WriteFault, JournalFault, NoMemory}
use Rattle.line_texts.specs.Adding.{TextHasRoom, HasLineRoom, Waits, ClosesText}
use Rattle.line_texts.specs.Sending.{LineAndNotes, Waiting, AnswersNoted}
use Rattle.line_texts.specs.Texts.{waiting_in}
use Rattle.line_commands.specs.History.{History}
use Rattle.line_commands.specs.declared.port.Output.{Output}
use Rattle.line_commands.specs.declared.port.Port.{Ghosts as Port}
use Rattle.live_line.specs.BothWays.{grown, HandedBoth, HandedBothFronts}
use Rattle.live_line.specs.WayText.{AreEnded}
use Rattle.live_line.specs.declared.way_box.WayBox.{Ghosts as WayBox}
use Rattle.live_line.specs.declared.way_lines.WayLines.{WayLines}
use Rattle.live_line.specs.declared.ways.Way.{Way}

-- the box of a way
abbrev pub way_in : {X : Type 0} → WayLines X → X
way_in at = at.way_box

-- the journal of the numbers of a way
abbrev pub kept_in : {X : Type 0} → WayLines X → AheadJournal
kept_in at = at.kept

-- what waits to be handed on
abbrev pub waits_in : {X : Type 0} → WayLines X → Waiting
waits_in at = waiting_in at.texts

-- the last number for which the disk was settled
abbrev pub settled_in : {X : Type 0} → WayLines X → ℕ
settled_in at = ahead_number at.kept

-- the journal as the disk holds it
abbrev pub disk_in : {X : Type 0} → WayLines X → Journal
disk_in at = ahead_disk at.kept

-- the link of that journal
abbrev pub link_in : {X : Type 0} → WayLines X → LinkId
link_in at = ahead_link at.kept

-- the floor of the disk
abbrev pub floor_in : {X : Type 0} → WayLines X → ℕ
floor_in at = ahead_floor at.kept

-- how far the floor of the disk may be above the last number used
abbrev pub most_in : {X : Type 0} → WayLines X → ℕ
most_in at = ahead_by at.kept

-- the disk is as the journal knows it
abbrev pub StandsOver : {X : Type 0} → WayLines X → Option Slots → Type 0
StandsOver at told = StandsAhead at.kept told

-- The floor of the disk is from the last number for which it was settled to `most_in` above it.
pub record IsAhead {X : Type 0} (at : WayLines X) : Type 0 where
  pub covers : settled_in at ≤ floor_in at
  pub within : floor_in at ≤ settled_in at + most_in at

module _ {P : Type 0} (p : Port P) where
  -- Nothing was read. If an output is the cause of a fault, some output's count of faults rose, and
  -- if none is, no such count changed.
  pub record PortKept (old new : P) (is_cause : Bool) : Type 0 where
    pub left_same : p.left new ≡ p.left old
    pub read_same : p.read_faults new ≡ p.read_faults old
    pub same : is_cause ≡ false → (to : Output) → p.write_faults new to ≡ p.write_faults old to
    pub failed : is_cause ≡ true
        → (to : Output) × Rose (p.write_faults old to) (p.write_faults new to)

module _ {D : Type 0} (d : SlotDisk D) where
  -- What calls do to a journal and to the images of its disk, whether they failed or not.
  pub record KeepsImages (old new : AheadJournal) (before now : D) : Type 0 where
    pub link : ahead_link new ≡ ahead_link old
    pub most : ahead_by new ≡ ahead_by old
    pub settles : ahead_number old ≤ ahead_number new
    pub rises : ahead_floor old ≤ ahead_floor new
    pub is_kept : IsCrashSafe (ahead_disk old) (d.told before) (d.may_leave before)
        → IsCrashSafe (ahead_disk new) (d.told now) (d.may_leave now)
    pub any_moment : IsCrashSafe (ahead_disk old) (d.told before) (d.may_leave before)
        → LeavesOnly d.moment d.left_since before now (HasFloorFrom (ahead_disk old))

module _ {X : Type 0} (x : WayBox X) where
  -- It may take ticks: there is room for what a few of them make.
  pub record MayTake (at : WayLines X) : Type 0 where
    pub ready : x.ready at.way_box
    pub room : TextHasRoom at.texts
    pub ended : AreEnded (waits_in at).notes
    pub level : settled_in at ≤ x.number at.way_box

  -- What waits may be handed on: there is room for the line that isn't filled.
  pub record MayHandOn (at : WayLines X) : Type 0 where
    pub ready : x.ready at.way_box
    pub line_room : HasLineRoom at.texts
    pub ended : AreEnded (waits_in at).notes
    pub level : settled_in at ≤ x.number at.way_box

  -- It began with this setup and has taken this line. The disk was settled for the last number that
  -- it used for the first ticks, `early`. What it makes of the others waits.
  pub record HasTakenOn (at : WayLines X) (setup : Setup) (early line : List Tick) : Type 0 where
    pub stood : x.stands at.way_box setup line
    pub settled : settled_in at ≡ x.number_for setup early
    pub later : List Tick
    pub is : line ≡ early ++ later
    pub answer : List Tick
    pub note : List ℕ
    pub noted : AnswersNoted (x.made setup) early later answer note
    pub waits : Waits (waits_in at) answer note

  -- It has taken one more tick, in memory alone.
  pub record TakesTick (old new : WayLines X) (t : Tick) : Type 0 where
    pub counted : x.taken new.way_box ≡ x.taken old.way_box + 1
    pub kept : new.kept ≡ old.kept
    pub may : MayHandOn new
    pub takes : (setup : Setup) (early line : List Tick) → HasTakenOn old setup early line
        → HasTakenOn new setup early (line ++ t ∷ [])

module _ {X D : Type 0} (x : WayBox X) (d : SlotDisk D) where
  -- The floor of the disk is brought to the last number used, or to a number ahead of it, and then
  -- the line that isn't filled was added to the text that waits. No crash leaves a floor below the
  -- last number used.
  pub record IsSettled (old new : WayLines X) (before now : D) : Type 0 where
    pub settled : settled_in new ≡ x.number old.way_box
    pub ahead : IsAhead old → IsAhead new
    pub reached : settled_in new ≤ floor_in new
    pub stands : StandsOver new (d.told now)
    pub image : IsCrashSafe (disk_in old) (d.told before) (d.may_leave before) → (c : Slots)
        → d.may_leave now c → HasFloorAtLeast (link_in old) (settled_in new) c
    pub closes : ClosesText (waits_in old) (waits_in new)

  -- The disk was settled, or it failed: then its floor is between the one before and the number
  -- that was to be written. The box has taken no tick.
  pub record Settles (old new : WayLines X) (before now : D)
      (result : Result (Unit {0}) Fault) : Type 0 where
    pub same : new.way_box ≡ old.way_box
    pub images : KeepsImages d (kept_in old) (kept_in new) before now
    pub cause : HasCause (d.faults before) (d.faults now) result
    pub ok : OnOk result (IsSettled old new before now)
    pub failed : OnErr result (IfSome (d.told now) (HasFloorBetween (link_in old) (floor_in old)
        (x.number old.way_box + most_in old)))

-- one way, the port, and the disk of that way's journal
pub record WayOutside (X P D : Type 0) : Type 0 where
  pub lines : WayLines X
  pub port : P
  pub disk : D

abbrev pub way_outside : {X P D : Type 0} → WayLines X → P → D → WayOutside X P D
way_outside lines port disk = record { lines = lines; port = port; disk = disk }

module _ {X P D : Type 0} (x : WayBox X) (p : Port P) (d : SlotDisk D) (way : Way) where
  -- What is made of the ticks that waited was handed on.
  pub record HandedOn (at : WayOutside X P D) (made : Way → LineAndNotes) (start : History)
      (read : List ℕ) (early : Way → List Tick) (setup : Setup) (line : List Tick) : Type 0 where
    pub later : List Tick
    pub is : line ≡ early way ++ later
    pub handed : HandedBoth made start (p.history at.port) read (grown early way later)
    pub taken : HasTakenOn x at.lines setup line line

  -- A write or a flush failed: each output has got a front. The disk was settled before.
  pub record HandedFronts (at : WayOutside X P D) (made : Way → LineAndNotes) (start : History)
      (read : List ℕ) (early : Way → List Tick) (setup : Setup) (line : List Tick) : Type 0 where
    pub later : List Tick
    pub is : line ≡ early way ++ later
    pub fronts : HandedBothFronts made start (p.history at.port) read (grown early way later)
    pub settled : settled_in at.lines ≡ x.number_for setup line

  -- `Then` holds after what was made of both ways was handed on up to `early`, and this way had
  -- taken this line.
  abbrev pub Behind : WayOutside X P D → ((made : Way → LineAndNotes) → History → List ℕ
      → (Way → List Tick) → Setup → List Tick → Type 0) → Type 0
  Behind old Then = (made : Way → LineAndNotes) (start : History) (read : List ℕ)
      (early : Way → List Tick) (setup : Setup) (line : List Tick)
      → made way ≡ x.made setup → HandedBoth made start (p.history old.port) read early
      → HasTakenOn x old.lines setup (early way) line → Then made start read early setup line

  -- why nothing more is handed on: a settle failed, and nothing was written to the port, or a write
  -- or a flush failed
  abbrev pub StopsWay : WayOutside X P D → WayOutside X P D → Stop → Type 0
  StopsWay old new JournalFault = (new.port ≡ old.port) × IfSome (d.told new.disk)
      (HasFloorBetween (link_in old.lines) (floor_in old.lines)
      (x.number (way_in old.lines) + most_in old.lines))
  StopsWay old new WriteFault = Behind old (HandedFronts new)
  StopsWay old new NoMemory = ⊥

  -- All that waited was handed on, or a fault came. Unless a settle failed, the disk's floor is not
  -- below the last number used, and no crash leaves a floor below it.
  pub record HandsOn (old new : WayOutside X P D) (result : Result (Unit {0}) Stop) : Type 0 where
    pub counted : x.taken (way_in new.lines) ≡ x.taken (way_in old.lines)
    pub number : x.number (way_in new.lines) ≡ x.number (way_in old.lines)
    pub images : KeepsImages d (kept_in old.lines) (kept_in new.lines) old.disk new.disk
    pub settled : is_journal_fault result ≡ false
        → settled_in new.lines ≡ x.number (way_in old.lines)
    pub reached : is_journal_fault result ≡ false → settled_in new.lines ≤ floor_in new.lines
    pub image : is_journal_fault result ≡ false
        → IsCrashSafe (disk_in old.lines) (d.told old.disk) (d.may_leave old.disk) → (c : Slots)
        → d.may_leave new.disk c
        → HasFloorAtLeast (link_in old.lines) (settled_in new.lines) c
    pub disk : IsDiskCause (d.faults old.disk) (d.faults new.disk) (is_journal_fault result)
    pub port : PortKept p old.port new.port (is_write_fault result)
    pub may : OnOk result (MayTake x new.lines)
    pub ahead : IsAhead old.lines → is_journal_fault result ≡ false → IsAhead new.lines
    pub stands : is_journal_fault result ≡ false → StandsOver new.lines (d.told new.disk)
    pub handed : OnOk result (Behind old (HandedOn new))
    pub stops : IfErr result (StopsWay old new)

module _ {X D : Type 0} (d : SlotDisk D) where
  -- The floor of the disk was brought down to the last number for which it was settled, or the disk
  -- failed on the way.
  pub record Lowers (old new : WayLines X) (before now : D)
      (result : Result (Unit {0}) Fault) : Type 0 where
    pub same : new ≡ record old { kept = kept_in new }
    pub number : settled_in new ≡ settled_in old
    pub link : link_in new ≡ link_in old
    pub most : most_in new ≡ most_in old
    pub not_below : settled_in old ≤ floor_in new
    pub is_kept : IsCrashSafe (disk_in old) (d.told before) (d.may_leave before)
        → IsCrashSafe (disk_in new) (d.told now) (d.may_leave now)
    pub any_moment : IsCrashSafe (disk_in old) (d.told before) (d.may_leave before)
        → LeavesOnly d.moment d.left_since before now
        (HasFloorAtLeast (link_in old) (settled_in old))
    pub cause : HasCause (d.faults before) (d.faults now) result
    pub lowered : OnOk result (floor_in new ≡ settled_in old)
    pub stands : OnOk result (StandsOver new (d.told now))
    pub failed : OnErr result (IfSome (d.told now) (HasFloorBetween (link_in old) (settled_in old)
        (floor_in old)))
