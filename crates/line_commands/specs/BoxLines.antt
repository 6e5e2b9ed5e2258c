-- A consumer that drives a box whose numbers go on in memory: what it means, and what its calls do.
use Rattle.std.specs.Prelude.{◌≡◌, ℕ, ◌+◌, ◌<◌, ◌≤◌, List, ◌++◌, length, take, Option, Some, None}
use Rattle.std.specs.Prelude.{IfSome, Result, OnOk, OnErr, IfErr, []}
use Rattle.yasir_io.specs.Causes.{HasCause}
use Rattle.yasir_io.specs.Disks.{Slots, LeavesOnly}
use Rattle.yasir_io.specs.Flushed.{NoneFlushed}
use Rattle.yasir_io.specs.declared.disk.SlotDisk.{Ghosts as SlotDisk}
use Rattle.yasir_io.specs.declared.sink.Sink.{Ghosts as Sink}
use Rattle.yasir_ticks.specs.Ticks.{Item, ticks_in}
use Rattle.yasir_ticks.specs.declared.tick.Tick.{Tick}
use Rattle.sequence_journal.specs.declared.journal.JournalFault.{JournalFault as Fault}
use Rattle.sequence_journal.specs.declared.late.LateJournal.{LateJournal}
use Rattle.sequence_journal.specs.declared.link.LinkId.{LinkId}
use Rattle.sequence_journal.specs.Journal.{journal_floor, Fits, IsCrashSafe, HasFloorFrom}
use Rattle.sequence_journal.specs.Late.{disk_journal, disk_floor, late_link, late_number}
use Rattle.sequence_journal.specs.Late.{IsRising, HasFloorBetween}
use Rattle.sequence_journal.specs.Slots.{floor_of}
use Rattle.link_format.specs.Setup.{Setup}
use Rattle.link_box.specs.Stepping.{ServesLink}
use Rattle.link_box.specs.Walking.{number_used_after}
use Rattle.link_box.specs.declared.box_trait.LinkBox.{Ghosts as LinkBox}
use Rattle.tick_drive.specs.Consumers.{Consuming, IsDiskCause, IsSinkCause, is_journal_fault}
use Rattle.tick_drive.specs.Consumers.{is_write_fault}
use Rattle.tick_drive.specs.declared.consumer.Stop.{Stop}
use Rattle.tick_drive.specs.declared.consumer.Stop.TheVariants.{WriteFault, JournalFault}
use Rattle.tick_drive.specs.declared.consumer.Stop.TheVariants.{NoMemory}
use Rattle.line_commands.specs.Boxes.{Boxed}
use Rattle.line_texts.specs.Adding.{TextHasRoom, HasLineRoom, TextAdds, Waits, ClosesText}
use Rattle.line_texts.specs.Sending.{SinkTexts, sink_texts, Waiting, AnswersNoted}
use Rattle.line_commands.specs.Sending.{made_by, SendsBoxed, CommandHasSent, CommandHasSentFronts}
use Rattle.line_texts.specs.Texts.{waiting_in, Writing, writing}
use Rattle.line_commands.specs.LinkBoxed.{boxed_of}
use Rattle.line_commands.specs.declared.box_lines.BoxLines.{BoxLines}
use Rattle.line_texts.specs.declared.texts.Texts.{Texts}

-- the link of the box's journal, how the box was set up, and what the sinks held at the start
pub record BoxOrigin : Type 0 where
  pub link : LinkId
  pub setup : Setup
  pub texts : SinkTexts

-- what the sinks hold and the slots read as, each `None` if it isn't told
pub record Outputs : Type 0 where
  pub out : Option (List ℕ)
  pub log : Option (List ℕ)
  pub slots : Option Slots

-- if the slots are told, they have this floor for a link
abbrev pub ToldFloor : LinkId → ℕ → Option Slots → Type 0
ToldFloor link n told = IfSome told (λ slots. floor_of link slots ≡ Some n)

abbrev pub texts_in : Outputs → SinkTexts
texts_in outputs = sink_texts outputs.out outputs.log

-- what a call changes: a box with its journal and its texts, the two sinks that the texts go to,
-- and the disk
pub record State (B O L D : Type 0) : Type 0 where
  pub lines : BoxLines B
  pub out : O
  pub log : L
  pub disk : D

abbrev pub state_of_lines : {B O L D : Type 0} → BoxLines B → O → L → D → State B O L D
state_of_lines lines out log disk = record { lines = lines; out = out; log = log; disk = disk }

abbrev pub writing_at : {B O L D : Type 0} → State B O L D → Writing O L
writing_at state = writing state.lines.texts state.out state.log

-- the box itself
abbrev pub box_in : {B : Type 0} → BoxLines B → B
box_in lines = lines.line_box

-- what the disk holds, and what it is to hold
abbrev pub late_in : {B : Type 0} → BoxLines B → LateJournal
late_in lines = lines.late

-- the texts that are made of the box's line
abbrev pub texts_at : {B : Type 0} → BoxLines B → Texts
texts_at lines = lines.texts

-- what waits to be handed out
abbrev pub waits_in : {B : Type 0} → BoxLines B → Waiting
waits_in lines = waiting_in lines.texts

-- the last number that the box has used
abbrev pub number_in : {B : Type 0} → BoxLines B → ℕ
number_in lines = journal_floor lines.journal

-- A box, and the lines of its notes.
module _ {B N : Type 0} (b : LinkBox B N) (line_of : N → List ℕ) where
  -- The box has taken this line over its journal in memory.
  pub record StandsAfter (lines : BoxLines B) (setup : Setup) (line : List Tick) : Type 0 where
    pub steps : b.stands lines.line_box (journal_floor lines.journal) setup line
    pub number_is : journal_floor lines.journal ≡ number_used_after b.walking setup line

  abbrev pub made_of : BoxOrigin → Boxed
  made_of origin = boxed_of b.walking line_of origin.setup

  -- The box has taken this line in memory, and all that it makes of the line is on its
  -- way to the sinks.
  pub record BoxLinesHaveTaken (lines : BoxLines B) (origin : BoxOrigin) (held : SinkTexts)
      (line : List Tick) : Type 0 where
    pub stood : StandsAfter lines origin.setup line
    pub sends : SendsBoxed (made_of origin) (waiting_in lines.texts) origin.texts held line

  -- Only what the box makes of the first of these ticks, `early`, has gone to the sinks, each of
  -- which has got a front of it, the notes first. The disk was settled for them: its floor is the
  -- last number used for these ticks.
  pub record HandedOut (origin : BoxOrigin) (held : SinkTexts) (floor : ℕ) (line : List Tick) :
      Type 0 where
    pub early : List Tick
    pub later : List Tick
    pub is : early ++ later ≡ line
    pub sent : CommandHasSentFronts (made_of origin) origin.texts held early
    pub settled : floor ≡ (made_of origin).number early

  -- The box has taken the ticks of these items in memory. What it makes of them is on its way to
  -- the sinks, and only what the disk was settled for has gone there.
  pub record DrivesBox (lines : BoxLines B) (origin : BoxOrigin) (outputs : Outputs)
      (items : List Item) : Type 0 where
    pub took : BoxLinesHaveTaken lines origin (texts_in outputs) (ticks_in items)
    pub link_is : late_link lines.late ≡ origin.link
    pub handed : HandedOut origin (texts_in outputs) (disk_floor lines.late) (ticks_in items)

  -- The disk holds the last number that the box used for this line, and no greater one.
  pub record IsSettled (lines : BoxLines B) (origin : BoxOrigin) (slots : Option Slots)
      (line : List Tick) : Type 0 where
    pub link_is : late_link lines.late ≡ origin.link
    pub floor : disk_floor lines.late ≡ (made_of origin).number line
    pub floor_told : ToldFloor origin.link ((made_of origin).number line) slots

  -- A settle failed after the box had taken the last of these items. What the box makes of the first
  -- ticks, `early`, had gone to the sinks before, in part or whole, and nothing has gone there since.
  -- The floor of the slots is from the last number used for `early` to the last number used.
  pub record StopsAtSettle (lines : BoxLines B) (origin : BoxOrigin) (outputs : Outputs)
      (items : List Item) : Type 0 where
    pub early : List Tick
    pub later : List Tick
    pub is : early ++ later ≡ ticks_in items
    pub sent : CommandHasSentFronts (made_of origin) origin.texts (texts_in outputs) early
    pub link_is : late_link lines.late ≡ origin.link
    pub not_below : (made_of origin).number early ≤ disk_floor lines.late
    pub floor_told : IfSome outputs.slots (HasFloorBetween origin.link
        ((made_of origin).number early) ((made_of origin).number (ticks_in items)))

  -- A write failed after the box had taken the last of these items, and the disk was settled before.
  pub record StopsAtWrite (lines : BoxLines B) (origin : BoxOrigin) (outputs : Outputs)
      (items : List Item) : Type 0 where
    pub sent : CommandHasSentFronts (made_of origin) origin.texts (texts_in outputs) (ticks_in items)
    pub settled : IsSettled lines origin outputs.slots (ticks_in items)

  -- why a box was stopped at the last of these items, which is never for lack of memory
  abbrev pub StopsBox : BoxLines B → Stop → BoxOrigin → Outputs → List Item → Type 0
  StopsBox lines JournalFault origin outputs items = StopsAtSettle lines origin outputs items
  StopsBox lines WriteFault origin outputs items = StopsAtWrite lines origin outputs items
  StopsBox lines NoMemory origin outputs items = ⊥

  -- All that the box makes of this line has gone to the sinks, and the disk was settled for it.
  pub record HasFinished (lines : BoxLines B) (origin : BoxOrigin) (outputs : Outputs)
      (line : List Tick) : Type 0 where
    pub sent : CommandHasSent (made_of origin) origin.texts (texts_in outputs) line
    pub settled : IsSettled lines origin outputs.slots line

  -- A box whose numbers go on in memory: its journal in memory and the one that the disk is to hold
  -- serve the box's link, and both have the same last number.
  pub record BoxLinesAreReady (lines : BoxLines B) : Type 0 where
    pub serves : ServesLink (b.link_of lines.line_box) lines.journal None
    pub link_is : late_link lines.late ≡ b.link_of lines.line_box
    pub level : late_number lines.late ≡ journal_floor lines.journal
    pub rising : IsRising lines.late

  -- A box that may take ticks: there is room for what a few of them make, and the disk is the one
  -- that the journal knows.
  pub record MayDrive (lines : BoxLines B) (told : Option Slots) : Type 0 where
    pub ready : BoxLinesAreReady lines
    pub room : TextHasRoom lines.texts
    pub fits : Fits (disk_journal lines.late) told

  -- A box whose texts may be handed out: there is room for the line that isn't filled, and the disk
  -- is the one that the journal knows.
  pub record MayHandOut (lines : BoxLines B) (told : Option Slots) : Type 0 where
    pub ready : BoxLinesAreReady lines
    pub line_room : HasLineRoom lines.texts
    pub fits : Fits (disk_journal lines.late) told

  -- After this line the box has taken the ticks `run`, and what it made of them was added to its
  -- texts.
  pub record AddsAnswer (old new : BoxLines B) (setup : Setup) (line run : List Tick) : Type 0 where
    pub stands : StandsAfter new setup (line ++ run)
    pub answer : List Tick
    pub note : List ℕ
    pub noted : AnswersNoted (made_by (boxed_of b.walking line_of setup)) line run answer note
    pub adds : TextAdds (waiting_in old.texts) (waiting_in new.texts) answer note

  -- The box has taken the ticks `run`, after whatever line it had taken, in memory alone.
  pub record BoxLinesTakeOn (old new : BoxLines B) (run : List Tick) : Type 0 where
    pub counted : b.taken new.line_box ≡ b.taken old.line_box + length run
    pub ready : BoxLinesAreReady new
    pub disk : disk_journal new.late ≡ disk_journal old.late
    pub answers : (setup : Setup) (line : List Tick) → StandsAfter old setup line
        → AddsAnswer old new setup line run

  -- the box has taken the first `count` of these ticks, which may be none
  pub record BoxLinesTakeUpTo (old new : BoxLines B) (run : List Tick) (count : ℕ) : Type 0 where
    pub within : count ≤ length run
    pub goes : BoxLinesTakeOn old new (take count run)

  -- the box has taken the first `count` of these ticks, at least one, and there is room for the
  -- line that isn't filled
  pub record TakesSome (old new : BoxLines B) (run : List Tick) (count : ℕ) : Type 0 where
    pub some : 0 < count
    pub front : BoxLinesTakeUpTo old new run count
    pub line_room : HasLineRoom new.texts

  -- Nothing waits any more, and all else is as it was.
  pub record Empties (old new : BoxLines B) : Type 0 where
    pub taken : b.taken new.line_box ≡ b.taken old.line_box
    pub stands : (setup : Setup) (line : List Tick) → StandsAfter old setup line
        → StandsAfter new setup line
    pub number : number_in new ≡ number_in old
    pub late : late_in new ≡ late_in old
    pub waits : Waits (waiting_in new.texts) [] []
    pub may : (told : Option Slots) → BoxLinesAreReady old → Fits (disk_journal old.late) told
        → MayDrive new told

module _ {B N D : Type 0} (b : LinkBox B N) (line_of : N → List ℕ) (d : SlotDisk D) where
  -- The disk was brought to the journal, and then the line that isn't filled was added to the text
  -- that waits. If the disk failed, its floor is between the one before and the last number used.
  pub record Settles (old new : BoxLines B) (before now : D) (result : Result (Unit {0}) Fault)
      : Type 0 where
    pub taken : b.taken new.line_box ≡ b.taken old.line_box
    pub stands : (setup : Setup) (line : List Tick) → StandsAfter b line_of old setup line
        → StandsAfter b line_of new setup line
    pub number : number_in new ≡ number_in old
    pub link : late_link new.late ≡ late_link old.late
    pub not_below : disk_floor old.late ≤ disk_floor new.late
    pub is_kept : IsCrashSafe (disk_journal old.late) (d.told before) (d.may_leave before)
        → IsCrashSafe (disk_journal new.late) (d.told now) (d.may_leave now)
    pub any_moment : IsCrashSafe (disk_journal old.late) (d.told before) (d.may_leave before)
        → LeavesOnly d.moment d.left_since before now (HasFloorFrom (disk_journal old.late))
    pub cause : HasCause (d.faults before) (d.faults now) result
    pub settled : OnOk result (disk_floor new.late ≡ journal_floor old.journal)
    pub fits : OnOk result (Fits (disk_journal new.late) (d.told now))
    pub ready : OnOk result (BoxLinesAreReady b line_of new)
    pub closes : OnOk result (ClosesText (waiting_in old.texts) (waiting_in new.texts))
    pub failed : OnErr result (IfSome (d.told now) (HasFloorBetween (late_link old.late)
        (disk_floor old.late) (journal_floor old.journal)))

module _ {B O L D : Type 0} (o : Sink O) (l : Sink L) (d : SlotDisk D) where
  abbrev pub outputs_of : State B O L D → Outputs
  outputs_of state = record {
    out = o.held state.out;
    log = l.held state.log;
    slots = d.told state.disk;
  }

  -- Whether the box stopped or not, the disk's journal serves the same link as before, and its floor
  -- doesn't fall. If the journal was crash-safe, it stays so, and at no moment of the calls does
  -- the disk have an image with a floor below the one that the journal had before them.
  pub record KeepsImages (old new : State B O L D) : Type 0 where
    pub link : late_link new.lines.late ≡ late_link old.lines.late
    pub rises : disk_floor old.lines.late ≤ disk_floor new.lines.late
    pub is_kept : IsCrashSafe (disk_journal old.lines.late) (d.told old.disk) (d.may_leave old.disk)
        → IsCrashSafe (disk_journal new.lines.late) (d.told new.disk) (d.may_leave new.disk)
    pub any_moment : IsCrashSafe (disk_journal old.lines.late) (d.told old.disk)
        (d.may_leave old.disk)
        → LeavesOnly d.moment d.left_since old.disk new.disk
        (HasFloorFrom (disk_journal old.lines.late))

  -- What calls do apart from taking ticks, the last of them with this result: the images are kept,
  -- each fault has its cause, and no sink is flushed.
  pub record BoxLinesGoOn (old new : State B O L D) (result : Result (Unit {0}) Stop) : Type 0 where
    pub images : KeepsImages old new
    pub disk : IsDiskCause (d.faults old.disk) (d.faults new.disk) (is_journal_fault result)
    pub sinks : IsSinkCause (o.faults old.out) (o.faults new.out) (l.faults old.log)
        (l.faults new.log) (is_write_fault result)
    pub flushes : NoneFlushed o l old.out new.out old.log new.log

module _ {B N O L D : Type 0} (b : LinkBox B N) (line_of : N → List ℕ) (o : Sink O) (l : Sink L)
    (d : SlotDisk D) where
  abbrev pub driving : Consuming (State B O L D)
  driving = record {
    Origin = BoxOrigin;
    stands = λ state origin. DrivesBox b line_of state.lines origin (outputs_of o l d state);
    stopped = λ state stop origin. StopsBox b line_of state.lines stop origin (outputs_of o l d state);
    taken = λ state. b.taken state.lines.line_box;
    able = λ state. MayDrive b line_of state.lines (d.told state.disk);
    went = BoxLinesGoOn o l d;
  }

  -- The disk was settled, and then the notes and the lines of ticks that waited were written. The
  -- box has taken no tick.
  pub record HandsOn (old new : State B O L D) (result : Result (Unit {0}) Stop) : Type 0 where
    pub drives : OnOk result ((origin : BoxOrigin) (items : List Item)
        → driving.stands old origin items → driving.stands new origin items)
    pub stopped : IfErr result (λ stop. (origin : BoxOrigin) (items : List Item)
        → driving.stands old origin items → driving.stopped new stop origin items)
    pub able : OnOk result (driving.able new)
    pub taken : driving.taken new ≡ driving.taken old
    pub went : BoxLinesGoOn o l d old new result

  -- The disk was settled, and then all that waited was written, with the last line. `last` is the
  -- box as it was then.
  pub record Finishes (old : State B O L D) (out : O) (log : L) (disk : D)
      (result : Result (Unit {0}) Stop) : Type 0 where
    pub last : BoxLines B
    pub finished : OnOk result ((origin : BoxOrigin) (items : List Item)
        → driving.stands old origin items → HasFinished b line_of last origin
        (outputs_of o l d (state_of_lines last out log disk)) (ticks_in items))
    pub stopped : IfErr result (λ stop. (origin : BoxOrigin) (items : List Item)
        → driving.stands old origin items
        → driving.stopped (state_of_lines last out log disk) stop origin items)
    pub went : BoxLinesGoOn o l d old (state_of_lines last out log disk) result
