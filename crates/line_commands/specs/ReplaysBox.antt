-- A command that replays its input through a box: what each status says of the key, the input, the
-- two sinks and the journal's disk.
use Rattle.std.specs.Prelude.{◌≡◌, ℕ, ◌≤◌, ◌⊎◌, List, length, take, Option, Some, IfSome}
use Rattle.yasir_io.specs.Causes.{Rose}
use Rattle.yasir_io.specs.Disks.{Slots, NoMore, OneImage, LeavesOnly}
use Rattle.yasir_io.specs.declared.source.Source.{Ghosts as Source}
use Rattle.yasir_io.specs.declared.sink.Sink.{Ghosts as Sink}
use Rattle.yasir_io.specs.declared.disk.SlotDisk.{Ghosts as SlotDisk}
use Rattle.yasir_ticks.specs.Ticks.{ticks_in}
use Rattle.yasir_ticks.specs.TickText.{ended_items}
use Rattle.yasir_ticks.specs.declared.tick.Tick.{Tick}
use Rattle.link_format.specs.declared.dir.Dir.{Dir}
use Rattle.link_format.specs.Setup.{Setup, setup_of}
use Rattle.sequence_journal.specs.declared.link.LinkId.{LinkId}
use Rattle.sequence_journal.specs.Slots.{floor_of}
use Rattle.sequence_journal.specs.Journal.{HasFloorAtLeast}
use Rattle.sequence_journal.specs.Late.{HasFloorBetween}
use Rattle.sequence_journal.specs.Loading.{MayTakeOver, FindsNone, FindsOther, MayLeaveLoading}
use Rattle.sequence_journal.specs.Loading.{KeepsLoadable}
use Rattle.sequence_journal.specs.Uptimes.{IsUptime}
use Rattle.tick_drive.specs.declared.consumer.Stop.{Stop}
use Rattle.tick_drive.specs.declared.consumer.Stop.TheVariants as stops
use Rattle.command_ends.specs.KeyText.{IsKeyMet, IsKeyText, IsNoKey, IsCutShort}
use Rattle.command_ends.specs.Outside.{Outside}
use Rattle.command_ends.specs.Readable.{IsReadable}
use Rattle.command_ends.specs.declared.status.Status.{Status}
use Rattle.command_ends.specs.declared.status.Status.TheVariants.{ReadFault, JournalFault}
use Rattle.command_ends.specs.declared.status.Status.TheVariants.{BadKey, BadJournal, WrongLink}
use Rattle.line_commands.specs.Boxes.{Boxed}
use Rattle.line_commands.specs.Given.{HasKey, HoldsJournal}
use Rattle.line_texts.specs.Sending.{SinkTexts, sink_texts}
use Rattle.line_commands.specs.Sending.{CommandHasSent, CommandHasSentFronts}
use Rattle.line_commands.specs.BoxLines.{ToldFloor}
use Rattle.line_commands.specs.OverInput.{MakesFront, RunsOver}
pub use Rattle.line_commands.specs.OverInput.{has_stopped}

-- what a run of a box is given apart from the key
pub record Around (S O L D : Type 0) : Type 0 where
  pub input : S
  pub out : O
  pub log : L
  pub disk : D

abbrev pub around : {S O L D : Type 0} → S → O → L → D → Around S O L D
around input out log disk = record { input = input; out = out; log = log; disk = disk }

abbrev pub around_of : {K S O L D : Type 0} → Outside K S O L D → Around S O L D
around_of outside = around outside.input outside.out outside.log outside.disk

-- what a box with this key, this direction and this floor of its journal makes of a line
abbrev pub boxed_with : (Setup → Boxed) → List ℕ → Dir → ℕ → Boxed
boxed_with boxed key dir floor = boxed (setup_of key dir floor)

module _ {D : Type 0} (d : SlotDisk D) (link : LinkId) where
  -- If a crash before the run would have left the slots as they read, each image that a crash
  -- leaves at the end of the run has a floor of `n` or more.
  abbrev pub KeepsFloor : ℕ → D → D → Type 0
  KeepsFloor n old new = OneImage (d.told old) (d.may_leave old)
      → (image : Slots) → d.may_leave new image → HasFloorAtLeast link n image

  -- If a crash before the run would have left the slots as they read, each image that a crash
  -- leaves now makes the run an uptime with these numbers.
  abbrev pub LeavesUptime : List ℕ → D → D → Type 0
  LeavesUptime numbers old new = OneImage (d.told old) (d.may_leave old) → (begins : Slots)
      → d.told old ≡ Some begins
      → (image : Slots) → d.may_leave new image → IsUptime link begins numbers image

  -- If a crash before the run would have left the slots as they read, and they have a floor, then
  -- the slots that a crash at any moment of the run leaves have no lower floor, or were being taken
  -- over.
  abbrev pub KeepsFloorThroughout : D → D → Type 0
  KeepsFloorThroughout old new = OneImage (d.told old) (d.may_leave old)
      → (slots : Slots) (floor : ℕ) → d.told old ≡ Some slots → floor_of link slots ≡ Some floor
      → LeavesOnly d.moment d.left_since old new (KeepsLoadable link slots floor)

  -- If a crash before the run would have left the slots as they read, then from the end of the load
  -- on, each image that a crash leaves at any moment has at least the floor that was loaded.
  pub record KeepsFloorFromLoad (floor : ℕ) (old new : D) : Type 0 where
    pub loaded : D
    pub found : MayTakeOver link (d.told old) (d.told loaded)
    pub keeps : OneImage (d.told old) (d.may_leave old)
        → LeavesOnly d.moment d.left_since loaded new (HasFloorAtLeast link floor)

abbrev pub texts_of : {S O L D : Type 0} → Sink O → Sink L → Around S O L D → SinkTexts
texts_of o l at = sink_texts (o.held at.out) (l.held at.log)

module _ {S O L D : Type 0} (s : Source S) (o : Sink O) (l : Sink L) (d : SlotDisk D)
    (link : LinkId) where
  -- The sinks have got all that the box makes of this line. If a crash before the run would have
  -- left the slots as they read, no image of the disk has a floor below the last number that the
  -- box used for the line, and each makes an uptime with all numbers that it used for it.
  pub record ReplaysOnBox (box : Boxed) (before after : Around S O L D) (line : List Tick) : Type 0 where
    pub sent : CommandHasSent box (texts_of o l before) (texts_of o l after) line
    pub images : KeepsFloor d link (box.number line) before.disk after.disk
    pub uptime : LeavesUptime d link (box.numbers line) before.disk after.disk

  -- `box` is what the box makes of a line, by the floor of its journal.
  module _ (box : ℕ → Boxed) (before after : Around S O L D) where
    -- The sinks have got what the box makes of this line, and the disk's floor is its last number.
    pub record EndsBox (line : List Tick) : Type 0 where
      pub floor : ℕ
      pub floor_before : ToldFloor link floor (d.told before.disk)
      pub replays : ReplaysOnBox (box floor) before after line
      pub from_load : KeepsFloorFromLoad d link floor before.disk after.disk
      pub floor_told : ToldFloor link ((box floor).number line) (d.told after.disk)

    -- The sinks have got fronts of what the box with this floor makes of this line, for which the
    -- disk was settled before. No image has a floor below the last number of the line, and each
    -- makes an uptime with the numbers of it. If the whole lines that `out` got have `m` ticks,
    -- these are no more than the line has: the box has returned them for its first `m` ticks, one
    -- for each, and no image has a floor below the last number of those.
    pub record SendsFronts (floor : ℕ) (line : List Tick) : Type 0 where
      pub floor_before : ToldFloor link floor (d.told before.disk)
      pub sent : CommandHasSentFronts (box floor) (texts_of o l before) (texts_of o l after) line
      pub images : KeepsFloor d link ((box floor).number line) before.disk after.disk
      pub uptime : LeavesUptime d link ((box floor).numbers line) before.disk after.disk
      pub from_load : KeepsFloorFromLoad d link floor before.disk after.disk
      pub few : length (ticks_in (ended_items sent.text.front)) ≤ length line
      pub lines : KeepsFloor d link ((box floor).number
          (take (length (ticks_in (ended_items sent.text.front))) line)) before.disk after.disk

    -- A write failed when the box had taken this line, and the disk was settled for it before: its
    -- floor is the last number of the line.
    pub record WritesFronts (line : List Tick) : Type 0 where
      pub floor : ℕ
      pub fronts : SendsFronts floor line
      pub floor_told : ToldFloor link ((box floor).number line) (d.told after.disk)

    -- The disk failed in a settle, when the box had taken this line. The sinks have got fronts of
    -- what the box makes of the first `early` ticks, for which the disk was settled before, and
    -- nothing since. The floor of the slots is from the last number of these ticks to that of the
    -- line.
    pub record FailsAtSettle (line : List Tick) : Type 0 where
      pub floor : ℕ
      pub early : ℕ
      pub fronts : SendsFronts floor (take early line)
      pub floor_told : IfSome (d.told after.disk) (HasFloorBetween link
          ((box floor).number (take early line)) ((box floor).number line))

    -- why the box was stopped when it had taken this line, which is never for lack of memory
    abbrev pub HaltsBox : Stop → List Tick → Type 0
    HaltsBox stops.WriteFault line = WritesFronts line
    HaltsBox stops.JournalFault line = FailsAtSettle line
    HaltsBox stops.NoMemory line = ⊥

    -- The journal was looked at, and nothing was changed.
    pub record LooksAtJournal : Type 0 where
      pub input : after.input ≡ before.input
      pub out : after.out ≡ before.out
      pub log : after.log ≡ before.log
      pub told : d.told after.disk ≡ d.told before.disk
      pub images : NoMore (d.may_leave before.disk) (d.may_leave after.disk)
      pub images_back : NoMore (d.may_leave after.disk) (d.may_leave before.disk)

    -- The disk failed while the journal was loaded. Nothing but the disk was touched, and an old
    -- journal may have been taken over, in part or whole.
    pub record FailsAtLoad : Type 0 where
      pub input : after.input ≡ before.input
      pub out : after.out ≡ before.out
      pub log : after.log ≡ before.log
      pub told : MayTakeOver link (d.told before.disk) (d.told after.disk)
      pub images : (c : Slots) → d.may_leave after.disk c
          → MayLeaveLoading (d.told before.disk) (d.may_leave before.disk) c

    -- `rest` is how many silent ticks follow a whole input.
    module _ (rest : ℕ) where
      -- What the statuses say that aren't those of an input's end or of a failed write.
      abbrev pub OtherwiseRuns : Status → Type 0
      -- in a settle, or while the journal was loaded
      OtherwiseRuns JournalFault = MakesFront rest (s.left before.input) (s.left after.input)
          FailsAtSettle ⊎ FailsAtLoad
      OtherwiseRuns (BadJournal a b) = FindsNone (d.told before.disk) a b × LooksAtJournal
      OtherwiseRuns (WrongLink slot) = FindsOther link (d.told before.disk) slot × LooksAtJournal
      OtherwiseRuns status = ⊥

      -- What each status says of a run of this box, from the loading of the journal on.
      abbrev pub RunsBox : Status → Type 0
      RunsBox = RunsOver rest (s.left before.input) (s.left after.input) EndsBox WritesFronts
          OtherwiseRuns

module _ {K S O L D : Type 0} (k : Source K) (s : Source S) (o : Sink O) (l : Sink L)
    (d : SlotDisk D)
    (boxed : Setup → Boxed) (link : LinkId) (dir : Dir) (rest : ℕ)
    (before after : Outside K S O L D) where
  -- A right key text was read, and the status says this of the run with its key.
  pub record RunsKeyed (status : Status) : Type 0 where
    pub text : List ℕ
    pub key : List ℕ
    pub met : IsKeyMet (k.left before.key) (k.left after.key) text
    pub right : IsKeyText text key
    pub calm : k.faults after.key ≡ k.faults before.key
    pub runs : RunsBox s o l d link (boxed_with boxed key dir) (around_of before) (around_of after)
        rest status

  -- What was read of the key isn't a key text, and nothing else was touched.
  pub record RefusesKey (place : ℕ) : Type 0 where
    pub text : List ℕ
    pub met : IsKeyMet (k.left before.key) (k.left after.key) text
    pub refused : IsNoKey text place
    pub same : around_of after ≡ around_of before

  -- A read of the key failed, and nothing else was touched.
  pub record FailsAtKey : Type 0 where
    pub rose : Rose (k.faults before.key) (k.faults after.key)
    pub cut : IsCutShort (k.left before.key) (k.left after.key)
    pub same : around_of after ≡ around_of before

  -- What each status says of the command.
  abbrev pub ReplaysBox : Status → Type 0
  ReplaysBox (BadKey place) = RefusesKey place
  ReplaysBox ReadFault = FailsAtKey ⊎ RunsKeyed ReadFault
  ReplaysBox status = RunsKeyed status

-- All that the command is given is right: a key text, slots that hold a journal of the link, and an
-- input within the limits.
pub record IsReplayable (link : LinkId) (key_before : Option (List ℕ)) (told : Option Slots)
    (in_before : Option (List ℕ)) : Type 0 where
  pub key : HasKey key_before
  pub journal : HoldsJournal link told
  pub input : IsReadable in_before
