-- The command of a live line of two ways: what each status says of the key, the streams and the
-- disks of both journals.
use Rattle.std.specs.Prelude.{◌≡◌, ℕ, ◌<◌, ◌≤◌, ◌+◌, ◌⊎◌, List, ◌++◌, length, IfSome, Option, Some}
use Rattle.std.specs.Prelude.{None}
use Rattle.std.specs.Io.KnownBytes.{prepend_known, IsAtEnd}
use Rattle.yasir_io.specs.Causes.{Rose}
use Rattle.yasir_io.specs.Disks.{Slots, NoMore}
use Rattle.yasir_io.specs.declared.source.Source.{Ghosts as Source}
use Rattle.yasir_io.specs.declared.disk.SlotDisk.{Ghosts as SlotDisk}
use Rattle.yasir_ticks.specs.TickText.{ended_items}
use Rattle.yasir_ticks.specs.declared.tick.Tick.{Tick}
use Rattle.link_format.specs.declared.dir.Dir.{Dir}
use Rattle.link_format.specs.Setup.{Setup}
use Rattle.sequence_journal.specs.declared.journal.Journal.{Journal}
use Rattle.sequence_journal.specs.declared.link.LinkId.{LinkId}
use Rattle.sequence_journal.specs.Late.{HasFloorBetween}
use Rattle.sequence_journal.specs.Loading.{MayTakeOver, FindsNone, FindsOther, MayLeaveLoading}
use Rattle.sequence_journal.specs.Loading.{IsLoaded}
use Rattle.tick_drive.specs.declared.consumer.Stop.{Stop}
use Rattle.tick_drive.specs.declared.consumer.Stop.TheVariants as stops
use Rattle.tick_drive.specs.declared.end.TooMuch.TheVariants as much
use Rattle.yasir_ticks.specs.declared.fault.TickFault.TheVariants.{Char}
use Rattle.command_ends.specs.KeyText.{IsKeyMet, IsKeyText, IsNoKey, IsCutShort}
use Rattle.command_ends.specs.declared.key_text.KeyError.{KeyError}
use Rattle.command_ends.specs.declared.key_text.KeyError.TheVariants as key
use Rattle.command_ends.specs.declared.status.Status.{Status}
use Rattle.command_ends.specs.declared.status.Status.TheVariants.{Done, BadTicks, ReadFault}
use Rattle.command_ends.specs.declared.status.Status.TheVariants.{WriteFault, JournalFault}
use Rattle.command_ends.specs.declared.status.Status.TheVariants.{TooLong, BadKey, BadJournal}
use Rattle.command_ends.specs.declared.status.Status.TheVariants.{WrongLink, NoMemory}
use Rattle.line_commands.specs.Boxes.{Boxed}
use Rattle.line_commands.specs.BoxLines.{ToldFloor}
use Rattle.line_commands.specs.Given.{HasKey, HoldsJournal}
use Rattle.line_commands.specs.ReplaysBox.{boxed_with, KeepsFloor, LeavesUptime, KeepsFloorFromLoad}
use Rattle.line_commands.specs.Sending.{made_by}
use Rattle.line_commands.specs.declared.port.Port.{Ghosts as Port}
use Rattle.live_commands.specs.declared.live_box.TheConstants.{MAX_LIVE_TICKS, MAX_LIVE_BYTES}
use Rattle.live_line.specs.BothWays.{HandedBoth, HandedBothFronts, lines_in}
use Rattle.live_line.specs.WayText.{text_on}
use Rattle.live_line.specs.declared.ways.Way.{Way}
use Rattle.live_line.specs.declared.ways.Way.TheVariants.{Outgoing, Incoming}
use Rattle.live_ways.specs.BothDisks.{disk_on}
use Rattle.live_ways.specs.WayEnds.{IsStream, EndsReading, closed}
use Rattle.live_ways.specs.declared.both_disks.BothDisks.{BothDisks}
use Rattle.live_ways.specs.declared.way_end.WayEnd.{WayEnd}
use Rattle.live_ways.specs.declared.way_end.WayEnd.TheVariants as ends

-- Both ways of a live line: what the box of each way makes of its ticks, the link of its journal,
-- its
-- direction, how many silent ticks follow its whole text, and how far above the last number used a
-- settle writes.
pub record BothWays : Type 0 where
  pub boxed : Way → Setup → Boxed
  pub link : Way → LinkId
  pub dir : Way → Dir
  pub rest : Way → ℕ
  pub ahead : Way → ℕ

-- what a run is handed besides the key: the port of the line, and the disks of both journals
pub record Around (P D : Type 0) : Type 0 where
  pub port : P
  pub disks : BothDisks D

-- the record with this port and these disks
abbrev pub around : {P D : Type 0} → P → BothDisks D → Around P D
around port disks = record { port = port; disks = disks }

-- how far above the last number used the floor of the slots of a way may be when the reading of a
-- stream ended in this way
abbrev pub left_ahead : (Way → ℕ) → WayEnd → Way → ℕ
left_ahead ahead ends.ReadFault way = ahead way
left_ahead ahead end way = 0

-- the status of a run whose key isn't read
abbrev pub status_of_key : KeyError → Status
status_of_key key.Fault = ReadFault
status_of_key (key.Bad place) = BadKey place

-- the status of a run whose stream ended in this way
abbrev pub status_of_end : WayEnd → Status
status_of_end ends.Whole = Done
status_of_end (ends.Refused way bad) = BadTicks bad
status_of_end (ends.NoWay line) = BadTicks (record { line = line; why = Char })
status_of_end (ends.TooLong way what count) = TooLong what count
status_of_end (ends.TooManyBytes count) = TooLong much.Bytes count
status_of_end ends.ReadFault = ReadFault
status_of_end (ends.Stopped way stops.WriteFault) = WriteFault
status_of_end (ends.Stopped way stops.JournalFault) = JournalFault
status_of_end (ends.Stopped way stops.NoMemory) = NoMemory

-- the way that such a run's status is about, if it is about one alone
abbrev pub way_of_end : WayEnd → Option Way
way_of_end (ends.Refused way bad) = Some way
way_of_end (ends.TooLong way what count) = Some way
way_of_end (ends.Stopped way stop) = Some way
way_of_end end = None

module _ {P D : Type 0} (p : Port P) (d : SlotDisk D) (link : Way → LinkId) where
  -- Holds if, whatever crash came after it, each image of the disk of each way has at least this
  -- number of the way as its floor, if a crash before the run would have left the slots as read.
  abbrev pub KeepFloors : (Way → ℕ) → Around P D → Around P D → Type 0
  KeepFloors number before after = (way : Way) → KeepsFloor d (link way) (number way)
      (disk_on before.disks way) (disk_on after.disks way)

  -- Holds if each image of the disk of each way makes an uptime with these numbers of the way, if a
  -- crash before the run would have left the slots as read.
  abbrev pub LeaveUptimes : (Way → List ℕ) → Around P D → Around P D → Type 0
  LeaveUptimes numbers before after = (way : Way) → LeavesUptime d (link way) (numbers way)
      (disk_on before.disks way) (disk_on after.disks way)

  -- Holds if the slots of each way have a floor from `low` to `high`, as far as the disk tells.
  abbrev pub HaveFloors : (Way → ℕ) → (Way → ℕ) → Around P D → Type 0
  HaveFloors low high after = (way : Way) → IfSome (d.told (disk_on after.disks way))
      (HasFloorBetween (link way) (low way) (high way))

  -- Holds if a stream was read, and what the boxes of both ways make of these lines is written and
  -- flushed. Before each read all that had been decided was written and flushed, and before each
  -- write of a text the notes of its ticks were. For each way: if a crash before the run left the
  -- slots as read, each image of the disk has at least the last number of the line as its floor,
  -- and makes an uptime with the line's numbers. The floor of the slots is at most `most` above the
  -- last number of the line.
  pub record Carries (most : Way → ℕ) (box : Way → Boxed) (before after : Around P D)
      (stream : List ℕ) (lines : Way → List Tick) : Type 0 where
    pub handed : HandedBoth (λ way. made_by (box way)) (p.history before.port) (p.history after.port)
        stream lines
    pub images : KeepFloors (λ way. (box way).number (lines way)) before after
    pub uptimes : LeaveUptimes (λ way. (box way).numbers (lines way)) before after
    pub floors : HaveFloors (λ way. (box way).number (lines way))
        (λ way. (box way).number (lines way) + most way) after

  -- Holds if the disk of a way failed in a settle. What the boxes make of the lines `early` was
  -- written and flushed before, and nothing since. The boxes had taken the ticks `later` after
  -- these. No image of a disk has a floor below the last number of its way's early line. The floor
  -- of the slots is between that and the last number of all ticks taken, or at most `most` above
  -- it.
  pub record FailsAtSettle (most : Way → ℕ) (box : Way → Boxed) (before after : Around P D)
      (stream : List ℕ) (ticks : Way → List Tick) : Type 0 where
    pub early : Way → List Tick
    pub later : Way → List Tick
    pub more : Way → List Tick
    pub all : (way : Way) → (early way ++ later way) ++ more way ≡ ticks way
    pub handed : HandedBoth (λ way. made_by (box way)) (p.history before.port) (p.history after.port)
        stream early
    pub images : KeepFloors (λ way. (box way).number (early way)) before after
    pub uptimes : LeaveUptimes (λ way. (box way).numbers (early way)) before after
    pub floors : HaveFloors (λ way. (box way).number (early way))
        (λ way. (box way).number (early way ++ later way) + most way) after

  -- Holds if a write or a flush failed. Each output has got, for each way, a front of what its box
  -- makes of the line, and the notes were written first. No image of a disk has a floor below the
  -- last number of its way's line.
  pub record WritesFronts (most : Way → ℕ) (box : Way → Boxed) (before after : Around P D)
      (stream : List ℕ) (ticks : Way → List Tick) : Type 0 where
    pub lines : Way → List Tick
    pub more : Way → List Tick
    pub all : (way : Way) → lines way ++ more way ≡ ticks way
    pub fronts : HandedBothFronts (λ way. made_by (box way)) (p.history before.port)
        (p.history after.port) stream lines
    pub images : KeepFloors (λ way. (box way).number (lines way)) before after
    pub uptimes : LeaveUptimes (λ way. (box way).numbers (lines way)) before after
    pub floors : HaveFloors (λ way. (box way).number (lines way))
        (λ way. (box way).number (lines way) + most way) after

  -- why a way was stopped at one of these ticks; never for lack of memory, since it takes none
  abbrev pub HaltsWay : (Way → ℕ) → (Way → Boxed) → Around P D → Around P D → List ℕ → Way → Stop
      → (Way → List Tick) → Type 0
  HaltsWay most box before after stream way stops.JournalFault ticks =
      FailsAtSettle most box before after stream ticks
  HaltsWay most box before after stream way stops.WriteFault ticks =
      WritesFronts most box before after stream ticks
  HaltsWay most box before after stream way stops.NoMemory ticks = ⊥

  -- The box of each way, for each floor of its journal, how many silent ticks follow a whole text,
  -- and how far above the last number used a settle writes.
  module _ (box : Way → ℕ → Boxed) (rest ahead : Way → ℕ) (before after : Around P D) where
    -- Holds if the reading of the stream ended in this way.
    pub record EndsStream (end : WayEnd) : Type 0 where
      pub floor : Way → ℕ
      pub stream : List ℕ
      pub floor_before : (way : Way)
          → ToldFloor (link way) (floor way) (d.told (disk_on before.disks way))
      pub came : p.left before.port ≡ prepend_known stream (p.left after.port)
      pub ends : EndsReading
          (Carries (left_ahead ahead end) (λ way. box way (floor way)) before after stream)
          (HaltsWay ahead (λ way. box way (floor way)) before after stream)
          rest (IsAtEnd (p.left after.port)) end stream
      pub from_load : (way : Way) → KeepsFloorFromLoad d (link way) (floor way)
          (disk_on before.disks way) (disk_on after.disks way)

    -- Holds if the journal of a way was looked at.
    pub record LooksAt (way : Way) : Type 0 where
      pub told : d.told (disk_on after.disks way) ≡ d.told (disk_on before.disks way)
      pub images : NoMore (d.may_leave (disk_on before.disks way))
          (d.may_leave (disk_on after.disks way))
      pub images_back : NoMore (d.may_leave (disk_on after.disks way))
          (d.may_leave (disk_on before.disks way))

    -- Holds if the journal of a way was loaded, and nothing else was done to its disk.
    pub record LoadsOn (way : Way) : Type 0 where
      pub journal : Journal
      pub loaded : IsLoaded (link way) (d.told (disk_on before.disks way))
          (d.told (disk_on after.disks way)) (d.may_leave (disk_on before.disks way))
          (d.may_leave (disk_on after.disks way)) journal

    -- Holds if the disk of a way failed while its journal was loaded: a journal with only old slots
    -- may have been taken over, in part or whole.
    pub record FailsToLoad (way : Way) : Type 0 where
      pub told : MayTakeOver (link way) (d.told (disk_on before.disks way))
          (d.told (disk_on after.disks way))
      pub images : (c : Slots) → d.may_leave (disk_on after.disks way) c
          → MayLeaveLoading (d.told (disk_on before.disks way))
          (d.may_leave (disk_on before.disks way)) c

    -- Holds if the journal of a way wasn't loaded, and `Refuses` holds of its disk. The journal of
    -- the outgoing way is loaded first. Nothing else was touched.
    pub record StopsAtLoad (way : Way) (Refuses : Way → Type 0) : Type 0 where
      pub port : after.port ≡ before.port
      pub refuses : Refuses way
      pub sent : way ≡ Incoming → LoadsOn Outgoing
      pub got : way ≡ Outgoing → after.disks.second ≡ before.disks.second

    -- What each status says of a run with this key and these directions, from the load of the
    -- journals on, and of which way it is.
    abbrev pub RunsLine : Option Way → Status → Type 0
    RunsLine None Done = EndsStream ends.Whole
    RunsLine (Some way) (BadTicks bad) = EndsStream (ends.Refused way bad)
    RunsLine None (BadTicks bad) = EndsStream (ends.NoWay bad.line) × (bad.why ≡ Char)
    RunsLine (Some way) (TooLong what count) = EndsStream (ends.TooLong way what count)
    RunsLine None (TooLong much.Bytes count) = EndsStream (ends.TooManyBytes count)
    RunsLine None ReadFault = EndsStream ends.ReadFault
        × Rose (p.read_faults before.port) (p.read_faults after.port)
    RunsLine (Some way) JournalFault = EndsStream (ends.Stopped way stops.JournalFault)
        ⊎ StopsAtLoad way FailsToLoad
    RunsLine (Some way) WriteFault = EndsStream (ends.Stopped way stops.WriteFault)
    RunsLine (Some way) (BadJournal a b) = StopsAtLoad way (λ way. LooksAt way
        × FindsNone (d.told (disk_on before.disks way)) a b)
    RunsLine (Some way) (WrongLink slot) = StopsAtLoad way (λ way. LooksAt way
        × FindsOther (link way) (d.told (disk_on before.disks way)) slot)
    RunsLine None NoMemory = (after.port ≡ before.port) × ((way : Way) → LoadsOn way)
    RunsLine of status = ⊥

module _ {K P D : Type 0} (k : Source K) (p : Port P) (d : SlotDisk D) (line : BothWays)
    (key_before key_after : K) (before after : Around P D)
  where
    -- Holds if a right key text was met, and the status says this of the run with its key.
    pub record RunsKeyed (of : Option Way) (status : Status) : Type 0 where
      pub text : List ℕ
      pub key : List ℕ
      pub met : IsKeyMet (k.left key_before) (k.left key_after) text
      pub right : IsKeyText text key
      pub calm : k.faults key_after ≡ k.faults key_before
      pub runs : RunsLine p d line.link (λ way. boxed_with (line.boxed way) key (line.dir way))
          line.rest line.ahead before after of status

    -- Holds if what was met of the key isn't a key text, and nothing else was touched.
    pub record RefusesKey (place : ℕ) : Type 0 where
      pub text : List ℕ
      pub met : IsKeyMet (k.left key_before) (k.left key_after) text
      pub refused : IsNoKey text place
      pub calm : k.faults key_after ≡ k.faults key_before
      pub same : after ≡ before

    -- Holds if a read of the key failed, and nothing else was touched.
    pub record FailsAtKey : Type 0 where
      pub rose : Rose (k.faults key_before) (k.faults key_after)
      pub never_falls : k.faults key_before ≤ k.faults key_after
      pub cut : IsCutShort (k.left key_before) (k.left key_after)
      pub same : after ≡ before

    -- What each status says of the command, and of which way it is.
    abbrev pub LivesLine : Option Way → Status → Type 0
    LivesLine None (BadKey place) = RefusesKey place
    LivesLine None ReadFault = FailsAtKey ⊎ RunsKeyed None ReadFault
    LivesLine of status = RunsKeyed of status

-- Holds if the input tells a right stream within the limits of a live line: for each way, the ticks
-- and the bytes in a row that end no line with ticks; and all bytes. A last line without an LF
-- counts as if it had one.
pub record IsLiveStream (input : Option (List ℕ)) : Type 0 where
  pub stream : List ℕ
  pub told : input ≡ Some stream
  pub right : IsStream (closed stream)
  pub few_ticks : (way : Way) → length (lines_in (closed stream) way) ≤ MAX_LIVE_TICKS
  pub few_bytes : length (closed stream) < MAX_LIVE_BYTES
  pub few_unended : (way : Way) (front part later : List ℕ)
      → text_on way (closed stream) ≡ front ++ (part ++ later)
      → ended_items (front ++ part) ≡ ended_items front → length part ≤ 2147483648

-- Holds if all that a line is given is right: a key text, slots for each way that hold a journal of
-- its link, and a stream of a live line.
pub record IsLineLivable (link : Way → LinkId) (key_before : Option (List ℕ))
    (told : Way → Option Slots) (input : Option (List ℕ)) : Type 0 where
  pub key : HasKey key_before
  pub journals : (way : Way) → HoldsJournal (link way) (told way)
  pub line : IsLiveStream input
