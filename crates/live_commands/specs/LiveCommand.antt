-- A command that drives a live line through a box: what each status says of the key, the port and
-- the journal's disk.
use Rattle.std.specs.Prelude.{◌≡◌, ℕ, ◌≤◌, ◌+◌, ◌⊎◌, List, ◌++◌, IfSome}
use Rattle.std.specs.Io.KnownBytes.{prepend_known, IsAtEnd}
use Rattle.yasir_io.specs.Causes.{Rose}
use Rattle.yasir_io.specs.Disks.{Slots, NoMore}
use Rattle.yasir_io.specs.declared.source.Source.{Ghosts as Source}
use Rattle.yasir_io.specs.declared.disk.SlotDisk.{Ghosts as SlotDisk}
use Rattle.yasir_ticks.specs.declared.tick.Tick.{Tick}
use Rattle.link_format.specs.declared.dir.Dir.{Dir}
use Rattle.link_format.specs.Setup.{Setup}
use Rattle.sequence_journal.specs.declared.link.LinkId.{LinkId}
use Rattle.sequence_journal.specs.Late.{HasFloorBetween}
use Rattle.sequence_journal.specs.Loading.{MayTakeOver, FindsNone, FindsOther, MayLeaveLoading}
use Rattle.tick_drive.specs.declared.consumer.Stop.{Stop}
use Rattle.tick_drive.specs.declared.consumer.Stop.TheVariants as stops
use Rattle.tick_drive.specs.declared.end.End.{End}
use Rattle.tick_drive.specs.declared.end.End.TheVariants.{Whole, Refused, Stopped}
use Rattle.tick_drive.specs.declared.end.End.TheVariants as ends
use Rattle.command_ends.specs.KeyText.{IsKeyMet, IsKeyText, IsNoKey, IsCutShort}
use Rattle.command_ends.specs.declared.status.Status.{Status}
use Rattle.command_ends.specs.declared.status.Status.TheVariants.{Done, BadTicks, ReadFault}
use Rattle.command_ends.specs.declared.status.Status.TheVariants.{WriteFault, JournalFault}
use Rattle.command_ends.specs.declared.status.Status.TheVariants.{TooLong, BadKey, BadJournal}
use Rattle.command_ends.specs.declared.status.Status.TheVariants.{WrongLink}
use Rattle.line_commands.specs.Boxes.{Boxed}
use Rattle.line_commands.specs.BoxLines.{ToldFloor}
use Rattle.line_commands.specs.ReplaysBox.{boxed_with, KeepsFloor, LeavesUptime, KeepsFloorFromLoad}
use Rattle.line_commands.specs.Sending.{made_by}
use Rattle.line_commands.specs.Order.{Handed, HandedFronts}
use Rattle.line_commands.specs.declared.port.Output.{Output}
use Rattle.line_commands.specs.declared.port.Port.{Ghosts as Port}
use Rattle.live_commands.specs.TextEnds.{EndsText}

-- what a run is handed besides the key: the port of the line, and the journal's disk
pub record Around (P D : Type 0) : Type 0 where
  pub port : P
  pub disk : D

-- the record with this port and disk
abbrev pub around : {P D : Type 0} → P → D → Around P D
around port disk = record { port = port; disk = disk }

-- how far above the last number used the floor of the slots may be when the reading of a line
-- ended in this way, if a settle writes a number that is `ahead` above it
abbrev pub left_ahead : ℕ → End → ℕ
left_ahead ahead ends.ReadFault = ahead
left_ahead ahead end = 0

module _ {P D : Type 0} (p : Port P) (d : SlotDisk D) (link : LinkId) where
  -- Holds if a text was read, and what the box makes of this line is written and flushed. Before
  -- each read all that had been decided was written and flushed, and before each write of the other
  -- line the notes of its ticks were. If a crash before the run left the slots as read, each image
  -- of the disk has at least the last number of the line as its floor, and makes an uptime with the
  -- line's numbers. The floor of the slots is at most `most` above the last number of the line.
  pub record Carries (most : ℕ) (box : Boxed) (before after : Around P D) (text : List ℕ)
      (line : List Tick) : Type 0 where
    pub handed : Handed (made_by box) (p.history before.port) (p.history after.port) text line
    pub images : KeepsFloor d link (box.number line) before.disk after.disk
    pub uptime : LeavesUptime d link (box.numbers line) before.disk after.disk
    pub floor_told : IfSome (d.told after.disk) (HasFloorBetween link (box.number line)
        (box.number line + most))

  -- Holds if the disk failed in a settle, when the box had taken the ticks `later` of these after
  -- those before, which are `line`. What it makes of `line` was written and flushed before the
  -- settle, and nothing since. The floor of the slots is between the last number of `line` and that
  -- of all ticks taken, or at most `most` above that.
  pub record FailsAtSettle (most : ℕ) (box : Boxed) (before after : Around P D) (text : List ℕ)
      (ticks : List Tick) : Type 0 where
    pub line : List Tick
    pub later : List Tick
    pub more : List Tick
    pub all : (line ++ later) ++ more ≡ ticks
    pub handed : Handed (made_by box) (p.history before.port) (p.history after.port) text line
    pub images : KeepsFloor d link (box.number line) before.disk after.disk
    pub uptime : LeavesUptime d link (box.numbers line) before.disk after.disk
    pub floor_told : IfSome (d.told after.disk) (HasFloorBetween link (box.number line)
        (box.number (line ++ later) + most))

  -- Holds if a write or a flush failed when the box had taken the ticks `line`, the first of these,
  -- and the disk was settled. Each output has got a front of what the box makes of `line`, and the
  -- notes were written first. The floor of the slots is at most `most` above the last number of
  -- `line`.
  pub record WritesFronts (most : ℕ) (box : Boxed) (before after : Around P D) (text : List ℕ)
      (ticks : List Tick) : Type 0 where
    pub line : List Tick
    pub more : List Tick
    pub all : line ++ more ≡ ticks
    pub fronts : HandedFronts (made_by box) (p.history before.port) (p.history after.port) text line
    pub images : KeepsFloor d link (box.number line) before.disk after.disk
    pub uptime : LeavesUptime d link (box.numbers line) before.disk after.disk
    pub floor_told : IfSome (d.told after.disk) (HasFloorBetween link (box.number line)
        (box.number line + most))

  -- why the box was stopped at one of these ticks; never for lack of memory, since it takes none
  abbrev pub HaltsBox : ℕ → Boxed → Around P D → Around P D → List ℕ → Stop → List Tick → Type 0
  HaltsBox most box before after text stops.JournalFault ticks =
      FailsAtSettle most box before after text ticks
  HaltsBox most box before after text stops.WriteFault ticks =
      WritesFronts most box before after text ticks
  HaltsBox most box before after text stops.NoMemory ticks = ⊥

  -- The box, for each floor of its journal, how many silent ticks follow a whole line, and how far
  -- above the last number used a settle writes.
  module _ (box : ℕ → Boxed) (rest ahead : ℕ) (before after : Around P D) where
    -- Holds if the reading of the line ended in this way.
    pub record EndsLine (end : End) : Type 0 where
      pub floor : ℕ
      pub text : List ℕ
      pub floor_before : ToldFloor link floor (d.told before.disk)
      pub came : p.left before.port ≡ prepend_known text (p.left after.port)
      pub ends : EndsText (Carries (left_ahead ahead end) (box floor) before after text)
          (HaltsBox ahead (box floor) before after text) rest (IsAtEnd (p.left after.port)) end text
      pub from_load : KeepsFloorFromLoad d link floor before.disk after.disk

    -- Holds if the journal was looked at, and nothing else was touched.
    pub record LooksAtJournal : Type 0 where
      pub port : after.port ≡ before.port
      pub told : d.told after.disk ≡ d.told before.disk
      pub images : NoMore (d.may_leave before.disk) (d.may_leave after.disk)
      pub images_back : NoMore (d.may_leave after.disk) (d.may_leave before.disk)

    -- Holds if the disk failed while the journal was loaded. Nothing else was touched, and a
    -- journal with only old slots may have been taken over, in part or whole.
    pub record FailsAtLoad : Type 0 where
      pub port : after.port ≡ before.port
      pub told : MayTakeOver link (d.told before.disk) (d.told after.disk)
      pub images : (c : Slots) → d.may_leave after.disk c
          → MayLeaveLoading (d.told before.disk) (d.may_leave before.disk) c

    -- What each status says of a run with this key and direction, from the load of the journal on.
    abbrev pub RunsLine : Status → Type 0
    RunsLine Done = EndsLine Whole
    RunsLine (BadTicks bad) = EndsLine (Refused bad)
    RunsLine (TooLong what count) = EndsLine (ends.TooLong what count)
    RunsLine ReadFault = EndsLine ends.ReadFault
        × Rose (p.read_faults before.port) (p.read_faults after.port)
    RunsLine JournalFault = EndsLine (Stopped stops.JournalFault) ⊎ FailsAtLoad
    RunsLine WriteFault = EndsLine (Stopped stops.WriteFault)
    RunsLine (BadJournal a b) = FindsNone (d.told before.disk) a b × LooksAtJournal
    RunsLine (WrongLink slot) = FindsOther link (d.told before.disk) slot × LooksAtJournal
    RunsLine status = ⊥

module _ {K P D : Type 0} (k : Source K) (p : Port P) (d : SlotDisk D) (boxed : Setup → Boxed)
    (link : LinkId) (dir : Dir) (rest ahead : ℕ) (key_before key_after : K)
    (before after : Around P D)
  where
    -- Holds if a right key text was met, and the status says this of the run with its key.
    pub record RunsKeyed (status : Status) : Type 0 where
      pub text : List ℕ
      pub key : List ℕ
      pub met : IsKeyMet (k.left key_before) (k.left key_after) text
      pub right : IsKeyText text key
      pub calm : k.faults key_after ≡ k.faults key_before
      pub runs : RunsLine p d link (boxed_with boxed key dir) rest ahead before after status

    -- Holds if what was met of the key isn't a key text, and nothing else was touched.
    pub record RefusesKey (place : ℕ) : Type 0 where
      pub text : List ℕ
      pub met : IsKeyMet (k.left key_before) (k.left key_after) text
      pub refused : IsNoKey text place
      pub calm : k.faults key_after ≡ k.faults key_before
      pub same : after ≡ before

    -- Holds if a read of the key failed, and nothing else was touched.
    pub record FailsAtKey : Type 0 where
      pub rose : Rose (k.faults key_before) (k.faults key_after)
      pub never_falls : k.faults key_before ≤ k.faults key_after
      pub cut : IsCutShort (k.left key_before) (k.left key_after)
      pub same : after ≡ before

    -- What each status says of the command.
    abbrev pub LivesBox : Status → Type 0
    LivesBox (BadKey place) = RefusesKey place
    LivesBox ReadFault = FailsAtKey ⊎ RunsKeyed ReadFault
    LivesBox status = RunsKeyed status

-- What a status says of the port's counts of faults. That of the input changes only if a read
-- failed, and those of the outputs change only if a write or a flush failed. In that case the count
-- of some output rose.
pub record PortCauses {P : Type 0} (p : Port P) (before after : P) (status : Status) : Type 0 where
  pub never_falls : p.read_faults before ≤ p.read_faults after
  pub no_read : (status ≡ ReadFault → ⊥) → p.read_faults after ≡ p.read_faults before
  pub no_write : (status ≡ WriteFault → ⊥) → (to : Output)
      → p.write_faults after to ≡ p.write_faults before to
  pub write : status ≡ WriteFault
      → (to : Output) × Rose (p.write_faults before to) (p.write_faults after to)
