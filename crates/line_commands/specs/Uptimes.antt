-- Runs of a box's command over a disk, as uptimes of the box.
use Rattle.std.specs.Prelude.{◌≡◌, ◌⊎◌, ℕ, List, [], take, Some}
use Rattle.std.proofs.Common.{inl, inr}
use Rattle.yasir_io.specs.Disks.{Slots}
use Rattle.yasir_io.specs.declared.disk.Slot.TheVariants.{A}
use Rattle.yasir_io.specs.declared.source.Source.{Ghosts as Source}
use Rattle.yasir_io.specs.declared.sink.Sink.{Ghosts as Sink}
use Rattle.yasir_io.specs.declared.disk.SlotDisk.{Ghosts as SlotDisk}
use Rattle.yasir_ticks.specs.Ticks.{ticks_in}
use Rattle.yasir_ticks.specs.declared.tick.Tick.{Tick}
use Rattle.link_format.specs.declared.dir.Dir.{Dir}
use Rattle.link_format.specs.Setup.{Setup}
use Rattle.sequence_journal.specs.declared.link.LinkId.{LinkId}
use Rattle.sequence_journal.specs.Slots.{floor_of}
use Rattle.sequence_journal.specs.Journal.{AreSameBut}
use Rattle.sequence_journal.specs.Loading.{IsOld}
use Rattle.sequence_journal.specs.Uptimes.{IsUptime, IsIdle}
use Rattle.command_ends.specs.Outside.{Outside}
use Rattle.command_ends.specs.declared.status.Status.{Status}
use Rattle.command_ends.specs.declared.status.Status.TheVariants.{Done, BadTicks, TooLong}
use Rattle.command_ends.specs.declared.status.Status.TheVariants.{ReadFault, WriteFault}
use Rattle.command_ends.specs.declared.status.Status.TheVariants.{JournalFault}
use Rattle.line_commands.specs.Boxes.{Boxed}
use Rattle.line_commands.specs.ReplaysBox.{Around, around_of, RunsBox, RunsKeyed, boxed_with}

-- The box began with the floor of the slots `begins` and took a line, and the numbers that it used
-- for this line make an uptime from `begins` to `image`. `box` is what the box makes of a line, by
-- the floor of its journal.
pub record WasUptime (link : LinkId) (box : ℕ → Boxed) (begins image : Slots) : Type 0 where
  pub floor : ℕ
  pub line : List Tick
  pub loads : floor_of link begins ≡ Some floor
  pub is : IsUptime link begins ((box floor).numbers line) image

-- An old journal was being taken over: all slots but A are as they were, and the run is an uptime
-- that has loaded no floor.
pub record WasTakenOver (link : LinkId) (begins image : Slots) : Type 0 where
  pub number : ℕ
  pub is_old : IsOld number begins
  pub same : AreSameBut A begins image
  pub idle : IsIdle link begins [] image

module _ {S O L D : Type 0} (s : Source S) (o : Sink O) (l : Sink L) (d : SlotDisk D)
    (link : LinkId) (box : ℕ → Boxed) (before after : Around S O L D) (rest : ℕ) where
  -- Holds if the box took this line, for which it used its numbers, in a run that ended with this
  -- status: all ticks that were taken of the input, or those for which the disk was settled before
  -- a settle failed, or those that the box had taken when a write failed.
  abbrev pub TookLine : (status : Status) → RunsBox s o l d link box before after rest status
      → List Tick → Type 0
  TookLine Done ran line = line ≡ ticks_in ran.items
  TookLine (BadTicks bad) ran line = line ≡ ticks_in ran.items
  TookLine (TooLong what count) ran line = line ≡ ticks_in ran.items
  TookLine ReadFault ran line = line ≡ ticks_in ran.items
  TookLine JournalFault (inl failed) line =
      line ≡ take failed.makes.early (take failed.count (ticks_in failed.items))
  TookLine JournalFault (inr failed) line = ⊥
  TookLine WriteFault ran line = line ≡ take ran.count (ticks_in ran.items)
  TookLine status ran line = ⊥

module _ {K S O L D : Type 0} (k : Source K) (s : Source S) (o : Sink O) (l : Sink L)
    (d : SlotDisk D)
    (boxed : Setup → Boxed) (link : LinkId) (dir : Dir) (rest : ℕ)
    (before after : Outside K S O L D) where
  -- The run was an uptime of the box with the key that was read, and its line is the one that the
  -- box took in the run.
  pub record RanAsUptime (status : Status) (begins image : Slots) : Type 0 where
    pub ran : RunsKeyed k s o l d boxed link dir rest before after status
    pub was : WasUptime link (boxed_with boxed ran.key dir) begins image
    pub took : TookLine s o l d link (boxed_with boxed ran.key dir) (around_of before)
        (around_of after) rest status ran.runs was.line

  -- The run was an uptime, or it left the slots as they were, or a fault cut it off while it took
  -- over an old journal.
  abbrev pub IsUptimeOrNone : Status → Slots → Slots → Type 0
  IsUptimeOrNone status begins image = RanAsUptime status begins image
      ⊎ ((image ≡ begins) ⊎ WasTakenOver link begins image)
