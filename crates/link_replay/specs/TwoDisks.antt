-- What the program does over the disks of two journals. The second one is only that of the numbers that
-- came, of a live line of both ways. Every other command is over the first one.
use Rattle.std.specs.Prelude.{◌≡◌, ℕ, List, Option, Some, None}
use Rattle.line_commands.specs.ReplaysBox.{KeepsFloorThroughout}
use Rattle.yasir_io.specs.declared.source.Source.{Ghosts as Source}
use Rattle.yasir_io.specs.declared.sink.Sink.{Ghosts as Sink}
use Rattle.yasir_io.specs.declared.disk.SlotDisk.{Ghosts as SlotDisk}
use Rattle.command_ends.specs.Outside.{Outside, outside}
use Rattle.command_ends.specs.Programs.{Runs}
use Rattle.live_line.specs.declared.ways.Way.{Way}
use Rattle.link_replay.specs.Commands.{KeepsDisk, FlushesAfter, Does, MayDo, EndsWell, HasCauses}
use Rattle.live_ways.specs.BothDisks.{disk_on}
use Rattle.live_ways.specs.WayCommand.{IsLineLivable}
use Rattle.live_ways.specs.WayStreams.{LivesWays, HasLineCauses}
use Rattle.live_ways.specs.declared.both_disks.BothDisks.{BothDisks}
use Rattle.live_ways.specs.declared.line_status.Ended.{Ended}
use Rattle.link_replay.specs.LiveCommands.{own_line}
use Rattle.link_replay.specs.declared.words.Command.{Command}
use Rattle.link_replay.specs.declared.words.Command.TheVariants.{LiveLine}

-- the outside with the first of its two disks alone
abbrev pub over_first : {K S O L D : Type 0} → Outside K S O L (BothDisks D) → Outside K S O L D
over_first at = outside at.key at.input at.out at.log at.disk.first

-- the disk of a way's journal, or that of the only journal
abbrev pub disk_of : {D : Type 0} → Option Way → BothDisks D → D
disk_of None disks = disks.first
disk_of (Some way) disks = disk_on disks way

-- What a crash may leave of the disks, at any moment of the run or at its end. Only a live line of both
-- ways touches the second one.
abbrev pub KeepsDisks : {D : Type 0} → SlotDisk D → Option Command → BothDisks D → BothDisks D → Type 0
KeepsDisks d (Some (LiveLine proto profile dir)) old new =
    (way : Way) → KeepsFloorThroughout d ((own_line proto profile dir).link way) (disk_on old way)
    (disk_on new way)
KeepsDisks d asked old new = KeepsDisk d asked old.first new.first × (new.second ≡ old.second)

-- What was done to the log between a command's end and the end of the run, of which `line` is the text.
abbrev pub FlushesLog : {L : Type 0} → Sink L → (Ended → List ℕ) → Option Command → L → L → Ended
    → Type 0
FlushesLog l line asked noted now ended = FlushesAfter l asked noted now (line ended)

module _ {K S O L D : Type 0} (k : Source K) (s : Source S) (o : Sink O) (l : Sink L)
    (d : SlotDisk D) where
  -- Holds if a command with one journal, or none, was done. The second disk is as it was, and the
  -- end is about no way of a live line.
  pub record DoesOverFirst (asked : Option Command) (before after : Outside K S O L (BothDisks D))
      (ended : Ended) : Type 0 where
    pub does : Does k s o l d asked (over_first before) (over_first after) ended.status
    pub second : after.disk.second ≡ before.disk.second
    pub way : ended.way ≡ None

  -- What is done before the fault line is written.
  abbrev pub DoesOverTwo : Option Command → Outside K S O L (BothDisks D)
      → Outside K S O L (BothDisks D) → Ended → Type 0
  DoesOverTwo (Some (LiveLine proto profile dir)) before after ended =
      LivesWays k s o l d (own_line proto profile dir) before after ended
  DoesOverTwo asked before after ended = DoesOverFirst asked before after ended

  -- What a run does: what was asked for, and then the writing of the text of a fault. `line` is that
  -- text for each end.
  abbrev pub RunsSo : (Ended → List ℕ) → Option Command → Outside K S O L (BothDisks D)
      → Outside K S O L (BothDisks D) → Ended → Type 0
  RunsSo line = Runs l line DoesOverTwo (FlushesLog l line)

  -- Holds if all that the command is given is right.
  abbrev pub MayDoOverTwo : Option Command → Outside K S O L (BothDisks D) → Type 0
  MayDoOverTwo (Some (LiveLine proto profile dir)) before =
      IsLineLivable (own_line proto profile dir).link (k.left before.key)
      (λ way. d.told (disk_on before.disk way)) (s.left before.input)
  MayDoOverTwo asked before = MayDo k s o l d asked (over_first before)

  -- How a command may end if all that it is given is right and nothing outside fails.
  abbrev pub EndsWellOverTwo : Option Command → Outside K S O L (BothDisks D) → Ended → Type 0
  EndsWellOverTwo asked before ended = EndsWell k s o l d asked (over_first before) ended.status

  -- For each end, which counts of faults rose, and, but for a live line, which flushes were made.
  abbrev pub HasCausesOverTwo : Option Command → Outside K S O L (BothDisks D)
      → Outside K S O L (BothDisks D) → Ended → Type 0
  HasCausesOverTwo (Some (LiveLine proto profile dir)) before after ended =
      HasLineCauses k s o l d before after ended
  HasCausesOverTwo asked before after ended =
      HasCauses k s o l d asked (over_first before) (over_first after) ended.status
