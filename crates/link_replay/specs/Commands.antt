-- What the program does over one disk, for each command but `live line` that its words may ask for, or
-- if they ask for none.
use Rattle.std.specs.Prelude.{◌≡◌, ◌⊎◌, ℕ, List, Option, Some, None}
use Rattle.yasir_io.specs.declared.source.Source.{Ghosts as Source}
use Rattle.yasir_io.specs.declared.sink.Sink.{Ghosts as Sink}
use Rattle.yasir_io.specs.declared.disk.SlotDisk.{Ghosts as SlotDisk}
use Rattle.yasir_io.specs.declared.disk.Slot.TheVariants.{A}
use Rattle.yasir_io.specs.Disks.{LeavesOnly}
use Rattle.yasir_io.specs.Flushed.{IsNotFlushed}
use Rattle.sequence_journal.specs.Journal.{IsBut}
use Rattle.command_ends.specs.Outside.{Outside}
use Rattle.command_ends.specs.Causes.{InputCause, DiskCause}
use Rattle.command_ends.specs.StreamCauses.{HasStreamCauses}
use Rattle.link_replay.specs.InitCommand.{Inits, IsBlank}
use Rattle.command_ends.specs.Readable.{IsReadable}
use Rattle.link_replay.specs.ReadCommand.{ReadsOverInput}
use Rattle.link_replay.specs.VectorsCommand.{Tabulates}
use Rattle.line_commands.specs.ReplaysBox.{IsReplayable, KeepsFloorThroughout}
use Rattle.command_ends.specs.Links.{link_of}
use Rattle.live_commands.specs.Able.{IsLivable}
use Rattle.link_replay.specs.SealCommand.{Seals}
use Rattle.link_replay.specs.LiveCommands.{SealsLive, ChecksLive, HasLiveCauses, FlushesFault}
use Rattle.link_replay.specs.CheckCommand.{Checks}
use Rattle.link_replay.specs.ReplayCommand.{Replays, IsListable}
use Rattle.link_replay.specs.TrialCommand.{Tries}
use Rattle.link_replay.specs.PollCommand.{Polls}
use Rattle.link_replay.specs.SpaceCommand.{Spaces}
use Rattle.link_replay.specs.AuditCommand.{Audits, EndsWithVerdict}
use Rattle.link_replay.specs.DuplexCommand.{Duplexes}
use Rattle.link_replay.specs.TwoWireCommand.{DrivesTwoWires}
use Rattle.link_replay.specs.AboutCommands.{Helps, TellsVersion}
use Rattle.command_ends.specs.declared.status.Status.{Status}
use Rattle.command_ends.specs.declared.status.Status.TheVariants.{Usage, Done, NoMemory}
use Rattle.link_replay.specs.declared.words.Command.{Command}
use Rattle.link_replay.specs.declared.words.Command.TheVariants.{Init, Read, Vectors, Seal, Check}
use Rattle.link_replay.specs.declared.words.Command.TheVariants.{Replay, Trial, Poll, Space}
use Rattle.link_replay.specs.declared.words.Command.TheVariants.{Audit, Duplex, LiveSeal, LiveCheck}
use Rattle.link_replay.specs.declared.words.Command.TheVariants.{TwoWire, LiveLine, Help, Version}

-- What a crash may leave of the disk, at any moment of the run or at its end.
abbrev pub KeepsDisk : {D : Type 0} → SlotDisk D → Option Command → D → D → Type 0
KeepsDisk d (Some (Init proto profile dir)) old new =
    LeavesOnly d.moment d.left_since old new (IsBut A (d.may_leave old))
KeepsDisk d (Some (Seal proto profile dir)) old new =
    KeepsFloorThroughout d (link_of proto profile dir) old new
KeepsDisk d (Some (Check proto profile dir)) old new =
    KeepsFloorThroughout d (link_of proto profile dir) old new
KeepsDisk d (Some (LiveSeal proto profile dir)) old new =
    KeepsFloorThroughout d (link_of proto profile dir) old new
KeepsDisk d (Some (LiveCheck proto profile dir)) old new =
    KeepsFloorThroughout d (link_of proto profile dir) old new
KeepsDisk d asked old new = new ≡ old

-- What was done to the log between a command's end and the end of the run: the text of a fault was
-- written to it, and for a live line's command it was flushed behind that text.
abbrev pub FlushesAfter : {L : Type 0} → Sink L → Option Command → L → L → List ℕ → Type 0
FlushesAfter l (Some (LiveSeal proto profile dir)) noted now text = FlushesFault l noted now text
FlushesAfter l (Some (LiveCheck proto profile dir)) noted now text = FlushesFault l noted now text
FlushesAfter l (Some (LiveLine proto profile dir)) noted now text = FlushesFault l noted now text
FlushesAfter l asked noted now text = IsNotFlushed l noted now

-- The causes that depend on the command: that of the disk and, if the command reads no key, that of
-- the input.
abbrev pub HasOwnCauses : Option Command → ℕ → ℕ → ℕ → ℕ → Status → Type 0
HasOwnCauses (Some (Seal proto profile dir)) in_before in_now disk_before disk_now status =
    DiskCause disk_before disk_now status
HasOwnCauses (Some (Check proto profile dir)) in_before in_now disk_before disk_now status =
    DiskCause disk_before disk_now status
HasOwnCauses (Some (Replay proto profile dir)) in_before in_now disk_before disk_now status =
    DiskCause disk_before disk_now status
HasOwnCauses (Some (Audit asked)) in_before in_now disk_before disk_now status =
    DiskCause disk_before disk_now status
HasOwnCauses (Some (Duplex proto profile dir)) in_before in_now disk_before disk_now status =
    DiskCause disk_before disk_now status
HasOwnCauses (Some (TwoWire proto profile dir side waits)) in_before in_now disk_before disk_now
    status = DiskCause disk_before disk_now status
HasOwnCauses asked in_before in_now disk_before disk_now status =
    InputCause in_before in_now status × DiskCause disk_before disk_now status

module _ {K S O L D : Type 0} (k : Source K) (s : Source S) (o : Sink O) (l : Sink L)
    (d : SlotDisk D) where
  -- What is done before the fault line is written: nothing at all if the words ask for no command.
  -- `live line` isn't done over one disk.
  abbrev pub Does : Option Command → Outside K S O L D → Outside K S O L D → Status → Type 0
  Does None before after status = (status ≡ Usage) × (after ≡ before)
  Does (Some (Init proto profile dir)) before after status =
      Inits o l d (link_of proto profile dir) before after status
  Does (Some (Read proto)) before after status = ReadsOverInput s o l proto before after status
  Does (Some Vectors) before after status = Tabulates o l before after status
  Does (Some (Seal proto profile dir)) before after status =
      Seals k s o l d proto profile dir before after status
  Does (Some (Check proto profile dir)) before after status =
      Checks k s o l d proto profile dir before after status
  Does (Some (Replay proto profile dir)) before after status =
      Replays k s o l proto profile dir before after status
  Does (Some (Trial proto profile seed count)) before after status =
      Tries o l proto profile seed count before after status
  Does (Some (Poll proto profile seed count)) before after status =
      Polls o l proto profile seed count before after status
  Does (Some (Space proto profile)) before after status =
      Spaces s o l proto profile before after status
  Does (Some (Audit asked)) before after status =
      Audits k s o l asked before after status
  Does (Some (Duplex proto profile dir)) before after status =
      Duplexes k s o l proto profile dir before after status
  Does (Some (TwoWire proto profile dir side waits)) before after status =
      DrivesTwoWires k s o l proto profile dir side waits before after status
  Does (Some (LiveSeal proto profile dir)) before after status =
      SealsLive k s o l d proto profile dir before after status
  Does (Some (LiveCheck proto profile dir)) before after status =
      ChecksLive k s o l d proto profile dir before after status
  Does (Some (LiveLine proto profile dir)) before after status = ⊥
  Does (Some Help) before after status = Helps o l before after status
  Does (Some Version) before after status = TellsVersion o l before after status

  -- Holds if all that the command is given is right.
  abbrev pub MayDo : Option Command → Outside K S O L D → Type 0
  MayDo None before = ⊥
  MayDo (Some (Init proto profile dir)) before = IsBlank (d.told before.disk)
  MayDo (Some (Read proto)) before = IsReadable (s.left before.input)
  MayDo (Some Vectors) before = Unit {0}
  MayDo (Some (Seal proto profile dir)) before =
      IsReplayable (link_of proto profile dir) (k.left before.key) (d.told before.disk)
      (s.left before.input)
  MayDo (Some (Check proto profile dir)) before =
      IsReplayable (link_of proto profile dir) (k.left before.key) (d.told before.disk)
      (s.left before.input)
  MayDo (Some (Trial proto profile seed count)) before = Unit {0}
  MayDo (Some (Poll proto profile seed count)) before = Unit {0}
  MayDo (Some (Space proto profile)) before = IsReadable (s.left before.input)
  MayDo (Some (Replay proto profile dir)) before = IsListable 1 (k.left before.key)
      (s.left before.input)
  MayDo (Some (Audit asked)) before = IsListable 2 (k.left before.key)
      (s.left before.input)
  MayDo (Some (Duplex proto profile dir)) before = IsListable 1 (k.left before.key)
      (s.left before.input)
  MayDo (Some (TwoWire proto profile dir side waits)) before = IsListable 1 (k.left before.key)
      (s.left before.input)
  MayDo (Some (LiveSeal proto profile dir)) before =
      IsLivable (link_of proto profile dir) (k.left before.key) (d.told before.disk)
      (s.left before.input)
  MayDo (Some (LiveCheck proto profile dir)) before =
      IsLivable (link_of proto profile dir) (k.left before.key) (d.told before.disk)
      (s.left before.input)
  MayDo (Some (LiveLine proto profile dir)) before = ⊥
  MayDo (Some Help) before = Unit {0}
  MayDo (Some Version) before = Unit {0}

  -- How a command may end if all that it is given is right and nothing outside fails. Only
  -- `replay`, `space`, `audit`, `duplex`, `two_wire`, `poll` and `live line` take memory, and there may
  -- be none for them. An audit ends with the status of its verdict on the recordings that it was given.
  abbrev pub EndsWell : Option Command → Outside K S O L D → Status → Type 0
  EndsWell (Some (Replay proto profile dir)) before status = (status ≡ Done) ⊎ (status ≡ NoMemory)
  EndsWell (Some (Poll proto profile seed count)) before status =
      (status ≡ Done) ⊎ (status ≡ NoMemory)
  EndsWell (Some (Space proto profile)) before status = (status ≡ Done) ⊎ (status ≡ NoMemory)
  EndsWell (Some (Audit asked)) before status =
      EndsWithVerdict asked (k.left before.key)
      (s.left before.input) status ⊎ (status ≡ NoMemory)
  EndsWell (Some (Duplex proto profile dir)) before status = (status ≡ Done) ⊎ (status ≡ NoMemory)
  EndsWell (Some (TwoWire proto profile dir side waits)) before status =
      (status ≡ Done) ⊎ (status ≡ NoMemory)
  EndsWell (Some (LiveLine proto profile dir)) before status = (status ≡ Done) ⊎ (status ≡ NoMemory)
  EndsWell asked before status = status ≡ Done

  -- For each status of a command that isn't one of a live line, which counts of faults rose, and
  -- which flushes were made. Both sinks are flushed on the way to Done and to Unclean, once each,
  -- after all that was written, and nowhere else.
  pub record HasRecordedCauses (asked : Option Command) (before after : Outside K S O L D)
      (status : Status) : Type 0 where
    pub streams : HasStreamCauses k s o l before after status
    pub own : HasOwnCauses asked (s.faults before.input) (s.faults after.input)
        (d.faults before.disk) (d.faults after.disk) status

  -- For each status, which counts of faults rose, and, but for a live line, which flushes were made.
  abbrev pub HasCauses : Option Command → Outside K S O L D → Outside K S O L D → Status → Type 0
  HasCauses (Some (LiveSeal proto profile dir)) before after status =
      HasLiveCauses k s o l d before after status
  HasCauses (Some (LiveCheck proto profile dir)) before after status =
      HasLiveCauses k s o l d before after status
  HasCauses asked before after status = HasRecordedCauses asked before after status
