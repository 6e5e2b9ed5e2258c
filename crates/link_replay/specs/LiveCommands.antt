-- The commands `live seal` and `live check`: the transmitter and the receiver on a line as it comes;
-- and `live line`: both, on both ways of it.
use Rattle.std.specs.Prelude.{◌≢◌, ◌⊎◌, List, [], ℕ}
use Rattle.yasir_io.specs.Causes.{Rose}
use Rattle.yasir_io.specs.Flushed.{IsFlushed}
use Rattle.yasir_io.specs.declared.source.Source.{Ghosts as Source}
use Rattle.yasir_io.specs.declared.sink.Sink.{Ghosts as Sink}
use Rattle.yasir_io.specs.declared.disk.SlotDisk.{Ghosts as SlotDisk}
use Rattle.link_format.specs.declared.dir.Dir.{Dir}
use Rattle.command_ends.specs.Links.{link_of}
use Rattle.command_ends.specs.Outside.{Outside}
use Rattle.command_ends.specs.declared.status.Status.{Status}
use Rattle.command_ends.specs.declared.link.Profile.{Profile}
use Rattle.command_ends.specs.declared.link.Proto.{Proto}
use Rattle.line_commands.specs.LinkBoxes.{seal_boxed, seal_rest, check_boxed, check_rest}
use Rattle.command_ends.specs.Causes.{DiskCause}
use Rattle.live_commands.specs.LineEnds.{LivesOver, HasCounts}
use Rattle.live_ways.specs.WayCommand.{BothWays}
use Rattle.live_ways.specs.WayStreams.{line_of_link}
use Rattle.link_replay.specs.declared.commands.live.TheConstants.{LIVE_AHEAD}

-- both ways of a live line, as `live line` runs them
abbrev pub own_line : Proto → Profile → Dir → BothWays
own_line = line_of_link LIVE_AHEAD

module _ {K S O L D : Type 0} (k : Source K) (s : Source S) (o : Sink O) (l : Sink L)
    (d : SlotDisk D) where
  -- What `live seal` does.
  abbrev pub SealsLive : Proto → Profile → Dir → Outside K S O L D → Outside K S O L D → Status
      → Type 0
  SealsLive proto profile dir before after status =
      LivesOver k s o l d (seal_boxed proto profile) (link_of proto profile dir) dir
      (seal_rest profile) LIVE_AHEAD before after status

  -- What `live check` does.
  abbrev pub ChecksLive : Proto → Profile → Dir → Outside K S O L D → Outside K S O L D → Status
      → Type 0
  ChecksLive proto profile dir before after status =
      LivesOver k s o l d (check_boxed proto profile) (link_of proto profile dir) dir check_rest 0
      before after status

  -- For each status of a live line's command, which counts of faults rose.
  pub record HasLiveCauses (before after : Outside K S O L D) (status : Status) : Type 0 where
    pub counts : HasCounts k s o l before after status
    pub disk : DiskCause (d.faults before.disk) (d.faults after.disk) status

-- Holds if the log was flushed behind the text of a fault, if there is one, or the write of that
-- text or the flush failed.
abbrev pub FlushesFault : {L : Type 0} → Sink L → L → L → List ℕ → Type 0
FlushesFault l noted now text = text ≢ []
    → IsFlushed l noted now ⊎ Rose (l.faults noted) (l.faults now)
