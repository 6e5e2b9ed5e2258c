-- What holds of a run over the disks of two journals: its causes hold after the fault line, too, and
-- where all is right and nothing outside fails, it ends well.
use Rattle.std.proofs.Common.{◌≡◌, ℕ, ◌≤◌, List, [], Option, Some, None, arith, refl, subst}
use Rattle.command_ends.specs.declared.link.{Profile.Profile, Proto.Proto}
use Rattle.link_format.specs.declared.dir.Dir.{Dir}
use Rattle.command_ends.specs.Causes.{SinkCause}
use Rattle.command_ends.specs.Outside.{Outside}
use Rattle.command_ends.specs.Programs.{EndsLog, IsCalm}
use Rattle.command_ends.specs.Reasons.{untold}
use Rattle.command_ends.specs.Statuses.{fault_line}
use Rattle.link_replay.proofs.Outcomes.{causes_after, counts_after, sinks_in}
use Rattle.link_replay.specs.Commands.{FlushesAfter, HasCauses, KeepsDisk, MayDo}
use Rattle.link_replay.specs.TwoDisks.{DoesOverFirst, DoesOverTwo, HasCausesOverTwo, KeepsDisks}
use Rattle.link_replay.specs.TwoDisks.{MayDoOverTwo, over_first}
use Rattle.link_replay.specs.Words.{IsOverOne}
use Rattle.link_replay.specs.declared.words.Command.{Command}
use Rattle.link_replay.specs.declared.words.Command.TheVariants.{LiveLine}
use Rattle.live_line.specs.declared.ways.Way.{Way, TheVariants.Outgoing}
use Rattle.live_ways.specs.{WayCommand.BothWays, WayStreams.IsLineCalm, WayStreams.LivesWays}
use Rattle.command_ends.specs.declared.status.Status.TheVariants.{Usage}
use Rattle.live_ways.specs.declared.both_disks.BothDisks.{BothDisks}
use Rattle.live_ways.specs.declared.line_status.Ended.{Ended}
use Rattle.yasir_io.specs.declared.{disk.SlotDisk.Ghosts as SlotDisk, sink.Sink.Ghosts as Sink}
use Rattle.yasir_io.specs.declared.source.Source.{Ghosts as Source}
use Rattle.yasir_io.specs.Causes.{Rose}

-- A command that isn't `live line` has one journal or none.
pub over_one : (command : Command)
    → ((proto : Proto) (profile : Profile) (dir : Dir) → command ≡ LiveLine proto profile dir → ⊥)
    → IsOverOne (Some command)
over_one (LiveLine proto profile dir) other = absurd (other proto profile dir refl)
over_one command other = tt

rose_then : (a b c : ℕ) → Rose a b → b ≤ c → Rose a c
rose_then a b c rose le = omega (arith, rose, le)

module _ {K S O L D : Type 0} (k : Source K) (s : Source S) (o : Sink O) (l : Sink L)
    (d : SlotDisk D) where
  usage_never : (line : BothWays) (before after : Outside K S O L (BothDisks D)) (way : Option Way)
      → LivesWays k s o l d line before after (record { status = Usage; way = way }) → ⊥
  usage_never line before after None h = h.runs
  usage_never line before after (Some way) h = h.runs

  -- A run of a live line of both ways has found its words.
  pub never_used : (line : BothWays) (before after : Outside K S O L (BothDisks D)) (ended : Ended)
      → LivesWays k s o l d line before after ended → ended.status ≡ Usage → ⊥
  never_used line before after ended lives is = usage_never line before after ended.way
      (subst (λ status. LivesWays k s o l d line before after
      (record { status = status; way = ended.way })) is lives)

  pub causes_after_two : (asked : Option Command) (before after : Outside K S O L (BothDisks D))
      (noted : L) (ended : Ended) (line : List ℕ) → (fault_line untold ended.status ≡ [] → line ≡ [])
      → HasCausesOverTwo k s o l d asked before (record after { log = noted }) ended
      → EndsLog l noted after.log line → FlushesAfter l asked noted after.log line
      → HasCausesOverTwo k s o l d asked before after ended
  causes_after_two (Some (LiveLine proto profile dir)) before after noted ended line none h ends
      flushed = record {
        counts = counts_after k s o l before after noted ended.status line none h.counts ends;
        disks = h.disks;
      }
  causes_after_two asked before after noted ended line none h ends flushed =
      causes_after k s o l d asked (over_first before) (over_first after) noted ended.status line tt
      none h ends flushed

  -- What the causes say of the sinks, for whatever command.
  pub sinks_in_two : (asked : Option Command) (before after : Outside K S O L (BothDisks D))
      (ended : Ended) → HasCausesOverTwo k s o l d asked before after ended
      → SinkCause (o.faults before.out) (o.faults after.out) (l.faults before.log)
      (l.faults after.log) ended.status
  sinks_in_two (Some (LiveLine proto profile dir)) before after ended h = h.counts.sinks
  sinks_in_two asked before after ended h =
      sinks_in k s o l d asked (over_first before) (over_first after) ended.status h

  -- If nothing outside failed, nothing failed over the first disk alone.
  pub calm_over_first : (before after : Outside K S O L (BothDisks D))
      → IsLineCalm k s o l d before after
      → IsCalm k.faults s.faults o.faults l.faults d.faults (over_first before) (over_first after)
  calm_over_first before after calm = record {
    key = calm.key;
    input = calm.input;
    out = calm.out;
    log = calm.log;
    disk = calm.disks Outgoing;
  }

  -- If no count of faults rose in a run, none had risen before the fault line was written.
  pub calm_before_two : (before after : Outside K S O L (BothDisks D)) (noted : L)
      → l.faults noted ≤ l.faults after.log → IsLineCalm k s o l d before after
      → IsLineCalm k s o l d before (record after { log = noted })
  calm_before_two before after noted rises calm = record {
    key = calm.key;
    input = calm.input;
    out = calm.out;
    log = λ rose. calm.log (rose_then _ _ _ rose rises);
    disks = calm.disks;
  }

  -- What is done over the first disk alone, for each command but `live line`.
  pub does_over_first : (asked : Option Command) (before after : Outside K S O L (BothDisks D))
      (ended : Ended) → IsOverOne asked → DoesOverFirst k s o l d asked before after ended
      → DoesOverTwo k s o l d asked before after ended
  does_over_first (Some (LiveLine proto profile dir)) before after ended one h = absurd one
  does_over_first asked before after ended one h = h

  pub keeps_over_first : (asked : Option Command) (old new : BothDisks D) → IsOverOne asked
      → KeepsDisk d asked old.first new.first → new.second ≡ old.second
      → KeepsDisks d asked old new
  keeps_over_first (Some (LiveLine proto profile dir)) old new one first second = absurd one
  keeps_over_first asked old new one first second = (first, second)

  pub causes_over_first : (asked : Option Command) (before after : Outside K S O L (BothDisks D))
      (ended : Ended) → IsOverOne asked
      → HasCauses k s o l d asked (over_first before) (over_first after) ended.status
      → HasCausesOverTwo k s o l d asked before after ended
  causes_over_first (Some (LiveLine proto profile dir)) before after ended one h = absurd one
  causes_over_first asked before after ended one h = h

  pub may_over_first : (asked : Option Command) (before : Outside K S O L (BothDisks D))
      → IsOverOne asked → MayDoOverTwo k s o l d asked before
      → MayDo k s o l d asked (over_first before)
  may_over_first (Some (LiveLine proto profile dir)) before one may = absurd one
  may_over_first asked before one may = may
