-- What a run of a live line of two ways with a key says, once both journals are loaded.
use Rattle.command_ends.specs.Causes.{DiskCause}
use Rattle.frame_ending.specs.Causal.{IsCausal}
use Rattle.line_commands.specs.ReplaysBox.{KeepsFloorThroughout, boxed_with}
use Rattle.line_commands.specs.declared.spacers.LineSpacer.{Ghosts as LineSpacer}
use Rattle.line_commands.specs.declared.streams.Streams.{Streams}
use Rattle.link_box.specs.Walking.{frames_of}
use Rattle.link_box.specs.declared.box_trait.LinkBox.{Ghosts as LinkBox}
use Rattle.link_format.specs.NumberedFrame.{numbers_of}
use Rattle.link_format.specs.Setup.{Setup}
use Rattle.live_line.specs.declared.guarded_box.GuardedBox.{GuardedBox}
use Rattle.live_line.specs.declared.plain_box.PlainBox.{PlainBox}
use Rattle.live_line.specs.declared.way_box.WayBox.{Ghosts as WayBox}
use Rattle.live_line.specs.declared.ways.Way.{Way}
use Rattle.live_ways.proofs.CommandBoxes.{ready_first, level_first, clear_first, made_is, number_is}
use Rattle.live_ways.proofs.CommandBoxes.{rising_numbers, makes_nothing, at_floor}
use Rattle.live_ways.proofs.CommandCounts.{disk_counts, stream_counts}
use Rattle.live_ways.proofs.CommandRuns.{streams_port, runs_line, throughout}
use Rattle.live_ways.specs.BothDisks.{disk_on, status_about}
use Rattle.live_ways.specs.Driving.{Drives, IsLevel}
use Rattle.live_ways.specs.LineBegins.{BeginsBoth, plain_way, guarded_way, setups}
use Rattle.live_ways.specs.LiveLine.{LineAt, line_at, IsReadyLine}
use Rattle.live_ways.specs.WayCommand.{BothWays, around, status_of_end, way_of_end}
use Rattle.live_ways.specs.WayLoads.{LoadsBoth}
use Rattle.live_ways.specs.WayStreams.{line_of_boxes, links_of, ends_of, RunsWays, HasStreamCounts}
use Rattle.live_ways.specs.declared.both_disks.BothDisks.{BothDisks}
use Rattle.live_ways.specs.declared.both_ways.LiveLine.{LiveLine}
use Rattle.live_ways.specs.declared.line_status.Ended.{Ended}
use Rattle.live_ways.specs.declared.loads.BothJournals.{BothJournals}
use Rattle.live_ways.specs.declared.loads.LineLinks.{LineLinks}
use Rattle.live_ways.specs.declared.way_end.WayEnd.{WayEnd}
use Rattle.sequence_journal.specs.Uptimes.{RiseFrom}
use Rattle.std.proofs.Common.{◌≡◌, ℕ, List, subst}
use Rattle.yasir_io.specs.declared.disk.SlotDisk.{Ghosts as SlotDisk}
use Rattle.yasir_io.specs.declared.sink.Sink.{Ghosts as Sink}
use Rattle.yasir_io.specs.declared.source.Source.{Ghosts as Source}
use Rattle.yasir_ticks.specs.declared.tick.Tick.{Tick}

module _ {B N C M G S O L D : Type 0} (b : LinkBox B N) (sent_line : N → List ℕ) (c : LinkBox C M)
    (got_line : M → List ℕ) (g : LineSpacer G) (s : Source S) (o : Sink O) (l : Sink L)
    (d : SlotDisk D)
    (sent_causal : (value : B) (last : ℕ) (setup : Setup) (line : List Tick)
    → b.stands value last setup line → IsCausal (b.walking.walker setup))
    (sent_rising : (setup : Setup) (line : List Tick)
    → RiseFrom setup.floor (numbers_of (frames_of b.walking setup line)))
    (got_causal : (value : C) (last : ℕ) (setup : Setup) (line : List Tick)
    → c.stands value last setup line → IsCausal (c.walking.walker setup))
    (got_rising : (setup : Setup) (line : List Tick)
    → RiseFrom setup.floor (numbers_of (frames_of c.walking setup line)))
    (of : LineLinks) (key : List ℕ) (journals : BothJournals) (before disks : BothDisks D)
    (loads : LoadsBoth d (links_of of) before disks journals)
    (line : LiveLine (PlainBox B) (GuardedBox C G)) (port : Streams S O L) where
  abbrev ways : BothWays
  ways = line_of_boxes b sent_line c got_line g of

  abbrev setup : Way → Setup
  setup = setups ways key journals

  abbrev sends : WayBox (PlainBox B)
  sends = plain_way b sent_line

  abbrev gets : WayBox (GuardedBox C G)
  gets = guarded_way c got_line g

  abbrev old : LineAt (PlainBox B) (GuardedBox C G) (Streams S O L) D
  old = line_at line port disks

  module _ (begins : BeginsBoth sends gets line journals ways.ahead setup) where
    pub may_drive : IsReadyLine sends gets (streams_port s o l) d old
    may_drive = ready_first sends gets (streams_port s o l) d journals ways.ahead setup line begins
        port disks (λ way. (loads way).fits)

    pub is_level : IsLevel line
    is_level = level_first sends gets (streams_port s o l) d journals ways.ahead setup line begins
        (at_floor b sent_line c got_line g sent_causal sent_rising got_causal got_rising of key
        journals line begins)

    module _ (new : LineAt (PlainBox B) (GuardedBox C G) (Streams S O L) D) (end : WayEnd)
        (drives : Drives sends gets (streams_port s o l) d ways.rest old new end) where
      pub keyed_runs : (result : Ended) → result.status ≡ status_of_end end
          → result.way ≡ way_of_end end
          → RunsWays s o l d ways key (around (ends_of port) before)
          (around (ends_of new.port) new.disks) result
      keyed_runs result status_is way_is = rw (status_is, way_is)
          (runs_line sends gets s o l d (links_of of) ways.rest ways.ahead setup
          (λ way. boxed_with (ways.boxed way) key (ways.dir way)) journals before old new
          (made_is b sent_line c got_line g sent_causal sent_rising got_causal got_rising of key
          journals line)
          (number_is b sent_line c got_line g sent_causal sent_rising got_causal got_rising of key
          journals line)
          (rising_numbers b sent_line c got_line g sent_causal sent_rising got_causal got_rising of
          key journals line begins) loads begins end drives
          (clear_first sends gets (streams_port s o l) d journals ways.ahead setup line begins
          (makes_nothing b sent_line c got_line g sent_causal sent_rising got_causal got_rising of
          key journals line begins) port disks))

      pub keyed_counts : (result : Ended) → result.status ≡ status_of_end end
          → HasStreamCounts s o l (ends_of port) (ends_of new.port) result.status
      keyed_counts result is = rw is (let goes = drives.heard.goes in
          stream_counts s o l (ends_of port) (ends_of new.port) end goes.reads goes.same goes.failed)

      pub keyed_disks : (result : Ended) → result.status ≡ status_of_end end
          → result.way ≡ way_of_end end → (way : Way)
          → DiskCause (d.faults (disk_on before way)) (d.faults (disk_on new.disks way))
          (status_about result.way result.status way)
      keyed_disks result status_is way_is way = rw (status_is, way_is)
          (subst (λ n. DiskCause n (d.faults (disk_on new.disks way))
          (status_about (way_of_end end) (status_of_end end) way)) (loads way).faults
          (disk_counts (d.faults (disk_on disks way)) (d.faults (disk_on new.disks way)) way end
          (drives.heard.goes.disks way)))

      pub keyed_moment : ((way : Way) → KeepsFloorThroughout d (links_of of way) (disk_on before way)
          (disk_on disks way)) → (way : Way) → KeepsFloorThroughout d (links_of of way)
          (disk_on before way) (disk_on new.disks way)
      keyed_moment loading way = throughout sends gets s o l d (links_of of) ways.rest ways.ahead
          setup (λ way. boxed_with (ways.boxed way) key (ways.dir way)) journals before old new
          (made_is b sent_line c got_line g sent_causal sent_rising got_causal got_rising of key
          journals line)
          (number_is b sent_line c got_line g sent_causal sent_rising got_causal got_rising of key
          journals line)
          (rising_numbers b sent_line c got_line g sent_causal sent_rising got_causal got_rising of
          key journals line begins) loads begins end drives
          (clear_first sends gets (streams_port s o l) d journals ways.ahead setup line begins
          (makes_nothing b sent_line c got_line g sent_causal sent_rising got_causal got_rising of
          key journals line begins) port disks) way (loading way)
