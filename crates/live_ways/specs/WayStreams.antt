-- A live line of two ways over the streams of a run.
use Rattle.std.specs.Prelude.{◌+◌, ℕ, List}
use Rattle.yasir_io.specs.Causes.{Rose}
use Rattle.yasir_io.specs.declared.source.Source.{Ghosts as Source}
use Rattle.yasir_io.specs.declared.sink.Sink.{Ghosts as Sink}
use Rattle.yasir_io.specs.declared.disk.SlotDisk.{Ghosts as SlotDisk}
use Rattle.link_format.specs.declared.dir.Dir.{Dir}
use Rattle.link_format.specs.Directions.{opposite_of}
use Rattle.link_format.specs.Setup.{Setup}
use Rattle.yasir_ticks.specs.declared.tick.Tick.{Tick}
use Rattle.device_model.specs.Frames.{FrameRead}
use Rattle.line_spacer.specs.Spacing.{spaced_line}
use Rattle.sequence_journal.specs.declared.link.LinkId.{LinkId}
use Rattle.command_ends.specs.Causes.{DiskCause, InputCause, SinkCause}
use Rattle.command_ends.specs.Links.{link_of, gap_of, device_reads}
use Rattle.command_ends.specs.Outside.{Outside}
use Rattle.command_ends.specs.declared.link.Profile.{Profile}
use Rattle.command_ends.specs.declared.link.Proto.{Proto}
use Rattle.command_ends.specs.declared.status.Status.{Status}
use Rattle.link_box.specs.declared.box_trait.LinkBox.{Ghosts as LinkBox}
use Rattle.line_commands.specs.Boxes.{Boxed}
use Rattle.line_commands.specs.LinkBoxed.{boxed_of}
use Rattle.line_commands.specs.ReplaysBox.{boxed_with}
use Rattle.line_commands.specs.declared.spacers.LineSpacer.{Ghosts as LineSpacer}
use Rattle.line_commands.specs.declared.streams.Streams.{Streams}
use Rattle.line_commands.specs.LinkBoxes.{seal_boxed, seal_rest, check_boxed, check_rest}
use Rattle.line_commands.specs.SpacedTexts.{most_waiting}
use Rattle.line_commands.specs.SpacesLine.{space_rest}
use Rattle.live_commands.specs.LineEnds.{LineEnds, HasCounts, ends_port, line_ends}
use Rattle.live_line.specs.declared.ways.Way.{Way}
use Rattle.live_ways.specs.BothDisks.{disk_on, status_about}
use Rattle.live_ways.specs.Rests.{by_way}
use Rattle.live_ways.specs.WayCommand.{BothWays, Around, around, RunsLine, LivesLine}
use Rattle.live_ways.specs.declared.both_disks.BothDisks.{BothDisks}
use Rattle.live_ways.specs.declared.line_status.Ended.{Ended}
use Rattle.live_ways.specs.declared.loads.LineLinks.{LineLinks}

-- what a box with a spacer behind it makes of a line, if the spacer reads as `reads` says and
-- leaves
-- at least `gap` silent ticks between frames
abbrev pub guarded_box : (List Tick → List FrameRead) → ℕ → Boxed → Boxed
guarded_box reads gap box = record box {
  other_line = λ line. spaced_line reads gap most_waiting (box.other_line line);
}

-- the links of both ways
abbrev pub links_of : LineLinks → Way → LinkId
links_of of = by_way of.sent.link of.got.link

-- Both ways of a line with these links. The boxes make `sends` of the ticks of the outgoing way,
-- and `gets` of those of the incoming way.
abbrev pub line_with : LineLinks → (Setup → Boxed) → (Setup → Boxed) → BothWays
line_with of sends gets = record {
  boxed = by_way sends gets;
  link = links_of of;
  dir = by_way of.sent.dir of.got.dir;
  rest = by_way of.sent.rest of.got.rest;
  ahead = by_way of.sent.ahead of.got.ahead;
}

-- the same with these two boxes, and this spacer behind the second one
abbrev pub line_of_boxes : {B N C M G : Type 0} → LinkBox B N → (N → List ℕ) → LinkBox C M
    → (M → List ℕ) → LineSpacer G → LineLinks → BothWays
line_of_boxes b sent_line c got_line g of = line_with of (boxed_of b.walking sent_line)
    (λ setup. guarded_box g.reads g.gap (boxed_of c.walking got_line setup))

-- the input and the two sinks of a run
abbrev pub ends_of : {S O L : Type 0} → Streams S O L → LineEnds S O L
ends_of streams = record { input = streams.input; out = streams.out; log = streams.log }

module _ {S O L : Type 0} (s : Source S) (o : Sink O) (l : Sink L) where
  -- Holds if the counts of faults of the input and the two sinks are as the status says.
  pub record HasStreamCounts (before after : LineEnds S O L) (status : Status) : Type 0 where
    pub reads : InputCause (s.faults before.input) (s.faults after.input) status
    pub sinks : SinkCause (o.faults before.out) (o.faults after.out) (l.faults before.log)
        (l.faults after.log) status

  -- What each status says of a run with this key, from the load of the journals on.
  abbrev pub RunsWays : {D : Type 0} → SlotDisk D → BothWays → List ℕ → Around (LineEnds S O L) D
      → Around (LineEnds S O L) D → Ended → Type 0
  RunsWays d line key before after end = RunsLine (ends_port s o l) d line.link
      (λ way. boxed_with (line.boxed way) key (line.dir way)) line.rest line.ahead before after
      end.way end.status

module _ {K S O L D : Type 0} (k : Source K) (s : Source S) (o : Sink O) (l : Sink L)
    (d : SlotDisk D) where
  -- What each status says of a command that drives both ways of the input of a run through their
  -- boxes as they come, and of which way it is.
  abbrev pub LivesWays : BothWays → Outside K S O L (BothDisks D) → Outside K S O L (BothDisks D)
      → Ended → Type 0
  LivesWays line before after end = LivesLine k (ends_port s o l) d line before.key after.key
      (around (line_ends before) before.disk) (around (line_ends after) after.disk) end.way end.status

  -- For each status, which counts of faults rose. That of a failed journal comes only if the count
  -- of the disk of its way rose.
  pub record HasLineCauses (before after : Outside K S O L (BothDisks D)) (end : Ended) :
      Type 0 where
    pub counts : HasCounts k s o l before after end.status
    pub disks : (way : Way) → DiskCause (d.faults (disk_on before.disk way))
        (d.faults (disk_on after.disk way)) (status_about end.way end.status way)

-- Holds if no count of faults of the outside rose or is at its greatest value, neither disk's.
pub record IsLineCalm {K S O L D : Type 0} (k : Source K) (s : Source S) (o : Sink O) (l : Sink L)
    (d : SlotDisk D) (before after : Outside K S O L (BothDisks D)) : Type 0 where
  pub key : ¬ Rose (k.faults before.key) (k.faults after.key)
  pub input : ¬ Rose (s.faults before.input) (s.faults after.input)
  pub out : ¬ Rose (o.faults before.out) (o.faults after.out)
  pub log : ¬ Rose (l.faults before.log) (l.faults after.log)
  pub disks : (way : Way) → ¬ Rose (d.faults (disk_on before.disk way))
      (d.faults (disk_on after.disk way))

-- The line of a protocol, a profile and a direction: its outgoing way has the transmitter, with a
-- journal that is kept `ahead` above the last number used, and its incoming way the receiver of the
-- opposite direction, with a spacer behind it.
abbrev pub line_of_link : ℕ → Proto → Profile → Dir → BothWays
line_of_link ahead proto profile dir = record {
  boxed = by_way (seal_boxed proto profile) (λ setup.
      guarded_box (device_reads proto) (gap_of profile) (check_boxed proto profile setup));
  link = by_way (link_of proto profile dir) (link_of proto profile (opposite_of dir));
  dir = by_way dir (opposite_of dir);
  rest = by_way (seal_rest profile) (check_rest + space_rest);
  ahead = by_way ahead 0;
}
