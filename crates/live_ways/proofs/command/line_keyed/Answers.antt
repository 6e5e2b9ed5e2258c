use Rattle.live_line.specs.declared.ways.Way.TheVariants.{Outgoing, Incoming}
use Rattle.live_ways.proofs.CommandKeyed.{may_drive, is_level, keyed_runs, keyed_counts}
use Rattle.live_ways.proofs.CommandKeyed.{keyed_disks}
use Rattle.live_ways.proofs.CommandKeyed.{keyed_moment}
use Rattle.live_ways.proofs.CommandLoads.{ways_stopped, counts_stopped, counts_at_disks}
use Rattle.live_ways.proofs.CommandLoads.{ways_nowhere}
use Rattle.live_ways.proofs.CommandLoads.{counts_nowhere, disks_nowhere}
use Rattle.live_ways.specs.LiveLine.{line_at}
use Rattle.live_ways.specs.WayStreams.{line_of_boxes, ends_of}
use Rattle.std.proofs.Common.{◌∙◌}
use Rattle.live_ways.proofs.command.line_keyed.Goals as goal

pub returns-in-Err-clause-runs : goal.returns-in-Err-clause-runs
returns-in-Err-clause-runs g c =
    ways_stopped g.S.Source g.O.Sink g.L.Sink g.D.SlotDisk (line_of_boxes
    g.B.LinkBox g.B.LineBox.line_of g.C.LinkBox g.C.LineBox.line_of g.G.LineSpacer c.args.of.now)
    c.args.key.now (ends_of c.args.streams.now) c.args.disks.now c.load_both.new.disks c.in-Err.ended
    c.in-Err.ensures.refused

pub returns-in-Err-clause-counts : goal.returns-in-Err-clause-counts
returns-in-Err-clause-counts g c =
    counts_stopped g.S.Source g.O.Sink g.L.Sink g.D.SlotDisk (line_of_boxes
    g.B.LinkBox g.B.LineBox.line_of g.C.LinkBox g.C.LineBox.line_of g.G.LineSpacer c.args.of.now)
    c.args.key.now (ends_of c.args.streams.now) c.args.disks.now c.load_both.new.disks c.in-Err.ended
    c.in-Err.ensures.refused

pub returns-in-Err-clause-disks : goal.returns-in-Err-clause-disks
returns-in-Err-clause-disks g c =
    counts_at_disks g.S.Source g.O.Sink g.L.Sink g.D.SlotDisk (line_of_boxes
    g.B.LinkBox g.B.LineBox.line_of g.C.LinkBox g.C.LineBox.line_of g.G.LineSpacer c.args.of.now)
    c.args.key.now (ends_of c.args.streams.now) c.args.disks.now c.load_both.new.disks c.in-Err.ended
    c.in-Err.ensures.refused

pub returns-in-Err-begin_line-clause-runs : goal.returns-in-Err-begin_line-clause-runs
returns-in-Err-begin_line-clause-runs g c =
    ways_nowhere g.S.Source g.O.Sink g.L.Sink g.D.SlotDisk (line_of_boxes
    g.B.LinkBox g.B.LineBox.line_of g.C.LinkBox g.C.LineBox.line_of g.G.LineSpacer c.args.of.now)
    c.args.key.now (ends_of c.args.streams.now) c.args.disks.now c.load_both.new.disks
    c.in-Ok.journals c.in-Ok.ensures.loaded c.of_line.result c.of_line.ensures.status
    c.of_line.ensures.way

pub returns-in-Err-begin_line-clause-counts : goal.returns-in-Err-begin_line-clause-counts
returns-in-Err-begin_line-clause-counts g c =
    counts_nowhere g.S.Source g.O.Sink g.L.Sink g.D.SlotDisk (line_of_boxes
    g.B.LinkBox g.B.LineBox.line_of g.C.LinkBox g.C.LineBox.line_of g.G.LineSpacer c.args.of.now)
    c.args.key.now (ends_of c.args.streams.now) c.args.disks.now c.load_both.new.disks
    c.in-Ok.journals c.in-Ok.ensures.loaded c.of_line.result c.of_line.ensures.status
    c.of_line.ensures.way

pub returns-in-Err-begin_line-clause-disks : goal.returns-in-Err-begin_line-clause-disks
returns-in-Err-begin_line-clause-disks g c =
    disks_nowhere g.S.Source g.O.Sink g.L.Sink g.D.SlotDisk (line_of_boxes
    g.B.LinkBox g.B.LineBox.line_of g.C.LinkBox g.C.LineBox.line_of g.G.LineSpacer c.args.of.now)
    c.args.key.now (ends_of c.args.streams.now) c.args.disks.now c.load_both.new.disks
    c.in-Ok.journals c.in-Ok.ensures.loaded c.of_line.result c.of_line.ensures.status
    c.of_line.ensures.way

pub begin_line-requires-clause-sent : goal.begin_line-requires-clause-sent
begin_line-requires-clause-sent g c =
    (c.in-Ok.ensures.loaded Outgoing).loaded.link_is ∙ c.requires.sent_box

pub begin_line-requires-clause-got : goal.begin_line-requires-clause-got
begin_line-requires-clause-got g c =
    (c.in-Ok.ensures.loaded Incoming).loaded.link_is ∙ c.requires.got_box

pub drive-requires-clause-ready : goal.drive-requires-clause-ready
drive-requires-clause-ready g c = may_drive g.B.LinkBox g.B.LineBox.line_of g.C.LinkBox
    g.C.LineBox.line_of g.G.LineSpacer g.S.Source g.O.Sink g.L.Sink g.D.SlotDisk
    g.met.B.LineBox.causal g.met.B.LineBox.rising g.met.C.LineBox.causal g.met.C.LineBox.rising
    c.args.of.now c.args.key.now c.in-Ok.journals c.args.disks.now c.load_both.new.disks
    c.in-Ok.ensures.loaded c.in-Ok-begin_line.line c.args.streams.now c.in-Ok-begin_line.ensures

pub drive-requires-clause-level : goal.drive-requires-clause-level
drive-requires-clause-level g c = is_level g.B.LinkBox g.B.LineBox.line_of g.C.LinkBox
    g.C.LineBox.line_of g.G.LineSpacer g.S.Source g.O.Sink g.L.Sink g.D.SlotDisk
    g.met.B.LineBox.causal g.met.B.LineBox.rising g.met.C.LineBox.causal g.met.C.LineBox.rising
    c.args.of.now c.args.key.now c.in-Ok.journals c.args.disks.now c.load_both.new.disks
    c.in-Ok.ensures.loaded c.in-Ok-begin_line.line c.args.streams.now c.in-Ok-begin_line.ensures

pub returns-clause-runs : goal.returns-clause-runs
returns-clause-runs g c = keyed_runs g.B.LinkBox g.B.LineBox.line_of g.C.LinkBox
    g.C.LineBox.line_of g.G.LineSpacer g.S.Source g.O.Sink g.L.Sink g.D.SlotDisk
    g.met.B.LineBox.causal g.met.B.LineBox.rising g.met.C.LineBox.causal g.met.C.LineBox.rising
    c.args.of.now c.args.key.now c.in-Ok.journals c.args.disks.now c.load_both.new.disks
    c.in-Ok.ensures.loaded c.in-Ok-begin_line.line c.args.streams.now c.in-Ok-begin_line.ensures
    (line_at c.drive.new.self c.drive.new.port c.drive.new.disks) c.drive.result c.drive.ensures
    c.of_end.result c.of_end.ensures.status c.of_end.ensures.way

pub returns-clause-counts : goal.returns-clause-counts
returns-clause-counts g c = keyed_counts g.B.LinkBox g.B.LineBox.line_of g.C.LinkBox
    g.C.LineBox.line_of g.G.LineSpacer g.S.Source g.O.Sink g.L.Sink g.D.SlotDisk
    g.met.B.LineBox.causal g.met.B.LineBox.rising g.met.C.LineBox.causal g.met.C.LineBox.rising
    c.args.of.now c.args.key.now c.in-Ok.journals c.args.disks.now c.load_both.new.disks
    c.in-Ok.ensures.loaded c.in-Ok-begin_line.line c.args.streams.now c.in-Ok-begin_line.ensures
    (line_at c.drive.new.self c.drive.new.port c.drive.new.disks) c.drive.result c.drive.ensures
    c.of_end.result c.of_end.ensures.status

pub returns-clause-disks : goal.returns-clause-disks
returns-clause-disks g c = keyed_disks g.B.LinkBox g.B.LineBox.line_of g.C.LinkBox
    g.C.LineBox.line_of g.G.LineSpacer g.S.Source g.O.Sink g.L.Sink g.D.SlotDisk
    g.met.B.LineBox.causal g.met.B.LineBox.rising g.met.C.LineBox.causal g.met.C.LineBox.rising
    c.args.of.now c.args.key.now c.in-Ok.journals c.args.disks.now c.load_both.new.disks
    c.in-Ok.ensures.loaded c.in-Ok-begin_line.line c.args.streams.now c.in-Ok-begin_line.ensures
    (line_at c.drive.new.self c.drive.new.port c.drive.new.disks) c.drive.result c.drive.ensures
    c.of_end.result c.of_end.ensures.status c.of_end.ensures.way

pub returns-clause-any_moment : goal.returns-clause-any_moment
returns-clause-any_moment g c = keyed_moment g.B.LinkBox g.B.LineBox.line_of g.C.LinkBox
    g.C.LineBox.line_of g.G.LineSpacer g.S.Source g.O.Sink g.L.Sink g.D.SlotDisk
    g.met.B.LineBox.causal g.met.B.LineBox.rising g.met.C.LineBox.causal g.met.C.LineBox.rising
    c.args.of.now c.args.key.now c.in-Ok.journals c.args.disks.now c.load_both.new.disks
    c.in-Ok.ensures.loaded c.in-Ok-begin_line.line c.args.streams.now c.in-Ok-begin_line.ensures
    (line_at c.drive.new.self c.drive.new.port c.drive.new.disks) c.drive.result c.drive.ensures
    c.in-Ok.ensures.any_moment
