use Rattle.command_ends.specs.KeyText.{IsKeyText}
use Rattle.command_ends.specs.Outside.{outside}
use Rattle.live_ways.proofs.CommandLoads.{moment_none}
use Rattle.live_ways.proofs.CommandOver.{keyed_lives, keyed_causes, key_lives, key_causes, done_of}
use Rattle.live_ways.proofs.CommandOver.{directed}
use Rattle.live_ways.specs.BothDisks.{disk_on}
use Rattle.live_ways.specs.WayStreams.{line_of_boxes, links_of}
use Rattle.std.proofs.Common.{refl, sym, subst}
use Rattle.live_ways.proofs.command.line_over.Goals as goal

pub returns-in-Ok-clause-lives : goal.returns-in-Ok-clause-lives
returns-in-Ok-clause-lives g c = keyed_lives g.K.Source g.S.Source g.O.Sink g.L.Sink
    g.D.SlotDisk (line_of_boxes g.B.LinkBox g.B.LineBox.line_of g.C.LinkBox g.C.LineBox.line_of
    g.G.LineSpacer c.args.of.now)
    (outside c.args.key.now c.args.streams.now.input c.args.streams.now.out c.args.streams.now.log
    c.args.disks.now)
    (outside c.read_key.new.source c.line_keyed.new.streams.input c.line_keyed.new.streams.out
    c.line_keyed.new.streams.log c.line_keyed.new.disks) c.line_keyed.result
    c.in-Ok.ensures.key.0 c.as_slice.result.now c.in-Ok.ensures.key.1
    (subst (IsKeyText c.in-Ok.ensures.key.0) (sym c.as_slice.ensures.value) c.in-Ok.ensures.key.2)
    c.in-Ok.ensures.cause c.line_keyed.ensures.runs

pub returns-in-Ok-clause-causes : goal.returns-in-Ok-clause-causes
returns-in-Ok-clause-causes g c = keyed_causes g.K.Source g.S.Source g.O.Sink g.L.Sink
    g.D.SlotDisk (line_of_boxes g.B.LinkBox g.B.LineBox.line_of g.C.LinkBox g.C.LineBox.line_of
    g.G.LineSpacer c.args.of.now)
    (outside c.args.key.now c.args.streams.now.input c.args.streams.now.out c.args.streams.now.log
    c.args.disks.now)
    (outside c.read_key.new.source c.line_keyed.new.streams.input c.line_keyed.new.streams.out
    c.line_keyed.new.streams.log c.line_keyed.new.disks) c.line_keyed.result
    c.in-Ok.ensures.key.0 c.as_slice.result.now c.in-Ok.ensures.key.1
    (subst (IsKeyText c.in-Ok.ensures.key.0) (sym c.as_slice.ensures.value) c.in-Ok.ensures.key.2)
    c.in-Ok.ensures.cause c.line_keyed.ensures.runs
    c.line_keyed.ensures.counts c.line_keyed.ensures.disks

pub returns-in-Ok-clause-done : goal.returns-in-Ok-clause-done
returns-in-Ok-clause-done g c = done_of g.K.Source g.S.Source g.O.Sink g.L.Sink
    g.D.SlotDisk (line_of_boxes g.B.LinkBox g.B.LineBox.line_of g.C.LinkBox g.C.LineBox.line_of
    g.G.LineSpacer c.args.of.now)
    (outside c.args.key.now c.args.streams.now.input c.args.streams.now.out c.args.streams.now.log
    c.args.disks.now)
    (outside c.read_key.new.source c.line_keyed.new.streams.input c.line_keyed.new.streams.out
    c.line_keyed.new.streams.log c.line_keyed.new.disks) c.line_keyed.result
    (λ way. directed c.args.of.now
    c.requires.sent_link c.requires.got_link way)
    (keyed_lives g.K.Source g.S.Source g.O.Sink g.L.Sink
    g.D.SlotDisk (line_of_boxes g.B.LinkBox g.B.LineBox.line_of g.C.LinkBox g.C.LineBox.line_of
    g.G.LineSpacer c.args.of.now)
    (outside c.args.key.now c.args.streams.now.input c.args.streams.now.out c.args.streams.now.log
    c.args.disks.now)
    (outside c.read_key.new.source c.line_keyed.new.streams.input c.line_keyed.new.streams.out
    c.line_keyed.new.streams.log c.line_keyed.new.disks) c.line_keyed.result
    c.in-Ok.ensures.key.0 c.as_slice.result.now c.in-Ok.ensures.key.1
    (subst (IsKeyText c.in-Ok.ensures.key.0) (sym c.as_slice.ensures.value) c.in-Ok.ensures.key.2)
    c.in-Ok.ensures.cause c.line_keyed.ensures.runs)
    (keyed_causes g.K.Source g.S.Source g.O.Sink g.L.Sink
    g.D.SlotDisk (line_of_boxes g.B.LinkBox g.B.LineBox.line_of g.C.LinkBox g.C.LineBox.line_of
    g.G.LineSpacer c.args.of.now)
    (outside c.args.key.now c.args.streams.now.input c.args.streams.now.out c.args.streams.now.log
    c.args.disks.now)
    (outside c.read_key.new.source c.line_keyed.new.streams.input c.line_keyed.new.streams.out
    c.line_keyed.new.streams.log c.line_keyed.new.disks) c.line_keyed.result
    c.in-Ok.ensures.key.0 c.as_slice.result.now c.in-Ok.ensures.key.1
    (subst (IsKeyText c.in-Ok.ensures.key.0) (sym c.as_slice.ensures.value) c.in-Ok.ensures.key.2)
    c.in-Ok.ensures.cause c.line_keyed.ensures.runs
    c.line_keyed.ensures.counts c.line_keyed.ensures.disks)

pub returns-in-Err-clause-lives : goal.returns-in-Err-clause-lives
returns-in-Err-clause-lives g c = key_lives g.K.Source g.S.Source g.O.Sink g.L.Sink
    g.D.SlotDisk (line_of_boxes g.B.LinkBox g.B.LineBox.line_of g.C.LinkBox g.C.LineBox.line_of
    g.G.LineSpacer c.args.of.now)
    (outside c.args.key.now c.args.streams.now.input c.args.streams.now.out c.args.streams.now.log
    c.args.disks.now)
    (outside c.read_key.new.source c.args.streams.now.input c.args.streams.now.out
    c.args.streams.now.log c.args.disks.now) c.of_key.result
    refl refl refl refl c.of_key.ensures.way c.read_key.result c.read_key.ensures.cause
    c.read_key.ensures.never_falls c.in-Err.error c.in-Err.is c.in-Err.ensures.fault
    c.in-Err.ensures.bad c.of_key.ensures.status

pub returns-in-Err-clause-any_moment : goal.returns-in-Err-clause-any_moment
returns-in-Err-clause-any_moment g c = λ way. moment_none g.D.SlotDisk g.met.D.SlotDisk.only_now
    (links_of c.args.of.now way) (disk_on c.args.disks.now way)

pub returns-in-Err-clause-causes : goal.returns-in-Err-clause-causes
returns-in-Err-clause-causes g c = key_causes g.K.Source g.S.Source g.O.Sink g.L.Sink
    g.D.SlotDisk (line_of_boxes g.B.LinkBox g.B.LineBox.line_of g.C.LinkBox g.C.LineBox.line_of
    g.G.LineSpacer c.args.of.now)
    (outside c.args.key.now c.args.streams.now.input c.args.streams.now.out c.args.streams.now.log
    c.args.disks.now)
    (outside c.read_key.new.source c.args.streams.now.input c.args.streams.now.out
    c.args.streams.now.log c.args.disks.now) c.of_key.result
    refl refl refl refl c.of_key.ensures.way c.read_key.result c.read_key.ensures.cause
    c.read_key.ensures.never_falls c.in-Err.error c.in-Err.is c.in-Err.ensures.fault
    c.in-Err.ensures.bad c.of_key.ensures.status

pub returns-in-Err-clause-done : goal.returns-in-Err-clause-done
returns-in-Err-clause-done g c = done_of g.K.Source g.S.Source g.O.Sink g.L.Sink
    g.D.SlotDisk (line_of_boxes g.B.LinkBox g.B.LineBox.line_of g.C.LinkBox g.C.LineBox.line_of
    g.G.LineSpacer c.args.of.now)
    (outside c.args.key.now c.args.streams.now.input c.args.streams.now.out c.args.streams.now.log
    c.args.disks.now)
    (outside c.read_key.new.source c.args.streams.now.input c.args.streams.now.out
    c.args.streams.now.log c.args.disks.now) c.of_key.result
    (λ way. directed c.args.of.now
    c.requires.sent_link c.requires.got_link way)
    (key_lives g.K.Source g.S.Source g.O.Sink g.L.Sink
    g.D.SlotDisk (line_of_boxes g.B.LinkBox g.B.LineBox.line_of g.C.LinkBox g.C.LineBox.line_of
    g.G.LineSpacer c.args.of.now)
    (outside c.args.key.now c.args.streams.now.input c.args.streams.now.out c.args.streams.now.log
    c.args.disks.now)
    (outside c.read_key.new.source c.args.streams.now.input c.args.streams.now.out
    c.args.streams.now.log c.args.disks.now) c.of_key.result
    refl refl refl refl c.of_key.ensures.way c.read_key.result c.read_key.ensures.cause
    c.read_key.ensures.never_falls c.in-Err.error c.in-Err.is c.in-Err.ensures.fault
    c.in-Err.ensures.bad c.of_key.ensures.status)
    (key_causes g.K.Source g.S.Source g.O.Sink g.L.Sink
    g.D.SlotDisk (line_of_boxes g.B.LinkBox g.B.LineBox.line_of g.C.LinkBox g.C.LineBox.line_of
    g.G.LineSpacer c.args.of.now)
    (outside c.args.key.now c.args.streams.now.input c.args.streams.now.out c.args.streams.now.log
    c.args.disks.now)
    (outside c.read_key.new.source c.args.streams.now.input c.args.streams.now.out
    c.args.streams.now.log c.args.disks.now) c.of_key.result
    refl refl refl refl c.of_key.ensures.way c.read_key.result c.read_key.ensures.cause
    c.read_key.ensures.never_falls c.in-Err.error c.in-Err.is c.in-Err.ensures.fault
    c.in-Err.ensures.bad c.of_key.ensures.status)
