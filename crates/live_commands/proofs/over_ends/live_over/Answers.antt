use Rattle.command_ends.specs.Outside.{outside}
use Rattle.line_commands.specs.LinkBoxed.{boxed_of}
use Rattle.line_commands.specs.declared.port.Output.{Output, TheVariants.Out, TheVariants.Log}
use Rattle.line_commands.specs.Streams.{stream_faults}
use Rattle.line_commands.specs.declared.streams.Streams.{Streams}
use Rattle.live_commands.proofs.{EndCounts.counts_of, SeenEnds.lives_seen, SeenEnds.causes_seen}
use Rattle.live_commands.specs.LineEnds.{LineEnds, end_faults, ends_port}
use Rattle.live_commands.specs.LiveCommand.{around}
use Rattle.std.proofs.Common.{◌≡◌, refl}
use Rattle.yasir_io.specs.declared.{sink.Sink.Ghosts as Sink, source.Source.Ghosts as Source}
use Rattle.live_commands.proofs.over_ends.live_over.Goals as goal

-- the input and the sinks of some streams
abbrev shown : {S O L : Type 0} → Streams S O L → LineEnds S O L
shown streams = record { input = streams.input; out = streams.out; log = streams.log }

same_faults : {S O L : Type 0} (s : Source S) (o : Sink O) (l : Sink L) (streams : Streams S O L) (to : Output)
    → stream_faults o l streams to ≡ end_faults s o l (shown streams) to
same_faults s o l streams Out = refl
same_faults s o l streams Log = refl

pub returns-clause-lives : goal.returns-clause-lives
returns-clause-lives g c = lives_seen _ (ends_port g.S.Source g.O.Sink g.L.Sink) g.D.SlotDisk shown
    (λ port. refl) (λ port. refl) (λ port. refl) (same_faults g.S.Source g.O.Sink g.L.Sink)
    (around c.args.streams.now c.args.disk.now) (around c.live_line.new.port c.live_line.new.disk)
    c.args.of.now.link g.K.Source (boxed_of g.B.LinkBox.walking g.B.LineBox.line_of)
    c.args.of.now.dir c.args.of.now.rest c.args.of.now.ahead c.args.key.now c.live_line.new.key
    c.live_line.result c.live_line.ensures.lives

pub returns-clause-counts : goal.returns-clause-counts
returns-clause-counts g c =
    let lives = lives_seen _ (ends_port g.S.Source g.O.Sink g.L.Sink) g.D.SlotDisk shown
    (λ port. refl) (λ port. refl) (λ port. refl) (same_faults g.S.Source g.O.Sink g.L.Sink)
    (around c.args.streams.now c.args.disk.now) (around c.live_line.new.port c.live_line.new.disk)
    c.args.of.now.link g.K.Source (boxed_of g.B.LinkBox.walking g.B.LineBox.line_of)
    c.args.of.now.dir c.args.of.now.rest c.args.of.now.ahead c.args.key.now c.live_line.new.key
    c.live_line.result c.live_line.ensures.lives in
    counts_of g.K.Source g.S.Source g.O.Sink g.L.Sink g.D.SlotDisk
    (boxed_of g.B.LinkBox.walking g.B.LineBox.line_of) c.args.of.now.link c.args.of.now.dir
    c.args.of.now.rest c.args.of.now.ahead
    (outside c.args.key.now c.args.streams.now.input c.args.streams.now.out c.args.streams.now.log
    c.args.disk.now)
    (outside c.live_line.new.key c.live_line.new.port.input c.live_line.new.port.out
    c.live_line.new.port.log c.live_line.new.disk) c.live_line.result lives
    (causes_seen _ (ends_port g.S.Source g.O.Sink g.L.Sink) g.D.SlotDisk shown
    (λ port. refl) (λ port. refl) (λ port. refl) (same_faults g.S.Source g.O.Sink g.L.Sink)
    (around c.args.streams.now c.args.disk.now) (around c.live_line.new.port c.live_line.new.disk)
    c.live_line.result c.live_line.ensures.port)
