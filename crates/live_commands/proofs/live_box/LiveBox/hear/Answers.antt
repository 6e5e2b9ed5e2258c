use Rattle.live_commands.proofs.Hearing.{goes_read, goes_failed, hears_none, hears_too_much, hears_more}
use Rattle.live_commands.proofs.Hearing.{hears_ended, hears_all, hears_failed, hear_answer}
use Rattle.live_commands.specs.LiveLine.{live_of}
use Rattle.std.proofs.{Common.take, Common.ap, Common.sym, Common.arith, lemmas.List.length-take-le}
use Rattle.live_commands.proofs.live_box.LiveBox.hear.Goals as goal

pub loop-bytes-init : goal.loop-bytes-init
loop-bytes-init g c = hears_none g.B.LinkBox g.B.LineBox.line_of g.P.Port g.D.SlotDisk
    c.args.lines.now (live_of c.args.self.now c.args.port.now c.args.disk.now) g.met.D.SlotDisk.only_now
    c.requires.ready c.requires.clear

pub returns-in-Err : goal.returns-in-Err
returns-in-Err g c = hears_failed g.B.LinkBox g.B.LineBox.line_of g.P.Port g.D.SlotDisk
    c.args.lines.now c.loop-bytes.lines (live_of c.args.self.now c.args.port.now c.args.disk.now)
    (live_of c.loop-bytes.self c.loop-bytes.port c.loop-bytes.disk)
    c.loop-bytes.bytes c.loop-bytes.invariant c.read_on.new.port c.in-Err.ensures.err
    c.in-Err.ensures.left_same (goes_failed g.P.Port g.D.SlotDisk g.met.D.SlotDisk.only_now
    (live_of c.loop-bytes.self c.loop-bytes.port c.loop-bytes.disk) c.read_on.new.port
    c.in-Err.ensures.outputs c.in-Err.field-0 c.in-Err.ensures.cause)

pub returns-then-count-eq0 : goal.returns-then-count-eq0
returns-then-count-eq0 g c = hears_all g.B.LinkBox g.B.LineBox.line_of g.P.Port g.D.SlotDisk
    c.args.lines.now c.loop-bytes.lines (live_of c.args.self.now c.args.port.now c.args.disk.now)
    (live_of c.loop-bytes.self c.loop-bytes.port c.loop-bytes.disk)
    c.loop-bytes.bytes c.loop-bytes.invariant c.read_on.new.port
    (take c.in-Ok.count c.read_on.new.buf) c.in-Ok.ensures.bytes c.in-Ok.ensures.left
    g.met.D.SlotDisk.only_now
    (goes_read g.P.Port g.D.SlotDisk g.met.D.SlotDisk.only_now (live_of c.loop-bytes.self c.loop-bytes.port c.loop-bytes.disk)
    c.read_on.new.port c.in-Ok.ensures.outputs c.in-Ok.count c.in-Ok.ensures.cause)
    (ap (λ n. take n c.read_on.new.buf) c.if-count-eq0.true)
    (c.in-Ok.ensures.end c.if-count-eq0.true (omega arith))

pub returns-in-Err-take_piece : goal.returns-in-Err-take_piece
returns-in-Err-take_piece g c = let ended = c.in-Err-take_piece.ensures in
    hear_answer g.B.LinkBox g.B.LineBox.line_of g.P.Port g.D.SlotDisk c.args.lines.now
    c.take_piece.new.lines (live_of c.args.self.now c.args.port.now c.args.disk.now)
    (live_of c.take_piece.new.self c.take_piece.new.port c.take_piece.new.disk)
    c.in-Err-take_piece.end ended.ends.no_read (hears_ended g.B.LinkBox g.B.LineBox.line_of g.P.Port g.D.SlotDisk
    c.args.lines.now c.loop-bytes.lines (live_of c.args.self.now c.args.port.now c.args.disk.now)
    (live_of c.loop-bytes.self c.loop-bytes.port c.loop-bytes.disk)
    c.loop-bytes.bytes c.loop-bytes.invariant c.read_on.new.port
    (take c.in-Ok.count c.read_on.new.buf) c.in-Ok.ensures.bytes c.in-Ok.ensures.left
    (goes_read g.P.Port g.D.SlotDisk g.met.D.SlotDisk.only_now (live_of c.loop-bytes.self c.loop-bytes.port c.loop-bytes.disk)
    c.read_on.new.port c.in-Ok.ensures.outputs c.in-Ok.count c.in-Ok.ensures.cause)
    c.take_piece.new.lines
    (live_of c.take_piece.new.self c.take_piece.new.port c.take_piece.new.disk)
    c.in-Err-take_piece.end _ ended (grind arith))

pub loop-bytes-preserved : goal.loop-bytes-preserved
loop-bytes-preserved g c = hears_more g.B.LinkBox g.B.LineBox.line_of g.P.Port g.D.SlotDisk
    c.args.lines.now c.loop-bytes.lines (live_of c.args.self.now c.args.port.now c.args.disk.now)
    (live_of c.loop-bytes.self c.loop-bytes.port c.loop-bytes.disk)
    c.loop-bytes.bytes c.loop-bytes.invariant c.read_on.new.port
    (take c.in-Ok.count c.read_on.new.buf) c.in-Ok.ensures.bytes c.in-Ok.ensures.left
    (goes_read g.P.Port g.D.SlotDisk g.met.D.SlotDisk.only_now (live_of c.loop-bytes.self c.loop-bytes.port c.loop-bytes.disk)
    c.read_on.new.port c.in-Ok.ensures.outputs c.in-Ok.count c.in-Ok.ensures.cause)
    c.take_piece.new.lines
    (live_of c.take_piece.new.self c.take_piece.new.port c.take_piece.new.disk)
    c.in-Ok.count
    (sym (length-take-le c.in-Ok.count c.read_on.new.buf c.in-Ok.ensures.within)) _
    c.in-Ok-take_piece.ensures (grind arith)

pub returns : goal.returns
returns g c = hears_too_much g.B.LinkBox g.B.LineBox.line_of g.P.Port g.D.SlotDisk
    c.args.lines.now c.loop-bytes.lines (live_of c.args.self.now c.args.port.now c.args.disk.now)
    (live_of c.loop-bytes.self c.loop-bytes.port c.loop-bytes.disk)
    c.loop-bytes.bytes c.loop-bytes.invariant (omega (arith, c.loop-bytes-test.false))
