use Rattle.std.proofs.Common.{◌≤◌, arith}
use Rattle.line_spacer.proofs.RunSteps.{bytes-go-on, rest-goes-on, bytes-long, silence-long}
use Rattle.line_spacer.proofs.spacer.Spacer.send_some.Goals as goal

pub returns-then-self-2-clause-sends : goal.returns-then-self-2-clause-sends
returns-then-self-2-clause-sends g c = λ m accepted has.
    let s = c.args.self.now in
    bytes-go-on g.row.GAP m accepted s.ready s.size s.sent s.pause c.args.ticks s.room s.queue.frames
    c.requires.some (omega arith) has c.if-self.false
    (c.requires.alike.bytes c.if-self.false c.if-self-2.true)

pub returns-then-self-2-clause-long : goal.returns-then-self-2-clause-long
returns-then-self-2-clause-long g c =
    let s = c.args.self.now in
    bytes-long s.size s.sent c.args.ticks s.room c.requires.some (omega arith)
    (c.requires.alike.bytes c.if-self.false c.if-self-2.true)

pub returns-clause-sends : goal.returns-clause-sends
returns-clause-sends g c = λ m accepted has.
    let s = c.args.self.now in
    let over : s.size ≤ s.sent = c.if-self-2.false in
    rw c.saturating_sub-self.ensures
    (rest-goes-on g.row.GAP m accepted s.ready s.size s.sent s.pause c.args.ticks s.room
    s.queue.frames c.requires.some (omega arith) has c.if-self.false over
    (c.requires.alike.quiet c.if-self.false over) (c.requires.alike.idle c.if-self.false over))

pub returns-clause-long : goal.returns-clause-long
returns-clause-long g c =
    let s = c.args.self.now in
    silence-long s.size s.sent c.args.ticks s.room c.requires.some (omega arith)
