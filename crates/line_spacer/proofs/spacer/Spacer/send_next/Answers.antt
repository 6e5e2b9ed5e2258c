use Rattle.line_spacer.proofs.RunSteps.{next-waits, some-begin, none-begin, silence-long, some-long}
use Rattle.{line_spacer.proofs.RunSteps.none-long, std.proofs.Common.◌≤◌, std.proofs.Common.arith}
use Rattle.line_spacer.proofs.spacer.Spacer.send_next.Goals as goal

pub returns-then-self-gt0-clause-sends : goal.returns-then-self-gt0-clause-sends
returns-then-self-gt0-clause-sends g c = λ m accepted has.
    let s = c.args.self.now in
    rw c.saturating_sub-self.ensures
    (next-waits g.row.GAP m accepted s.ready s.size s.sent s.pause c.args.ticks s.room s.queue.frames
    c.requires.some (omega arith) has c.requires.ready c.if-self-gt0.true
    (c.requires.alike.waits c.requires.ready c.if-self-gt0.true))

pub returns-then-self-gt0-clause-long : goal.returns-then-self-gt0-clause-long
returns-then-self-gt0-clause-long g c =
    let s = c.args.self.now in
    silence-long s.size s.sent c.args.ticks s.room c.requires.some (omega arith)

pub returns-then-self-eq0-clause-sends : goal.returns-then-self-eq0-clause-sends
returns-then-self-eq0-clause-sends g c = λ m accepted has.
    let s = c.args.self.now in
    let done : s.pause ≤ 0 = c.if-self-gt0.false in
    rw c.saturating_sub-self-then-self-eq0.ensures
    (none-begin g.row.GAP m accepted s.ready s.size s.sent s.pause c.args.ticks s.room s.queue.frames
    c.requires.some (omega arith) has c.requires.ready done
    (c.requires.alike.begins c.requires.ready done) (omega (arith, c.if-self-eq0.true))
    c.min-self.result c.min-self.ensures)

pub returns-then-self-eq0-clause-long : goal.returns-then-self-eq0-clause-long
returns-then-self-eq0-clause-long g c =
    let s = c.args.self.now in
    none-long s.size s.sent c.args.ticks s.room c.requires.some (omega arith)
    (c.requires.alike.begins c.requires.ready c.if-self-gt0.false)
    (omega (arith, c.if-self-eq0.true)) c.min-self.result c.min-self.ensures

pub returns-clause-sends : goal.returns-clause-sends
returns-clause-sends g c = λ m accepted has.
    let s = c.args.self.now in
    let done : s.pause ≤ 0 = c.if-self-gt0.false in
    some-begin g.row.GAP m accepted s.ready s.size s.sent s.pause c.args.ticks s.room s.queue.frames
    c.requires.some (omega arith) has c.requires.ready done
    (c.requires.alike.begins c.requires.ready done) (omega (arith, c.if-self-eq0.false))
    c.min-self.result c.min-self.ensures

pub returns-clause-long : goal.returns-clause-long
returns-clause-long g c =
    let s = c.args.self.now in
    some-long s.size s.sent c.args.ticks s.room c.requires.some (omega arith)
    (c.requires.alike.begins c.requires.ready c.if-self-gt0.false)
    (omega (arith, c.if-self-eq0.false)) c.min-self.result c.min-self.ensures
