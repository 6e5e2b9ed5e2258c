use Rattle.std.proofs.Common.{◌+◌, arith}
use Rattle.frame_ending.proofs.{Passing.stands-waits, Runs.stands-silence}
use Rattle.frame_ending.proofs.burst_cut.BurstCut.wait_some.Goals as goal

pub returns-then-self-ge-T3_5_TICKS-clause-stands :
    goal.returns-then-self-ge-T3_5_TICKS-clause-stands
returns-then-self-ge-T3_5_TICKS-clause-stands g c = λ line old.
    stands-silence g.R.LineRules c.args.ticks c.args.self.now line
    (c.args.self.now.taken + c.from-count.result) old c.if-self-ge-T3_5_TICKS.true (omega arith)

pub returns-clause-stands : goal.returns-clause-stands
returns-clause-stands g c = λ line old.
    let widened = c.from-count.ensures in
    let still = c.from-still.ensures in
    let capped = c.min.ensures in
    let few = c.if-self-ge-T3_5_TICKS.false in
    stands-waits g.R.LineRules c.args.ticks c.args.self.now line
    (c.args.self.now.taken + c.from-count.result) (c.args.self.now.quiet + c.min.result) old
    (omega arith) (omega arith) (omega arith)
