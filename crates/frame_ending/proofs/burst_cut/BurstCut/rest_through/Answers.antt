use Rattle.std.proofs.Common.{◌+◌, arith}
use Rattle.frame_ending.proofs.Runs.{stands-silence, cuts-silence}
use Rattle.frame_ending.proofs.burst_cut.BurstCut.rest_through.Goals as goal

pub returns-clause-stands : goal.returns-clause-stands
returns-clause-stands g c = λ line old.
    stands-silence g.R.LineRules c.args.ticks c.args.self.now line
    (c.args.self.now.taken + c.from.result) old c.if-self-lt-T3_5_TICKS.false (omega arith)

pub returns-clause-quiet : goal.returns-clause-quiet
returns-clause-quiet g c = λ line old.
    cuts-silence g.R.LineRules c.args.ticks c.args.self.now line old c.if-self-lt-T3_5_TICKS.false
