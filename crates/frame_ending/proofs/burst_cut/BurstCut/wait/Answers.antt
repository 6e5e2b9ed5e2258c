use Rattle.std.proofs.Common.{arith}
use Rattle.frame_ending.proofs.Cutting.{stands-rest, cut-rest, stands-wait, cut-wait, cut-closed}
use Rattle.frame_ending.proofs.burst_cut.BurstCut.wait.Goals as goal

pub returns-then-self-ge-T3_5_TICKS-clause-stands :
    goal.returns-then-self-ge-T3_5_TICKS-clause-stands
returns-then-self-ge-T3_5_TICKS-clause-stands g c = λ line old.
    stands-rest g.R.LineRules c.args.self.now line old c.if-self-ge-T3_5_TICKS.true

pub returns-then-self-ge-T3_5_TICKS-clause-answer :
    goal.returns-then-self-ge-T3_5_TICKS-clause-answer
returns-then-self-ge-T3_5_TICKS-clause-answer g c = λ line old.
    cut-rest g.R.LineRules c.args.self.now line old c.if-self-ge-T3_5_TICKS.true

pub returns-then-self-lt-T3_5_TICKS-clause-stands :
    goal.returns-then-self-lt-T3_5_TICKS-clause-stands
returns-then-self-lt-T3_5_TICKS-clause-stands g c = λ line old.
    stands-wait g.R.LineRules c.args.self.now line old (omega arith)

pub returns-then-self-lt-T3_5_TICKS-clause-answer :
    goal.returns-then-self-lt-T3_5_TICKS-clause-answer
returns-then-self-lt-T3_5_TICKS-clause-answer g c = λ line old.
    cut-wait g.R.LineRules c.args.self.now line old (omega arith)

pub returns-else-self-lt-T3_5_TICKS-clause-stands :
    goal.returns-else-self-lt-T3_5_TICKS-clause-stands
returns-else-self-lt-T3_5_TICKS-clause-stands g c = λ line old.
    stands-wait g.R.LineRules c.args.self.now line old (omega arith)

pub returns-else-self-lt-T3_5_TICKS-clause-answer :
    goal.returns-else-self-lt-T3_5_TICKS-clause-answer
returns-else-self-lt-T3_5_TICKS-clause-answer g c = λ line old.
    cut-closed g.R.LineRules c.args.self.now line old (omega arith)
