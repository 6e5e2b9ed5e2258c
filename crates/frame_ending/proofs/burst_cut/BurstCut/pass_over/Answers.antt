use Rattle.frame_ending.proofs.Cutting.{stands-pass, cut-pass}
use Rattle.frame_ending.proofs.burst_cut.BurstCut.pass_over.Goals as goal

pub returns-clause-stands : goal.returns-clause-stands
returns-clause-stands g c = λ line old.
    stands-pass g.R.LineRules c.args.self.now line old
    _ c.args.byte c.requires.quiet (g.R.LineRules.fullness c.args.self.now.rules _ old.bytes)
    c.requires.over

pub returns-clause-answer : goal.returns-clause-answer
returns-clause-answer g c = λ line old.
    cut-pass g.R.LineRules c.args.self.now line old
    _ c.args.byte c.requires.quiet (g.R.LineRules.fullness c.args.self.now.rules _ old.bytes)
    c.requires.over
