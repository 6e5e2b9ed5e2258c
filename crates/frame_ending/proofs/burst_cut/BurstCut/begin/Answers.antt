use Rattle.std.proofs.Common.{[]}
use Rattle.frame_ending.proofs.Cutting.{stands-begin, cut-begin}
use Rattle.frame_ending.proofs.burst_cut.BurstCut.begin.Goals as goal

pub returns-clause-stands : goal.returns-clause-stands
returns-clause-stands g c = λ line old.
    stands-begin g.R.LineRules c.args.self.now line old
    c.take.new.self c.args.byte c.requires.quiet (c.take.ensures [] c.restart.ensures.stands)

pub returns-clause-answer : goal.returns-clause-answer
returns-clause-answer g c = λ line old.
    cut-begin g.R.LineRules c.args.self.now line old c.args.byte c.requires.quiet
