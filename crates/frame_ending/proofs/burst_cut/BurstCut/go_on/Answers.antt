use Rattle.frame_ending.proofs.Cutting.{stands-go_on, cut-go_on}
use Rattle.frame_ending.proofs.burst_cut.BurstCut.go_on.Goals as goal

pub returns-clause-stands : goal.returns-clause-stands
returns-clause-stands g c = λ line old.
    stands-go_on g.R.LineRules c.args.self.now line old
    _ c.take.new.self c.args.byte c.requires.quiet
    (g.R.LineRules.fullness c.args.self.now.rules _ old.bytes)
    c.requires.open c.requires.fits c.take.ensures

pub returns-clause-answer : goal.returns-clause-answer
returns-clause-answer g c = λ line old.
    cut-go_on g.R.LineRules c.args.self.now line old
    _ c.args.byte c.requires.quiet (g.R.LineRules.fullness c.args.self.now.rules _ old.bytes)
    c.requires.open c.requires.fits
