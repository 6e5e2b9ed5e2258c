use Rattle.frame_ending.proofs.Cutting.{stands-fresh}
use Rattle.frame_ending.proofs.burst_cut.BurstCut.new.Goals as goal

pub returns-clause-stands : goal.returns-clause-stands
returns-clause-stands g c = stands-fresh g.R.LineRules c.fresh.result c.fresh.ensures.stands
