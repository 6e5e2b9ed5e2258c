use Rattle.live_ways.proofs.Lowering.{of_both}
use Rattle.live_ways.proofs.both_ways.LiveLine.new.Goals as goal

pub returns-clause-nothing : goal.returns-clause-nothing
returns-clause-nothing g c = record {
  parted = c.new.ensures;
  reads = of_both _ c.new-2.ensures.reads c.new-3.ensures.reads;
  count = of_both _ c.new-2.ensures.none c.new-3.ensures.none;
}
