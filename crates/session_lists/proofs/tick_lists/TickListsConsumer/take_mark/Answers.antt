use Rattle.{std.proofs.Common.arith, session_lists.proofs.Holding.holds-mark}
use Rattle.session_lists.proofs.tick_lists.TickListsConsumer.take_mark.Goals as goal

pub returns : goal.returns
returns c = record {
  moved = λ origin items holds. holds-mark c.args.self.now c.behind-self.result items
      c.behind-self.ensures holds;
  stopped = tt;
  counted = omega arith;
  is_able = tt;
  went = tt;
}
