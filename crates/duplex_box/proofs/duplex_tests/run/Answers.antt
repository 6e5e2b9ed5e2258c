use Rattle.std.proofs.Common.{arith}
use Rattle.duplex_box.proofs.duplex_tests.run.Goals as goal

pub step-requires-clause-journals : goal.step-requires-clause-journals
step-requires-clause-journals g c = c.loop-i.invariant.2

pub step-requires-clause-outgoing : goal.step-requires-clause-outgoing
step-requires-clause-outgoing g c = record {
  room = omega (arith, c.loop-i.invariant.0);
  of_link = c.loop-i.invariant.5;
  fits = c.loop-i.invariant.3;
}

pub step-requires-clause-incoming : goal.step-requires-clause-incoming
step-requires-clause-incoming g c = record {
  room = omega (arith, c.loop-i.invariant.1);
  of_link = c.loop-i.invariant.6;
  fits = c.loop-i.invariant.4;
}
