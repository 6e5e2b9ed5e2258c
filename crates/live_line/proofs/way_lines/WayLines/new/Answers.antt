use Rattle.live_line.proofs.Ended.{ended_nil}
use Rattle.live_line.specs.WayText.{AreEnded}
use Rattle.std.proofs.Common.{arith, sym, subst}
use Rattle.live_line.proofs.way_lines.WayLines.new.Goals as goal

pub returns-clause-may : goal.returns-clause-may
returns-clause-may g c = record {
  ready = c.requires.ready;
  room = c.new-2.ensures.room;
  ended = subst AreEnded (sym c.new-2.ensures.notes) ended_nil;
  level = omega (arith, c.new.ensures.number, c.requires.number);
}
