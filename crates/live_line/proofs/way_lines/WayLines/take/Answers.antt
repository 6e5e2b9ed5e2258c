use Rattle.live_line.proofs.Waiting.{taken_more}
use Rattle.std.proofs.Common.{refl, arith}
use Rattle.live_line.proofs.way_lines.WayLines.take.Goals as goal

pub returns : goal.returns
returns g c = let did = c.take.ensures in record {
  counted = did.counted;
  kept = refl;
  may = record {
    ready = did.ready;
    line_room = did.line_room;
    ended = did.ended c.requires.may.ended;
    level = omega (arith, did.rises, c.requires.may.level);
  };
  takes = λ setup early line has. taken_more g.X.WayBox c.args.self.now _ setup early line c.args.tick
      refl has (did.adds setup line has.stood);
}
