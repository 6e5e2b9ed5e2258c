use Rattle.std.proofs.Common.{length, refl, ap, arith}
use Rattle.yasir_ticks.proofs.TickRuns.{ticks_in-run}
use Rattle.live_commands.proofs.live_box.LiveBox.give.Goals as goal

pub returns-then-sum-gt-MAX_LIVE_TICKS : goal.returns-then-sum-gt-MAX_LIVE_TICKS
returns-then-sum-gt-MAX_LIVE_TICKS g c = record {
  same = refl;
  sum = omega (arith, c.len.ensures, ap length (ticks_in-run c.args.run));
  above = c.if-sum-gt-MAX_LIVE_TICKS.true;
}

pub take_run-requires : goal.take_run-requires
take_run-requires g c = record {
  room = omega (
    arith,
    c.requires.counted,
    c.if-sum-gt-MAX_LIVE_TICKS.false,
    c.len.ensures,
    ap length (ticks_in-run c.args.run),
  );
  able = c.requires.able;
}

pub returns : goal.returns
returns g c =
    let gives = c.in-Ok.ensures in
    let long = ap length (ticks_in-run c.args.run) in record {
      gives = gives;
      ready = record {
        counted = omega (arith, gives.counted, c.requires.counted, c.len.ensures, long);
        few = c.if-sum-gt-MAX_LIVE_TICKS.false;
        able = gives.is_able;
      };
      count = omega (arith, c.len.ensures, long);
    }
