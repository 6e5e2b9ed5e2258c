use Rattle.check_receiver.proofs.{Beginnings.one-taken, Starting.start-live}
use Rattle.check_receiver.specs.Between.{CheckerIsBetween}
use Rattle.{frame_ending.specs.declared.cut.Cut.TheVariants.Start, std.proofs.Common.arith}
use Rattle.yasir_ticks.specs.declared.tick.Tick.TheVariants.{Silent, Byte}
use Rattle.check_receiver.proofs.checker.Checker.start.Goals as goal

pub returns-clause-run : goal.returns-clause-run
returns-clause-run g c = λ last setup line stands starts none early good.
    let first = c.args.first in
    let before = record c.args.self.now { cut = c.step.new.self } in
    let between : CheckerIsBetween g.R.LineRules g.M.Mac before last setup line (Byte first)
    (Start first) = record {
      word_is = stands.word_is;
      wide = stands.wide;
      delay_is = stands.delay_is;
      direction_is = stands.direction_is;
      cuts = c.step.ensures.stands line stands.cuts;
      is_cut = starts;
      before = c.args.self.now.until;
      one_less = omega arith;
      left_in = stands.left_in;
      walks = stands.walks;
    } in
    let open' = c.begin.ensures.opens last setup line between early good in (
      one-taken g.R.LineRules g.M.Mac c.begin.new.self last setup line (Byte first) Silent
          c.begin.result (c.begin.ensures.step last setup line (Byte first) between) open'.0
          open'.1,
      open'.2,
      open'.3,
      start-live g.R.LineRules g.M.Mac before last setup line first between,
    )
