use Rattle.std.proofs.Common.{ap, length, arith}
use Rattle.{std.proofs.lemmas.List.length-take, tick_drive.proofs.Meeting.meets_line}
use Rattle.tick_drive.proofs.intake.Intake.usual_line.Goals as goal

pub take_usual-requires : goal.take_usual-requires
take_usual-requires c =
    omega (arith, c.args.self.now.lines, length-take 122 c.kept-kept.result.now)

pub overflow_sub-self : goal.overflow_sub-self
overflow_sub-self c =
    omega (arith, c.in_ok-taken.ensures.within, length-take 122 c.kept-kept.result.now)

pub skip-requires : goal.skip-requires
skip-requires c = omega (
  arith,
  c.in_ok-taken.ensures.within,
  length-take 122 c.kept-kept.result.now,
  ap length c.kept-kept.ensures,
)

pub invariant_of-self-2-clause-lines : goal.invariant_of-self-2-clause-lines
invariant_of-self-2-clause-lines c = omega (
  arith,
  c.args.self.now.lines,
  c.in_ok-taken.ensures.fed.lines,
  c.in_ok-taken.ensures.within,
  length-take 122 c.kept-kept.result.now,
)

pub returns-clause-answer : goal.returns-clause-answer
returns-clause-answer c = λ marks before now text met.
    let fed = c.in_ok-taken.ensures in
    meets_line _ _ marks before now text c.kept-kept.result.now 122 c.in_ok-taken.field-0.taken _ met
    fed.fed c.kept-kept.ensures c.skip.ensures.kept c.skip.ensures.ended
    (omega arith) (omega arith) (omega arith)
    (omega (arith, fed.within, length-take 122 c.kept-kept.result.now))
