use Rattle.std.proofs.Common.{refl, ap}
use Rattle.yasir_c.proofs.Holding.{with-readiness, withheld-after, ready-after}
use Rattle.yasir_c.proofs.withholding.WithholdingBox.step.Goals as goal

pub returns-in-Withholds-clause-kept : goal.returns-in-Withholds-clause-kept
returns-in-Withholds-clause-kept c = (
  refl,
  (c.args.self.now.line_box, c.in-Withholds.field-0, with-readiness _ _ c.in-Withholds.is),
)

pub returns-in-Stopped-clause-kept : goal.returns-in-Stopped-clause-kept
returns-in-Stopped-clause-kept c =
    (refl, (c.args.self.now.line_box, with-readiness _ _ c.in-Stopped.is))

pub returns-in_default-clause-kept : goal.returns-in_default-clause-kept
returns-in_default-clause-kept c = (
  ap (λ b. record { line_box = b; readiness = c.args.self.now.readiness })
      c.in_default.ensures.full.1,
  (
    c.args.self.now.line_box,
    with-readiness _ _ c.in-Ready.is,
    c.in_default.ensures.full.0,
  ),
)

pub returns-then-is_some-clause-steps : goal.returns-then-is_some-clause-steps
returns-then-is_some-clause-steps c = record {
  before = c.args.self.now.line_box;
  after = c.step.new.self;
  old_is = with-readiness _ _ c.in-Ready.is;
  new_is = withheld-after _ _ _ c.of.ensures c.if-is_some.ensures;
  steps = c.in-Ok.ensures.steps;
}

pub returns-else-is_some-clause-steps : goal.returns-else-is_some-clause-steps
returns-else-is_some-clause-steps c = record {
  before = c.args.self.now.line_box;
  after = c.step.new.self;
  old_is = with-readiness _ _ c.in-Ready.is;
  new_is = ready-after c.step.new.self c.in-Ok.step _ c.in-Ready.is c.if-is_some.ensures;
  steps = c.in-Ok.ensures.steps;
}
