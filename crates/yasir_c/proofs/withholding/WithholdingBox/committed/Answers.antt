use Rattle.{std.proofs.Common.refl, std.proofs.Common.inl, std.proofs.Common.inr}
use Rattle.{std.proofs.Common.arith, yasir_c.proofs.Holding.with-readiness}
use Rattle.yasir_c.proofs.withholding.WithholdingBox.committed.Goals as goal

pub returns-in-Ready-clause-kept : goal.returns-in-Ready-clause-kept
returns-in-Ready-clause-kept c =
    (refl, inr (c.args.self.now.line_box, with-readiness _ _ c.in-Ready.is))

pub returns-in-Stopped-clause-kept : goal.returns-in-Stopped-clause-kept
returns-in-Stopped-clause-kept c = inr (
  refl,
  omega (arith, c.if-ok-gt1.false),
  (c.args.self.now.line_box, with-readiness _ _ c.in-Stopped.is),
)

pub returns-then-ok-eq0-clause-kept : goal.returns-then-ok-eq0-clause-kept
returns-then-ok-eq0-clause-kept c = inl (
  omega (arith, c.if-ok-eq0.true),
  record {
    held = c.args.self.now.line_box;
    answer = c.in-Withholds.answer;
    old_is = with-readiness _ _ c.in-Withholds.is;
    new_is = refl;
  },
)

pub returns-clause-handed : goal.returns-clause-handed
returns-clause-handed c = (
  omega (arith, c.if-ok-gt1.false, c.if-ok-eq0.false),
  record {
    held = c.args.self.now.line_box;
    old_is = with-readiness _ _ c.in-Withholds.is;
    new_is = refl;
  },
)
