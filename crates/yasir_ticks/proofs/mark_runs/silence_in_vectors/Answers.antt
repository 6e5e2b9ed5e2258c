use Rattle.{yasir_ticks.proofs.Silence.silence-more, std.proofs.Common.arith}
use Rattle.yasir_ticks.proofs.mark_runs.silence_in_vectors.Goals as goal

pub loop-at-preserved : goal.loop-at-preserved
loop-at-preserved c = (
  omega (arith, c.loop-at-test.true),
  silence-more c.args.marks.now c.loop-at.at 32 c.loop-at.invariant.1
      (λ k less. c.silence_from-silent.ensures.silent k less
      (omega (arith, less, c.if-silent-lt-LANES.false))),
)

pub returns-then-silent-lt-LANES-clause-silent : goal.returns-then-silent-lt-LANES-clause-silent
returns-then-silent-lt-LANES-clause-silent c =
    silence-more c.args.marks.now c.loop-at.at c.silence_from-silent.result c.loop-at.invariant.1
    (λ k less. c.silence_from-silent.ensures.silent k
    (omega (arith, less, c.if-silent-lt-LANES.true)) less)
