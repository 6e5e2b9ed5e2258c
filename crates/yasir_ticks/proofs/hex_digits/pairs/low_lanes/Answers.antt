use Rattle.std.proofs.Common.{arith}
use Rattle.yasir_ticks.proofs.hex_digits.PairLanes.{none_high, first_high}
use Rattle.yasir_ticks.proofs.hex_digits.pairs.low_lanes.Goals as goal

pub returns-then-high-eq0-clause-low : goal.returns-then-high-eq0-clause-low
returns-then-high-eq0-clause-low c = λ k h.
    none_high c.args.v c.high_lanes-high.result c.high_lanes-high.ensures.bits c.if-high-eq0.true k

pub returns-else-high-eq0-clause-within : goal.returns-else-high-eq0-clause-within
returns-else-high-eq0-clause-within c =
    let high = c.high_lanes-high in
    omega (
      arith,
      (first_high c.args.v high.result high.ensures.bits high.ensures.lanes
          (omega (arith, c.if-high-eq0.false)) (omega arith)).0,
    )

pub returns-else-high-eq0-clause-low : goal.returns-else-high-eq0-clause-low
returns-else-high-eq0-clause-low c =
    let high = c.high_lanes-high in
    (first_high c.args.v high.result high.ensures.bits high.ensures.lanes
    (omega (arith, c.if-high-eq0.false)) (omega arith)).1
