use Rattle.std.proofs.Common.{◌∙◌, arith}
use Rattle.yasir_ticks.proofs.ManyBytes.{goes_on_byte}
use Rattle.yasir_ticks.proofs.WholeLines.{ends_after, stops_after, line_ended, all_taken}
use Rattle.yasir_ticks.proofs.reader.TickReader.feed_rest.Goals as goal

pub returns-clause-fed : goal.returns-clause-fed
returns-clause-fed c =
    let within = c.loop-taken.invariant.within in
    let end = c.loop-taken-test.false in
    all_taken _ _ c.args.bytes.now _ (omega arith) c.loop-taken.invariant.goes

pub loop-taken-preserved : goal.loop-taken-preserved
loop-taken-preserved c =
    let inside = c.loop-taken-test.true in
    record {
      within = omega arith;
      goes = goes_on_byte _ _ _ c.args.bytes.now _ inside c.loop-taken.invariant.goes
          (rw c.in-Ok-None.field-0-is at c.in-Ok-None.ensures.fed);
      for_good = λ bad was.
          let none = c.loop-taken.invariant.for_good bad was in
          let again = c.in-Ok-None.ensures.for_good bad (rw none.1 was) in
          cc (again.0);
    }

pub returns-in-Ok-Some-clause-fed : goal.returns-in-Ok-Some-clause-fed
returns-in-Ok-Some-clause-fed c = line_ended _ _ c.args.bytes.now _ _
    (ends_after _ _ _ c.args.bytes.now _ c.loop-taken-test.true c.loop-taken.invariant.goes _
    (rw c.in-Ok-Some.field-0-is at c.in-Ok-Some.ensures.fed))

pub returns-in-Err-clause-fed : goal.returns-in-Err-clause-fed
returns-in-Err-clause-fed c = stops_after _ _ _ c.args.bytes.now _ c.loop-taken-test.true
    c.loop-taken.invariant.goes _ c.in-Err.ensures.fed

pub returns-in-Err-clause-for_good : goal.returns-in-Err-clause-for_good
returns-in-Err-clause-for_good c = λ bad was some.
    let none = c.loop-taken.invariant.for_good bad was in
    let again = c.in-Err.ensures.for_good bad (rw none.1 was) in
    (omega (arith, none.0), cc (again.0), again.1 ∙ none.1)
