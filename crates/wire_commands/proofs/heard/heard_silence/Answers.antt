use Rattle.std.proofs.Common.{◌∷◌, drop, arith, subst}
use Rattle.wire_commands.proofs.Hearing.{silence-more}
use Rattle.wire_commands.specs.Hearing.{SurelyHearsTick}
use Rattle.yasir_ticks.specs.{TickRun.run_ticks, declared.tick.Tick.TheVariants.Silent}
use Rattle.wire_commands.proofs.heard.heard_silence.Goals as goal

pub loop-count-preserved : goal.loop-count-preserved
loop-count-preserved c =
    let count = c.loop-count.count in
    let known = c.args.own ∷ run_ticks c.args.next in
    let sure = rw c.in-Some-Silent.field-0-is at c.in-Some-Silent.ensures in
    record {
      some = omega arith;
      within = omega (arith, c.loop-count-test.true);
      heard = λ left within. silence-more known c.args.line.now left count
          (omega (arith, within, c.loop-count-test.true)) (c.loop-count.invariant.heard left within)
          (subst (λ t. SurelyHearsTick (drop count known) t Silent) c.tick_at.ensures sure);
    }
