use Rattle.std.proofs.Common.{◌∷◌, [], drop, length, map, ap, arith, subst, sym, length-append}
use Rattle.line_commands.specs.Recording.{filled_recording}
use Rattle.wire_commands.proofs.Hearing.{byte-more}
use Rattle.wire_commands.specs.Hearing.{SurelyHears, SurelyHearsTick}
use Rattle.yasir_ticks.specs.{TickRun.run_ticks, declared.tick.Tick.TheVariants.Byte}
use Rattle.wire_commands.proofs.heard.heard_bytes.Goals as goal

pub loop-count-preserved : goal.loop-count-preserved
loop-count-preserved c =
    let count = c.loop-count.count in
    let bytes = c.loop-count.heard.items in
    let byte = c.in-Some-Byte.byte in
    let known = c.args.own ∷ run_ticks c.args.next in
    let sure = rw c.in-Some-Byte.field-0-is at c.in-Some-Byte.ensures in
    record {
      some = omega arith;
      within = omega (arith, c.loop-count-test.true);
      counted = omega (
        arith,
        ap length c.push.ensures.items,
        length-append bytes (byte ∷ []),
        c.loop-count.invariant.counted,
      );
      heard = λ left within. subst (λ l. SurelyHears known (filled_recording left c.args.line.now)
          (map Byte l)) (sym c.push.ensures.items) (byte-more known c.args.line.now left count bytes byte
          (omega (arith, within, c.loop-count-test.true)) c.loop-count.invariant.counted
          (c.loop-count.invariant.heard left within)
          (subst (λ t. SurelyHearsTick (drop count known) t (Byte byte)) c.tick_at.ensures sure));
    }
