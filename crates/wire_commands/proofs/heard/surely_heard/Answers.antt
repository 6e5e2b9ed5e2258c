use Rattle.std.proofs.Common.{arith}
use Rattle.std.proofs.lemmas.List.{length-map, length-replicate}
use Rattle.wire_commands.proofs.Hearing.{hears-behind-bytes, hears-behind-silence}
use Rattle.yasir_ticks.specs.{declared.tick.Tick.TheVariants.Byte}
use Rattle.yasir_ticks.specs.declared.tick.Tick.TheVariants.{Silent}
use Rattle.wire_commands.proofs.heard.surely_heard.Goals as goal

pub returns-in-Bytes : goal.returns-in-Bytes
returns-in-Bytes c =
    let known = rw c.in-Bytes.is at c.len.ensures in
    rw c.in-Bytes.is (hears-behind-bytes c.args.own c.in-Bytes.field-0.now c.args.place c.args.wire
    (omega (arith, c.if-place-eq0.false))
    (omega (arith, c.if-place-len.true, known, length-map c.in-Bytes.field-0.now Byte)))

pub returns-in-Silence : goal.returns-in-Silence
returns-in-Silence c =
    let known = rw c.in-Silence.is at c.len.ensures in
    rw c.in-Silence.is (hears-behind-silence c.args.own c.in-Silence.field-0 c.args.place c.args.wire
    (omega (arith, c.if-place-eq0.false))
    (omega (arith, c.if-place-len.true, known, length-replicate c.in-Silence.field-0 Silent)))
