use Rattle.line_texts.proofs.Added.{adds_joined, adds_as, short_bytes, short_below}
use Rattle.line_texts.specs.{Adding.IsShort, Texts.waiting_in}
use Rattle.std.proofs.Common.{[], map, sym, ap, subst, arith}
use Rattle.std.proofs.lemmas.List.{length-replicate}
use Rattle.yasir_ticks.specs.{TickRun.run_ticks, Ticks.silent}
use Rattle.yasir_ticks.specs.declared.tick.Tick.TheVariants.{Silent, Byte}
use Rattle.line_texts.proofs.texts.Texts.add_run.Goals as goal

pub add_bytes-requires-clause-short : goal.add_bytes-requires-clause-short
add_bytes-requires-clause-short c = short_bytes c.in-Bytes.bytes.now
    (subst IsShort (ap run_ticks c.in-Bytes.is) c.requires.short)

pub add_silence-requires-clause-short : goal.add_silence-requires-clause-short
add_silence-requires-clause-short c =
    let few = short_below (silent c.in-Silence.ticks)
    (subst IsShort (ap run_ticks c.in-Silence.is) c.requires.short) in
    omega (arith, few, length-replicate c.in-Silence.ticks Silent)

pub returns-else-not-join_bytes-clause-adds : goal.returns-else-not-join_bytes-clause-adds
returns-else-not-join_bytes-clause-adds c = adds_as _ _ _ _ [] (sym (ap run_ticks c.in-Bytes.is))
    (adds_joined (waiting_in c.args.self.now) c.join_bytes.new.self (map Byte c.in-Bytes.bytes.now)
    (c.join_bytes.ensures.joined c.if-not-join_bytes.false))

pub returns-else-not-join_silence-clause-adds : goal.returns-else-not-join_silence-clause-adds
returns-else-not-join_silence-clause-adds c =
    adds_as _ _ _ _ [] (sym (ap run_ticks c.in-Silence.is))
    (adds_joined (waiting_in c.args.self.now) c.join_silence.new.self (silent c.in-Silence.ticks)
    (c.join_silence.ensures.joined c.if-not-join_silence.false))
