use Rattle.std.proofs.Common.{◌∙◌, sym, ap, map, arith, length-drop}
use Rattle.std.proofs.lemmas.List.{drop-map, drop-replicate, take_all}
use Rattle.yasir_ticks.specs.declared.tick.Tick.TheVariants.{Silent, Byte}
use Rattle.yasir_ticks.proofs.tick_run.TickRun.behind.Goals as goal

pub returns-in-Bytes : goal.returns-in-Bytes
returns-in-Bytes c =
    let bytes = c.in-Bytes.bytes.now in
    rw c.in-Bytes.is (ap (map Byte) (take_all _ _ (omega (arith, length-drop c.args.count bytes)))
    ∙ sym (drop-map Byte c.args.count bytes))

pub returns-in-Silence : goal.returns-in-Silence
returns-in-Silence c = rw c.in-Silence.is (sym (drop-replicate _ _ Silent))
