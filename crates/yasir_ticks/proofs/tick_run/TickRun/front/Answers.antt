use Rattle.std.proofs.Common.{sym}
use Rattle.std.proofs.lemmas.List.{take-map, take-replicate, length-replicate}
use Rattle.yasir_ticks.specs.declared.tick.Tick.TheVariants.{Silent, Byte}
use Rattle.yasir_ticks.proofs.tick_run.TickRun.front.Goals as goal

pub returns-in-Bytes : goal.returns-in-Bytes
returns-in-Bytes c = rw c.in-Bytes.is (sym (take-map Byte _ _))

pub returns-in-Silence : goal.returns-in-Silence
returns-in-Silence c =
    let long = rw (c.in-Silence.is, length-replicate) at c.requires in
    rw c.in-Silence.is (sym (take-replicate _ _ Silent long))
