use Rattle.line_texts.proofs.Added.{front_of_bytes, front_of_silence}
use Rattle.line_texts.specs.Adding.{IsShortFront}
use Rattle.std.proofs.Common.{map, take, sym, ap, subst, arith}
use Rattle.yasir_ticks.specs.{TickRun.run_ticks, Ticks.silent}
use Rattle.yasir_ticks.specs.declared.tick.Tick.TheVariants.{Byte}
use Rattle.line_texts.proofs.runs.short_front.Goals as goal

pub returns-in-Bytes : goal.returns-in-Bytes
returns-in-Bytes c =
    subst (λ run. IsShortFront run (map Byte (take c.min.result c.in-Bytes.bytes.now)))
    (sym (ap run_ticks c.in-Bytes.is))
    (front_of_bytes c.in-Bytes.bytes.now c.min.result (omega arith) (omega arith)
    (λ some. omega (arith, some)))

pub returns-in-Silence : goal.returns-in-Silence
returns-in-Silence c =
    subst (λ run. IsShortFront run (silent c.min-in-Silence.result))
    (sym (ap run_ticks c.in-Silence.is))
    (front_of_silence c.in-Silence.ticks c.min-in-Silence.result (omega arith) (omega arith)
    (λ some. omega (arith, some)))
