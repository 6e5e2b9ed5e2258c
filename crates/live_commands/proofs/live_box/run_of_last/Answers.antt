use Rattle.std.proofs.Common.{◌∙◌, map, ap}
use Rattle.yasir_ticks.specs.declared.tick.Tick.TheVariants.{Byte}
use Rattle.live_commands.proofs.RunTicks.{byte_ticks, silent_ticks}
use Rattle.live_commands.proofs.live_box.run_of_last.Goals as goal

pub returns-in-Bytes : goal.returns-in-Bytes
returns-in-Bytes c = rw c.in-Bytes.is
    (ap (map Byte) c.deref.ensures.0 ∙ byte_ticks c.in-Bytes.bytes.items)

pub returns-in-Silence : goal.returns-in-Silence
returns-in-Silence c = rw c.in-Silence.is (silent_ticks c.in-Silence.ticks)
