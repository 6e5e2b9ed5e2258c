use Rattle.live_commands.proofs.RunTicks.{byte_ticks, silent_ticks}
use Rattle.live_commands.proofs.live_box.run_of.Goals as goal

pub returns-in-KeptBytes : goal.returns-in-KeptBytes
returns-in-KeptBytes c = rw c.in-KeptBytes.is (byte_ticks c.args.bytes.now)

pub returns-in-SilentTicks : goal.returns-in-SilentTicks
returns-in-SilentTicks c = rw c.in-SilentTicks.is (silent_ticks c.in-SilentTicks.ticks)
