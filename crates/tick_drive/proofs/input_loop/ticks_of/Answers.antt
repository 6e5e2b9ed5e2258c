use Rattle.std.proofs.Common.{sym}
use Rattle.tick_drive.proofs.ItemLaws.{length-ticks_in-bytes, length-ticks_in-silence}
use Rattle.tick_drive.proofs.input_loop.ticks_of.Goals as goal

pub returns-in-KeptBytes : goal.returns-in-KeptBytes
returns-in-KeptBytes c = rw c.in-KeptBytes.is (sym (length-ticks_in-bytes c.args.bytes.now))

pub returns-in-SilentTicks : goal.returns-in-SilentTicks
returns-in-SilentTicks c = rw c.in-SilentTicks.is
    (sym (length-ticks_in-silence c.in-SilentTicks.n))
