use Rattle.{device_model.specs.Frames.frames_lent, session_lists.proofs.TakenLines.hears-lent}
use Rattle.std.proofs.Common.{arith}
use Rattle.session_lists.proofs.lines.hear_tick.Goals as goal

pub take_lent-requires-clause-room : goal.take_lent-requires-clause-room
take_lent-requires-clause-room g c = omega (arith, c.requires.few, c.requires.room)

pub returns : goal.returns
returns g c = hears-lent g.V.Device c.args.expected
    c.args.device.now c.step-start.new.self c.args.read.now c.take_lent.new.read _
    (frames_lent c.step-start.result (g.V.Device.lent c.step-start.new.self))
    c.step-start.ensures.taken c.take_lent.ensures.few c.step-start.ensures.stands
    c.step-start.ensures.answer c.take_lent.ensures.found
