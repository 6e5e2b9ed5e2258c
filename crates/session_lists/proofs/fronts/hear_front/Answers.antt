use Rattle.{device_model.specs.Frames.frames_lent, session_lists.proofs.TakenLines.hears-lent}
use Rattle.std.proofs.{Common.arith, lemmas.List.length-take-le}
use Rattle.yasir_ticks.specs.TickRun.{run_ticks}
use Rattle.session_lists.proofs.fronts.hear_front.Goals as goal

pub take_lent-requires-clause-room : goal.take_lent-requires-clause-room
take_lent-requires-clause-room g c = omega (arith, c.requires.few, c.requires.room, c.requires.some)

pub returns-clause-hears : goal.returns-clause-hears
returns-clause-hears g c =
    let n = c.hear_run-met.result.taken in
    let long = length-take-le n (run_ticks c.args.run) c.hear_run-met.ensures.within in
    hears-lent g.V.Device c.args.expected
    c.args.device.now c.hear_run-met.new.device c.args.read.now c.take_lent.new.read _
    (frames_lent c.hear_run-met.result.start
    (g.V.Device.lent c.hear_run-met.new.device))
    (omega (arith, c.hear_run-met.ensures.taken, long))
    (omega (arith, c.take_lent.ensures.few, c.hear_run-met.ensures.some c.requires.some, long))
    c.hear_run-met.ensures.stands c.hear_run-met.ensures.answer c.take_lent.ensures.found
