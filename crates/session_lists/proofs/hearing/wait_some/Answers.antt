use Rattle.{session_lists.proofs.Keeping.listens-more, yasir_ticks.specs.Ticks.silent}
use Rattle.session_lists.proofs.hearing.wait_some.Goals as goal

pub returns-in-Ok-clause-ok : goal.returns-in-Ok-clause-ok
returns-in-Ok-clause-ok g c =
    listens-more g.V.Device c.args.device.now c.wait-met.new.self c.args.frames.now
    c.keep_lent.new.frames (silent c.wait-met.result.taken) _
    c.wait-met.ensures.stands c.wait-met.ensures.answer c.in-Ok.ensures.kept
