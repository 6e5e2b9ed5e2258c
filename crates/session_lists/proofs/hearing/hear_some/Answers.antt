use Rattle.{session_lists.proofs.Keeping.listens-more, std.proofs.Common.map, std.proofs.Common.take}
use Rattle.yasir_ticks.specs.declared.tick.Tick.TheVariants.{Byte}
use Rattle.session_lists.proofs.hearing.hear_some.Goals as goal

pub returns-in-Ok-clause-ok : goal.returns-in-Ok-clause-ok
returns-in-Ok-clause-ok g c =
    listens-more g.V.Device c.args.device.now c.hear-met.new.self c.args.frames.now
    c.keep_lent.new.frames (map Byte (take c.hear-met.result.taken c.args.bytes.now)) _
    c.hear-met.ensures.stands c.hear-met.ensures.answer c.in-Ok.ensures.kept
