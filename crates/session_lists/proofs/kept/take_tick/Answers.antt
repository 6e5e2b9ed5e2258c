use Rattle.session_lists.proofs.TakenLines.{box-tick}
use Rattle.std.proofs.Common.{arith}
use Rattle.std.proofs.lemmas.Result.{on_ok_weaker}
use Rattle.session_lists.proofs.kept.take_tick.Goals as goal

pub hear-requires : goal.hear-requires
hear-requires g c = omega (arith, c.requires.able.heard, c.requires.room)

pub returns-in-Ok-clause-takes : goal.returns-in-Ok-clause-takes
returns-in-Ok-clause-takes g c = on_ok_weaker c.hear.result (λ hears.
    box-tick g.B.FrameBox g.G.Guard _ _ _ _ _ _ c.step_into.ensures.taken c.in-Ok.ensures.few
    c.in-Ok.ensures.ok hears) c.hear.ensures.hears
