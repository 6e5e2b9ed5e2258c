use Rattle.{session_lists.proofs.Keeping.listens-more, std.proofs.lemmas.Result.on_ok_weaker}
use Rattle.session_lists.proofs.replay_lists.hear_into.Goals as goal

pub returns-clause-ok : goal.returns-clause-ok
returns-clause-ok g c =
    on_ok_weaker c.keep_lent.result (listens-more g.V.Device c.args.device.now
    c.step-start.new.self c.args.frames.now c.keep_lent.new.frames _ _
    c.step-start.ensures.stands c.step-start.ensures.answer)
    c.keep_lent.ensures.kept
