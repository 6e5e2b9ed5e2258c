use Rattle.session_lists.proofs.RunFronts.{passes-on}
use Rattle.session_lists.proofs.TakenLines.{goes-nowhere}
use Rattle.session_lists.proofs.kept.take_some.Goals as goal

pub returns-in-Some-clause-takes : goal.returns-in-Some-clause-takes
returns-in-Some-clause-takes g c = goes-nowhere _ _ _ c.args.line_box.now c.args.kept.now

pub returns-in-None-clause-takes : goal.returns-in-None-clause-takes
returns-in-None-clause-takes g c = passes-on g.B.FrameBox g.G.Guard _ _ _ _ _ _ c.in-None.is
    c.pass_run.ensures.within c.pass_run.ensures.taken c.pass_run.ensures.stands
    c.pass_run.ensures.answers
