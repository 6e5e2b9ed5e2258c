use Rattle.session_lists.proofs.Runs.{keeps-run}
use Rattle.session_lists.proofs.replay_lists.ReplayLists.seal_run.Goals as goal

pub returns-clause-ok : goal.returns-clause-ok
returns-clause-ok g c = λ setup line keeps.
    keeps-run g.S.FrameBox c.args.self.now.sealer c.pass_run.new.line_box c.args.self.now.sealed
    setup line _ _ keeps (c.pass_run.ensures.stands setup line keeps.steps)
    (c.pass_run.ensures.answers setup line keeps.steps)
