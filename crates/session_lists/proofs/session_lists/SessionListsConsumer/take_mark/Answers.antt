use Rattle.std.proofs.Common.{arith}
use Rattle.session_lists.proofs.SessionSteps.{gives-mark, gives-none}
use Rattle.session_lists.proofs.session_lists.SessionListsConsumer.take_mark.Goals as goal

pub returns-in-Err : goal.returns-in-Err
returns-in-Err g c = gives-none g.S.FrameBox g.C.FrameBox g.V.Device g.G.Guard _ _ _ (omega arith)

pub returns : goal.returns
returns g c = gives-mark g.S.FrameBox g.C.FrameBox g.V.Device g.G.Guard c.args.self.now
    c.behind-self.result c.requires.able c.in_default.not-Second c.behind-self.ensures
