use Rattle.session_lists.proofs.SessionSteps.{gives-end}
use Rattle.session_lists.proofs.session_lists.SessionLists.end_link.Goals as goal

pub returns : goal.returns
returns g c = gives-end g.S.FrameBox g.C.FrameBox g.V.Device g.G.Guard c.args.self.now
    c.take_silence.new.line_box c.take_silence.new.kept c.requires.able c.requires.second
    c.in-Ok.ensures.able c.in-Ok.ensures.takes
