use Rattle.session_lists.proofs.SessionSteps.{lines-have, lines-open, lines-taken}
use Rattle.session_lists.specs.SessionLists.{rest_left}
use Rattle.std.proofs.{Common.arith, Common.ap}
use Rattle.session_lists.proofs.session_lists.SessionLists.take_lines.Goals as goal

pub take_silence-requires-clause-room : goal.take_silence-requires-clause-room
take_silence-requires-clause-room g c =
    let left = ap (rest_left c.args.self.now.timing.link_rest) c.requires.first in
    omega (arith, left, c.requires.room, c.in-Ok-take_line.ensures.takes.counted)

pub hear_line-requires-clause-whole : goal.hear_line-requires-clause-whole
hear_line-requires-clause-whole g c =
    let holds = c.requires.able.holds in
    let passes = c.in-Ok-take_silence.ensures.takes.kept holds.origin _
    (c.in-Ok-take_line.ensures.takes.kept holds.origin holds.link holds.passes) in
    (c.expected_of-expected.ensures.frames holds.origin.spaced _ _ passes.frames.holds
    passes.heard).whole

pub returns-clause-has : goal.returns-clause-has
returns-clause-has g c = λ setups has. lines-have g.S.FrameBox g.C.FrameBox g.V.Device g.G.Guard
    c.args.self.now c.requires.able c.requires.first _ _ _ _ _ _ _ _ c.args.device.now
    c.args.link.now c.args.received.now c.in-Ok.ensures.able c.in-Ok-take_silence.ensures.able
    c.in-Ok.ensures.takes c.in-Ok-take_line.ensures.takes c.in-Ok-take_silence.ensures.takes
    _ c.expected_of-expected.ensures.late c.expected_of-expected.ensures.frames c.hear_line.ensures
    c.requires.nothing setups has

pub returns-clause-able : goal.returns-clause-able
returns-clause-able g c = lines-open g.S.FrameBox g.C.FrameBox g.V.Device g.G.Guard
    c.args.self.now c.requires.able c.requires.first _ _ _ _ _ _ _ _ c.args.device.now
    c.args.link.now c.args.received.now c.in-Ok.ensures.able c.in-Ok-take_silence.ensures.able
    c.in-Ok.ensures.takes c.in-Ok-take_line.ensures.takes c.in-Ok-take_silence.ensures.takes
    _ c.expected_of-expected.ensures.late c.expected_of-expected.ensures.frames c.hear_line.ensures

pub returns-clause-taken : goal.returns-clause-taken
returns-clause-taken g c = lines-taken g.S.FrameBox g.C.FrameBox g.V.Device g.G.Guard
    c.args.self.now c.requires.able c.requires.first _ _ _ _ _ _ _ _ c.args.device.now
    c.args.link.now c.args.received.now c.in-Ok.ensures.able c.in-Ok-take_silence.ensures.able
    c.in-Ok.ensures.takes c.in-Ok-take_line.ensures.takes c.in-Ok-take_silence.ensures.takes
    _ c.expected_of-expected.ensures.late c.expected_of-expected.ensures.frames c.hear_line.ensures
