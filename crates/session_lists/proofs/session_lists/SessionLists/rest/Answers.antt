use Rattle.std.proofs.Common.{arith}
use Rattle.std.proofs.lemmas.List.{length-replicate}
use Rattle.yasir_ticks.specs.declared.tick.Tick.TheVariants.{Silent}
use Rattle.session_lists.proofs.SessionSteps.{rests-have, rests-open}
use Rattle.session_lists.proofs.session_lists.SessionLists.rest.Goals as goal

pub hear_rest-requires-clause-whole : goal.hear_rest-requires-clause-whole
hear_rest-requires-clause-whole g c =
    let holds = c.requires.able.holds in
    (c.expected_of-expected.ensures.frames holds.origin.spaced _ _ holds.passes.frames.holds
    holds.passes.heard).whole

pub returns-clause-rests : goal.returns-clause-rests
returns-clause-rests g c = λ setups x y z has. rests-have g.S.FrameBox g.C.FrameBox g.V.Device g.G.Guard
    c.args.self.now c.requires.able _ _ _ _ c.in-Ok.ensures.able c.in-Ok.ensures.takes
    _ c.expected_of-expected.ensures.late c.expected_of-expected.ensures.frames c.hear_rest.ensures
    setups x y z has

pub returns-clause-able : goal.returns-clause-able
returns-clause-able g c = rests-open g.S.FrameBox g.C.FrameBox g.V.Device g.G.Guard
    c.args.self.now c.requires.able _ _ _ _ c.in-Ok.ensures.able c.in-Ok.ensures.takes
    _ c.expected_of-expected.ensures.late c.expected_of-expected.ensures.frames c.hear_rest.ensures

pub returns-clause-taken : goal.returns-clause-taken
returns-clause-taken g c = omega (
  arith,
  c.in-Ok.ensures.takes.counted,
  c.hear_rest.ensures.counted,
  length-replicate c.args.self.now.timing.sent_rest Silent,
  length-replicate c.args.self.now.timing.received_rest Silent,
)
