use Rattle.std.proofs.Common.{◌∙◌, inl, inr, arith, sym}
use Rattle.session_lists.proofs.Parted.{marks-third, marks-many}
use Rattle.session_lists.proofs.SessionSteps.{first-goes, second-goes, third-goes}
use Rattle.session_lists.proofs.session_lists.SessionLists.take_front.Goals as goal

pub returns-in-Ok : goal.returns-in-Ok
returns-in-Ok g c = first-goes g.S.FrameBox g.C.FrameBox g.V.Device g.G.Guard c.args.self.now
    c.requires.able c.args.run c.in-Ok.count c.in-Ok.ensures.some c.in-Ok.ensures.within
    c.take_front.new.line_box c.take_front.new.kept c.in-First.is c.in-Ok.ensures.able
    c.in-Ok.ensures.takes

pub returns-in-Ok-take_front : goal.returns-in-Ok-take_front
returns-in-Ok-take_front g c = second-goes g.S.FrameBox g.C.FrameBox g.V.Device g.G.Guard c.args.self.now
    c.requires.able c.args.run c.in-Ok-take_front.count c.in-Ok-take_front.ensures.some
    c.in-Ok-take_front.ensures.within c.take_front-in-Second.new.line_box
    c.take_front-in-Second.new.kept c.in-Second.is c.in-Ok-take_front.ensures.able
    c.in-Ok-take_front.ensures.takes

pub hear_front-requires-clause-whole : goal.hear_front-requires-clause-whole
hear_front-requires-clause-whole g c =
    let holds = c.requires.able.holds in
    (c.expected_of-expected.ensures.frames holds.origin.spaced _ _ holds.passes.frames.holds
    holds.passes.heard).whole

pub returns-in-Third : goal.returns-in-Third
returns-in-Third g c = third-goes g.S.FrameBox g.C.FrameBox g.V.Device g.G.Guard c.args.self.now
    c.requires.able c.args.run c.hear_front.result c.hear_front.ensures.some
    c.hear_front.ensures.within c.hear_front.new.device c.hear_front.new.read
    (λ m is. elim c.in-Third.is [
      | inl third ↦ omega (arith, marks-third m (sym third ∙ is))
      | inr many ↦ omega (arith, marks-many m (sym many ∙ is))
    ])
    _ c.expected_of-expected.ensures.late c.expected_of-expected.ensures.frames
    c.hear_front.ensures.hears
