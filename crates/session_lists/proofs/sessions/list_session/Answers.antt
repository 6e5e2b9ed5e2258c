use Rattle.std.proofs.Common.{inr, arith, ap}
use Rattle.session_lists.specs.SessionLists.{all_rests}
use Rattle.session_lists.proofs.SessionSteps.{session-whole, few-whole, timing-same, ends-session}
use Rattle.session_lists.proofs.sessions.list_session.Goals as goal

pub returns-in_default-clause-listed : goal.returns-in_default-clause-listed
returns-in_default-clause-listed g c =
    ends-session g.S.FrameBox g.C.FrameBox g.V.Device g.G.Guard _ _ _ _ c.requires.fresh _
    c.in_default.not-Whole c.drive_with_room.ensures.driven

pub rest-requires-clause-room : goal.rest-requires-clause-room
rest-requires-clause-room g c =
    let driven = c.in-Whole.ensures.driven in
    let same = ap all_rests (timing-same g.S.FrameBox g.C.FrameBox g.V.Device g.G.Guard _ _ _ _
    c.requires.fresh driven) in
    omega (
      arith,
      same,
      c.requires.fresh.short,
      few-whole g.S.FrameBox g.C.FrameBox g.V.Device g.G.Guard _ _ _ _ c.requires.fresh driven,
    )

pub returns-in-Ok-clause-listed : goal.returns-in-Ok-clause-listed
returns-in-Ok-clause-listed g c =
    let driven = c.in-Whole.ensures.driven in
    let same = ap all_rests (timing-same g.S.FrameBox g.C.FrameBox g.V.Device g.G.Guard _ _ _ _
    c.requires.fresh driven) in
    record {
      items = driven.items;
      takes = driven.takes;
      lists = record {
        has = λ setups has. c.in-Ok.ensures.rests setups _ _ _
            (session-whole g.S.FrameBox g.C.FrameBox g.V.Device g.G.Guard _ _ _ _ c.requires.fresh driven
            setups has);
        able = c.in-Ok.ensures.able;
        few = omega (
          arith,
          c.in-Ok.ensures.taken,
          same,
          c.requires.fresh.short,
          few-whole g.S.FrameBox g.C.FrameBox g.V.Device g.G.Guard _ _ _ _ c.requires.fresh driven,
        );
      };
    }

pub returns-in-Err-clause-listed : goal.returns-in-Err-clause-listed
returns-in-Err-clause-listed g c =
    let driven = c.in-Whole.ensures.driven in
    record { items = driven.items; takes = inr driven.takes; memory = λ stop is. cc }
