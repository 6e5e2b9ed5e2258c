use Rattle.std.proofs.Common.{inr, arith}
use Rattle.session_lists.proofs.Listed.{listed-whole, room-whole, ends-listing}
use Rattle.session_lists.proofs.recordings.list_recordings.Goals as goal

pub returns-in_default-clause-listed : goal.returns-in_default-clause-listed
returns-in_default-clause-listed g c =
    ends-listing g.S.FrameBox g.C.FrameBox g.V.Device _ _ _ _ c.requires _ c.in_default.not-Whole
    c.drive_to_rest.ensures.driven c.args.device_rest

pub rest-requires-clause-room : goal.rest-requires-clause-room
rest-requires-clause-room g c = omega (
  arith,
  room-whole g.S.FrameBox g.C.FrameBox g.V.Device _ _ _ _ c.requires
      c.in-Whole.ensures.driven,
)

pub returns-in-Ok-clause-listed : goal.returns-in-Ok-clause-listed
returns-in-Ok-clause-listed g c =
    let driven = c.in-Whole.ensures.driven in record {
      items = driven.items;
      takes = driven.takes;
      listed = λ setup listed. c.in-Ok.ensures setup _ _
          (listed-whole g.S.FrameBox g.C.FrameBox g.V.Device _ _ _ _ c.requires driven setup
          listed);
    }

pub returns-in-Err-clause-listed : goal.returns-in-Err-clause-listed
returns-in-Err-clause-listed g c =
    let driven = c.in-Whole.ensures.driven in
    record { items = driven.items; takes = inr driven.takes; memory = λ stop is. cc }
