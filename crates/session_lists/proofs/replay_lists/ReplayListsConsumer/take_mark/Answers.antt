use Rattle.std.proofs.Common.{arith}
use Rattle.session_lists.proofs.SessionListing.{gives-items, lists-marked}
use Rattle.session_lists.proofs.replay_lists.ReplayListsConsumer.take_mark.Goals as goal

pub returns : goal.returns
returns g c = gives-items g.S.FrameBox g.C.FrameBox g.V.Device _ _ _ (record {
  moved = lists-marked g.S.FrameBox g.C.FrameBox g.V.Device _;
  counted = omega arith;
  ready = record {
    sealer = c.requires.able.sealer;
    checker = c.requires.able.checker;
    taken = c.requires.able.taken;
  };
})
