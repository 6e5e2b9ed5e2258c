use Rattle.std.proofs.Common.{ap, arith, length}
use Rattle.trial_session.proofs.listening.Listening.keep.Goals as goal

pub settle-requires-clause-room : goal.settle-requires-clause-room
settle-requires-clause-room g c =
    omega (arith, c.requires.room, ap length (c.add.ensures.full c.if-not-add.true))
