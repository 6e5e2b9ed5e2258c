use Rattle.std.proofs.Common.{ap, arith, length}
use Rattle.yasir_ticks.proofs.TickRuns.{ticks_in-run, length-run_items}
use Rattle.session_lists.proofs.SessionSteps.{gives-none}
use Rattle.session_lists.proofs.session_lists.SessionListsConsumer.take_some.Goals as goal

pub take_front-requires-clause-room : goal.take_front-requires-clause-room
take_front-requires-clause-room g c =
    omega (arith, c.requires.may.room, ap length (ticks_in-run c.args.run))

pub returns-in-Err : goal.returns-in-Err
returns-in-Err g c = gives-none g.S.FrameBox g.C.FrameBox g.V.Device g.G.Guard _ _ _
    (omega (arith, c.requires.some, length-run_items c.args.run))
