use Rattle.std.proofs.Common.{arith, ap, length}
use Rattle.{tick_drive.proofs.ItemLaws.run_items-first, session_lists.proofs.Holding.gives-first}
use Rattle.yasir_ticks.proofs.TickRuns.{ticks_in-run}
use Rattle.session_lists.proofs.tick_lists.TickListsConsumer.take_some.Goals as goal

pub take_tick-requires : goal.take_tick-requires
take_tick-requires c =
    omega (arith, c.requires.some, c.requires.may.room, ap length (ticks_in-run c.args.run))

pub returns-in-Ok : goal.returns-in-Ok
returns-in-Ok c =
    let is = run_items-first c.args.run c.first.result _ c.first.ensures in
    gives-first c.args.self.now c.take_tick.new.self c.first.result _ _ is c.in-Ok.ensures
