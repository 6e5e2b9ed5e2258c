use Rattle.session_lists.proofs.SessionListing.{gives-items, gives-no_memory}
use Rattle.{session_lists.specs.ReplayLists.listing, std.proofs.Common.ap, std.proofs.Common.arith}
use Rattle.{std.proofs.Common.length, tick_drive.proofs.Fronts.none_given}
use Rattle.tick_drive.proofs.{Fronts.still_may, Fronts.one_given, ItemLaws.run_items-first}
use Rattle.yasir_ticks.proofs.TickRuns.{ticks_in-run, length-run_items}
use Rattle.yasir_ticks.specs.{TickRun.run_items, Ticks.ticks_in}
use Rattle.session_lists.proofs.replay_lists.ReplayListsConsumer.take_some.Goals as goal

pub take_front-requires-clause-room : goal.take_front-requires-clause-room
take_front-requires-clause-room g c =
    omega (arith, c.requires.may.room, ap length (ticks_in-run c.args.run))

pub returns-in-Err : goal.returns-in-Err
returns-in-Err g c = gives-no_memory g.S.FrameBox g.C.FrameBox g.V.Device _ _ _
    (omega (arith, c.requires.some, length-run_items c.args.run))

pub returns-then-count-gt0 : goal.returns-then-count-gt0
returns-then-count-gt0 g c = record {
  some = c.if-count-gt0.true;
  within = omega (arith, c.in-Ok.ensures.within, length-run_items c.args.run);
  gives = gives-items g.S.FrameBox g.C.FrameBox g.V.Device _ _ _ c.in-Ok.ensures.goes;
}

pub take_tick-requires-clause-room : goal.take_tick-requires-clause-room
take_tick-requires-clause-room g c =
    let items = run_items c.args.run in
    let none = none_given (listing g.S.FrameBox g.C.FrameBox g.V.Device) c.args.self.now
    c.take_front.new.self items c.in-Ok.count
    (omega (arith, c.if-count-gt0.false)) (record {
      within = omega (arith, c.in-Ok.ensures.within, length-run_items c.args.run);
      gives = gives-items g.S.FrameBox g.C.FrameBox g.V.Device _ _ _ c.in-Ok.ensures.goes;
    }) in
    let is = run_items-first c.args.run c.first-first.result _ c.first-first.ensures in
    let may = still_may (listing g.S.FrameBox g.C.FrameBox g.V.Device) c.args.self.now
    c.take_front.new.self items c.requires.may
    none in
    omega (arith, may.room, ap (λ l. length (ticks_in l)) is)

pub take_tick-requires-clause-ready : goal.take_tick-requires-clause-ready
take_tick-requires-clause-ready g c = c.in-Ok.ensures.goes.ready

pub returns-in-Ok-take_tick : goal.returns-in-Ok-take_tick
returns-in-Ok-take_tick g c =
    let items = run_items c.args.run in
    let none = none_given (listing g.S.FrameBox g.C.FrameBox g.V.Device) c.args.self.now
    c.take_front.new.self items c.in-Ok.count
    (omega (arith, c.if-count-gt0.false)) (record {
      within = omega (arith, c.in-Ok.ensures.within, length-run_items c.args.run);
      gives = gives-items g.S.FrameBox g.C.FrameBox g.V.Device _ _ _ c.in-Ok.ensures.goes;
    }) in
    let is = run_items-first c.args.run c.first-first.result _ c.first-first.ensures in
    one_given (listing g.S.FrameBox g.C.FrameBox g.V.Device) (λ a b c result first second. tt)
    c.args.self.now c.take_front.new.self
    c.take_tick.new.self items none _ _ is
    (gives-items g.S.FrameBox g.C.FrameBox g.V.Device _ _ _ c.in-Ok-take_tick.ensures)

pub returns-in-Err-take_tick : goal.returns-in-Err-take_tick
returns-in-Err-take_tick g c = gives-no_memory g.S.FrameBox g.C.FrameBox g.V.Device _ _ _
    (omega (arith, c.requires.some, length-run_items c.args.run))
