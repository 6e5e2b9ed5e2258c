use Rattle.live_commands.proofs.Taken.{given_in_memory, given_handed, stopped_handing, still_fits}
use Rattle.live_commands.proofs.Taken.{still_ahead, still_stands}
use Rattle.live_commands.specs.Filtering.{outside}
use Rattle.std.proofs.Common.{ap, length, arith}
use Rattle.yasir_ticks.proofs.TickRuns.{ticks_in-run}
use Rattle.live_commands.proofs.filter.take_some.Goals as goal

pub take_some-count-requires-clause-count : goal.take_some-count-requires-clause-count
take_some-count-requires-clause-count g c =
    omega (arith, c.requires.may.room, ap length (ticks_in-run c.args.run))

pub returns-then-has_room : goal.returns-then-has_room
returns-then-has_room g c =
    let takes = c.take_some-count.ensures in
    let may = c.requires.may.able in
    let old = outside c.args.lines.now c.args.port.now c.args.disk.now in
    given_in_memory g.B.LinkBox g.B.LineBox.line_of g.P.Port g.D.SlotDisk g.met.D.SlotDisk.only_now
    old c.take_some-count.new.self c.args.run c.take_some-count.result takes may.ahead may.stands
    (record {
      ready = takes.takes.front.goes.ready;
      room = c.has_room.ensures.room c.if-has_room.true;
      fits = still_fits g.B.LinkBox g.B.LineBox.line_of g.P.Port g.D.SlotDisk
          g.met.D.SlotDisk.only_now old c.take_some-count.new.self c.args.run
          c.take_some-count.result takes may.ahead may.stands may.fits;
      ahead = still_ahead g.B.LinkBox g.B.LineBox.line_of g.P.Port g.D.SlotDisk
          g.met.D.SlotDisk.only_now old c.take_some-count.new.self c.args.run
          c.take_some-count.result takes may.ahead may.stands;
      stands = still_stands g.B.LinkBox g.B.LineBox.line_of g.P.Port g.D.SlotDisk
          g.met.D.SlotDisk.only_now old c.take_some-count.new.self c.args.run
          c.take_some-count.result takes may.ahead may.stands;
    })

pub hand_on_all-requires : goal.hand_on_all-requires
hand_on_all-requires g c =
    let takes = c.take_some-count.ensures in
    let may = c.requires.may.able in
    let old = outside c.args.lines.now c.args.port.now c.args.disk.now in record {
      ready = takes.takes.front.goes.ready;
      line_room = takes.takes.line_room;
      fits = still_fits g.B.LinkBox g.B.LineBox.line_of g.P.Port g.D.SlotDisk
          g.met.D.SlotDisk.only_now old c.take_some-count.new.self c.args.run
          c.take_some-count.result takes may.ahead may.stands may.fits;
      ahead = still_ahead g.B.LinkBox g.B.LineBox.line_of g.P.Port g.D.SlotDisk
          g.met.D.SlotDisk.only_now old c.take_some-count.new.self c.args.run
          c.take_some-count.result takes may.ahead may.stands;
      stands = still_stands g.B.LinkBox g.B.LineBox.line_of g.P.Port g.D.SlotDisk
          g.met.D.SlotDisk.only_now old c.take_some-count.new.self c.args.run
          c.take_some-count.result takes may.ahead may.stands;
    }

pub returns-in-Ok : goal.returns-in-Ok
returns-in-Ok g c = let may = c.requires.may.able in
    given_handed g.B.LinkBox g.B.LineBox.line_of g.P.Port g.D.SlotDisk
    g.met.D.SlotDisk.only_now (outside c.args.lines.now c.args.port.now c.args.disk.now)
    c.take_some-count.new.self c.args.run c.take_some-count.result c.take_some-count.ensures
    may.ahead may.stands
    (outside c.hand_on_all.new.lines c.hand_on_all.new.port c.hand_on_all.new.disk)
    c.in-Ok.ensures

pub returns-in-Err : goal.returns-in-Err
returns-in-Err g c = let may = c.requires.may.able in
    stopped_handing g.B.LinkBox g.B.LineBox.line_of g.P.Port g.D.SlotDisk
    g.met.D.SlotDisk.only_now (outside c.args.lines.now c.args.port.now c.args.disk.now)
    c.take_some-count.new.self c.args.run c.take_some-count.result c.take_some-count.ensures
    may.ahead may.stands
    (outside c.hand_on_all.new.lines c.hand_on_all.new.port c.hand_on_all.new.disk)
    c.in-Err.stop c.in-Err.ensures
