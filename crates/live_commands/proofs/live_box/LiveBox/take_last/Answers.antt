use Rattle.live_commands.proofs.Finishing.{finish_refused, last_ended, rest_stopped, rest_given}
use Rattle.{live_commands.specs.LiveLine.live_of, std.proofs.Common.◌∙◌, std.proofs.Common.arith}
use Rattle.tick_drive.proofs.ItemLaws.{length-ticks_in-silence}
use Rattle.yasir_ticks.proofs.TickRuns.{ticks_in-run}
use Rattle.yasir_ticks.specs.{TickRun.run_items, Ticks.items_of_run}
use Rattle.live_commands.proofs.live_box.LiveBox.take_last.Goals as goal

pub returns-in-Err : goal.returns-in-Err
returns-in-Err g c = finish_refused g.B.LinkBox g.B.LineBox.line_of g.P.Port g.D.SlotDisk
    c.args.lines c.args.rest (live_of c.args.self.now c.args.port.now c.args.disk.now) c.in-Err.end
    g.met.D.SlotDisk.only_now c.requires c.in-Err.ensures.of_text c.in-Err.ensures.answer

pub returns-in-Err-give : goal.returns-in-Err-give
returns-in-Err-give g c = last_ended g.B.LinkBox g.B.LineBox.line_of g.P.Port g.D.SlotDisk
    c.args.lines c.args.rest (live_of c.args.self.now c.args.port.now c.args.disk.now)
    (live_of c.give.new.self c.give.new.port c.give.new.disk) (items_of_run c.in-Ok.run')
    (run_items c.run_of_last.result) (ticks_in-run c.run_of_last.result ∙ c.run_of_last.ensures)
    c.in-Ok.ensures.answer g.met.D.SlotDisk.only_now c.requires
    c.in-Err-give.end c.in-Err-give.ensures

pub take_run-requires : goal.take_run-requires
take_run-requires g c = let given = c.in-Ok-give.ensures in record {
  room = omega (
    arith,
    given.ready.counted,
    given.ready.few,
    c.ranges.rest.fits,
    length-ticks_in-silence c.args.rest,
  );
  able = given.ready.able;
}

pub returns-in-Ok-take_run : goal.returns-in-Ok-take_run
returns-in-Ok-take_run g c = rest_given g.B.LinkBox g.B.LineBox.line_of g.P.Port g.D.SlotDisk
    c.args.lines c.args.rest (live_of c.args.self.now c.args.port.now c.args.disk.now)
    (live_of c.give.new.self c.give.new.port c.give.new.disk) (items_of_run c.in-Ok.run')
    (run_items c.run_of_last.result) (ticks_in-run c.run_of_last.result ∙ c.run_of_last.ensures)
    c.in-Ok.ensures.answer g.met.D.SlotDisk.only_now c.requires
    c.in-Ok-give.ensures _ c.in-Ok-take_run.ensures

pub returns-in-Err-take_run : goal.returns-in-Err-take_run
returns-in-Err-take_run g c = rest_stopped g.B.LinkBox g.B.LineBox.line_of g.P.Port g.D.SlotDisk
    c.args.lines c.args.rest (live_of c.args.self.now c.args.port.now c.args.disk.now)
    (live_of c.give.new.self c.give.new.port c.give.new.disk) (items_of_run c.in-Ok.run')
    (run_items c.run_of_last.result) (ticks_in-run c.run_of_last.result ∙ c.run_of_last.ensures)
    c.in-Ok.ensures.answer g.met.D.SlotDisk.only_now c.requires
    c.in-Ok-give.ensures _ c.in-Err-take_run.stop c.in-Err-take_run.ensures
