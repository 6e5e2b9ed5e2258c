use Rattle.live_commands.proofs.Heard.{feed_ended, line_taken, line_ended}
use Rattle.{live_commands.specs.LiveLine.live_of, line_commands.specs.Lines.lent_lines, std.proofs.Common.◌∙◌}
use Rattle.{std.proofs.Common.ap, yasir_ticks.proofs.TickRuns.ticks_in-run}
use Rattle.yasir_ticks.specs.{Reader.items_of_content, TickRun.run_items, Ticks.ticks_in}
use Rattle.live_commands.proofs.live_box.LiveBox.take_line.Goals as goal

pub returns-in-Err : goal.returns-in-Err
returns-in-Err g c = feed_ended g.B.LinkBox g.B.LineBox.line_of g.P.Port g.D.SlotDisk
    c.args.lines.now c.feed.new.self (live_of c.args.self.now c.args.port.now c.args.disk.now)
    c.args.bytes.now c.in-Err.end g.met.D.SlotDisk.only_now c.requires.ready c.in-Err.ensures.of_text
    c.in-Err.ensures.answer

pub returns-in-Ok-give : goal.returns-in-Ok-give
returns-in-Ok-give g c = line_taken g.B.LinkBox g.B.LineBox.line_of g.P.Port g.D.SlotDisk
    c.args.lines.now c.feed.new.self (live_of c.args.self.now c.args.port.now c.args.disk.now)
    (live_of c.give.new.self c.give.new.port c.give.new.disk) c.args.bytes.now
    c.in-Ok.found.taken (items_of_content c.in-Ok.found.content (lent_lines c.feed.new.self))
    (run_items c.run_of-run.result) (ticks_in-run c.run_of-run.result ∙ (c.run_of-run.ensures
    ∙ ap (λ l. ticks_in (items_of_content c.in-Ok.found.content l)) c.line_bytes.ensures.bytes))
    c.in-Ok.ensures.answer g.met.D.SlotDisk.only_now c.requires.ready c.in-Ok.ensures.progress
    c.in-Ok.ensures.within c.in-Ok-give.ensures

pub returns-in-Err-give : goal.returns-in-Err-give
returns-in-Err-give g c = line_ended g.B.LinkBox g.B.LineBox.line_of g.P.Port g.D.SlotDisk
    c.args.lines.now c.feed.new.self (live_of c.args.self.now c.args.port.now c.args.disk.now)
    (live_of c.give.new.self c.give.new.port c.give.new.disk) c.args.bytes.now
    c.in-Ok.found.taken (items_of_content c.in-Ok.found.content (lent_lines c.feed.new.self))
    (run_items c.run_of-run.result) (ticks_in-run c.run_of-run.result ∙ (c.run_of-run.ensures
    ∙ ap (λ l. ticks_in (items_of_content c.in-Ok.found.content l)) c.line_bytes.ensures.bytes))
    c.in-Ok.ensures.answer g.met.D.SlotDisk.only_now c.requires.ready c.in-Err-give.end c.in-Err-give.ensures
