use Rattle.line_commands.specs.Lines.{lent_lines}
use Rattle.live_ways.proofs.ByteTaken.{byte_taken, byte_stopped, byte_held, byte_refused}
use Rattle.std.proofs.Common.{◌∙◌, refl, ap, arith, length}
use Rattle.yasir_ticks.proofs.TickRuns.{ticks_in-run}
use Rattle.yasir_ticks.specs.Reader.{items_of_content}
use Rattle.yasir_ticks.specs.TickRun.{run_items}
use Rattle.yasir_ticks.specs.Ticks.{ticks_in}
use Rattle.live_ways.proofs.way_reader.WayReader.take_byte.Goals as goal

pub returns-in-Err : goal.returns-in-Err
returns-in-Err g c = byte_refused g.X.WayBox g.P.Port g.D.SlotDisk c.args.way c.args.self.now
    (record c.args.self.now { reader = c.feed.new.self }) c.args.port.now c.args.disk.now c.args.byte
    c.in-Err.end c.of.result refl refl c.of.ensures c.in-Err.ensures.answer

pub returns-then-sum-gt-MAX_LIVE_TICKS : goal.returns-then-sum-gt-MAX_LIVE_TICKS
returns-then-sum-gt-MAX_LIVE_TICKS g c = byte_held g.X.WayBox g.P.Port g.D.SlotDisk c.args.way
    c.args.self.now (record c.args.self.now { reader = c.feed.new.self }) c.args.port.now
    c.args.port.now c.args.disk.now c.args.disk.now c.args.byte c.in-Ok.found.taken
    (items_of_content c.in-Ok.found.content (lent_lines c.feed.new.self))
    (run_items c.run_of-run.result)
    (ticks_in-run c.run_of-run.result ∙ (c.run_of-run.ensures
    ∙ ap (λ l. ticks_in (items_of_content c.in-Ok.found.content l)) c.line_bytes.ensures.bytes))
    c.in-Ok.ensures.answer _ refl refl refl refl
    (omega (arith, c.len.ensures, ap length (ticks_in-run c.run_of-run.result)))
    c.if-sum-gt-MAX_LIVE_TICKS.true

pub take_run-requires : goal.take_run-requires
take_run-requires g c = record {
  room = omega (
    arith,
    c.requires.counted,
    c.if-sum-gt-MAX_LIVE_TICKS.false,
    c.len.ensures,
    ap length (ticks_in-run c.run_of-run.result),
  );
  able = c.requires.able;
}

pub returns-in-Err-take_run : goal.returns-in-Err-take_run
returns-in-Err-take_run g c = byte_stopped g.X.WayBox g.P.Port g.D.SlotDisk c.args.way
    c.args.self.now _ c.args.port.now c.take_run.new.port c.args.disk.now c.take_run.new.disk
    c.args.byte c.in-Ok.found.taken
    (items_of_content c.in-Ok.found.content (lent_lines c.feed.new.self))
    (run_items c.run_of-run.result)
    (ticks_in-run c.run_of-run.result ∙ (c.run_of-run.ensures
    ∙ ap (λ l. ticks_in (items_of_content c.in-Ok.found.content l)) c.line_bytes.ensures.bytes))
    c.in-Ok.ensures.answer c.in-Err-take_run.stop c.in-Err-take_run.ensures

pub returns : goal.returns
returns g c = byte_taken g.X.WayBox g.P.Port g.D.SlotDisk c.args.way
    c.args.self.now _ c.args.port.now c.take_run.new.port c.args.disk.now c.take_run.new.disk
    c.args.byte c.in-Ok.found.taken
    (items_of_content c.in-Ok.found.content (lent_lines c.feed.new.self))
    (run_items c.run_of-run.result)
    (ticks_in-run c.run_of-run.result ∙ (c.run_of-run.ensures
    ∙ ap (λ l. ticks_in (items_of_content c.in-Ok.found.content l)) c.line_bytes.ensures.bytes))
    c.in-Ok.ensures.answer c.requires c.in-Ok-take_run.ensures
    (omega (arith, c.len.ensures, ap length (ticks_in-run c.run_of-run.result)))
    (omega (arith, c.if-sum-gt-MAX_LIVE_TICKS.false))
