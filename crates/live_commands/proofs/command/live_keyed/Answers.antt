use Rattle.sequence_journal.specs.Journal.{journal_floor}
use Rattle.std.proofs.Common.{◌∙◌, sym, ap, arith}
use Rattle.line_commands.proofs.Floors.{disk_cause_of_end}
use Rattle.live_commands.specs.LiveLine.{live_of}
use Rattle.live_commands.proofs.LiveRuns.{runs_line, throughout, port_causes}
use Rattle.live_commands.proofs.command.live_keyed.Goals as goal

pub drive-requires-clause-ready : goal.drive-requires-clause-ready
drive-requires-clause-ready g c = let made = c.new-live_box.ensures in record {
  counted = made.taken ∙ sym made.none;
  few = omega (arith, made.none);
  able = made.may _ c.in-Ok.ensures.fits;
}

pub returns-clause-runs : goal.returns-clause-runs
returns-clause-runs g c = rw c.status_of.ensures (runs_line g.B.LinkBox g.B.LineBox.line_of g.P.Port g.D.SlotDisk
    c.args.of.now.link c.args.key.now c.args.of.now.dir c.args.of.now.rest c.in-Ok.journal
    c.args.disk.now (live_of c.new-live_box.result c.args.port.now c.load.new.disk)
    (live_of c.drive.new.self c.drive.new.port c.drive.new.disk) g.met.B.LineBox.causal
    g.met.B.LineBox.rising c.in-Ok.ensures.loaded c.in-Ok.ensures.crash_safe c.in-Ok.ensures.fits
    c.new-live_box.ensures.journal c.new-live_box.ensures.none c.args.of.now.ahead
    c.new-live_box.ensures.most c.new-live_box.ensures.filters
    c.drive.result c.drive.ensures)

pub returns-clause-any_moment : goal.returns-clause-any_moment
returns-clause-any_moment g c = throughout g.B.LinkBox g.B.LineBox.line_of g.P.Port g.D.SlotDisk
    c.args.of.now.link c.args.key.now c.args.of.now.dir c.args.of.now.rest c.in-Ok.journal
    c.args.disk.now (live_of c.new-live_box.result c.args.port.now c.load.new.disk)
    (live_of c.drive.new.self c.drive.new.port c.drive.new.disk) g.met.B.LineBox.causal
    g.met.B.LineBox.rising c.in-Ok.ensures.loaded c.in-Ok.ensures.crash_safe c.in-Ok.ensures.fits
    c.new-live_box.ensures.journal c.new-live_box.ensures.none c.args.of.now.ahead
    c.new-live_box.ensures.most c.new-live_box.ensures.filters
    c.drive.result c.drive.ensures c.in-Ok.ensures.crash

pub returns-clause-disk : goal.returns-clause-disk
returns-clause-disk g c = rw c.status_of.ensures (rw (← c.in-Ok.ensures.same)
    (disk_cause_of_end _ _ c.drive.result c.drive.ensures.heard.goes.disk))

pub returns-clause-port : goal.returns-clause-port
returns-clause-port g c = rw c.status_of.ensures (port_causes g.P.Port g.D.SlotDisk
    (live_of c.new-live_box.result c.args.port.now c.load.new.disk)
    (live_of c.drive.new.self c.drive.new.port c.drive.new.disk) c.drive.result
    c.drive.ensures.heard.goes)

pub drive-requires-clause-clear : goal.drive-requires-clause-clear
drive-requires-clause-clear g c = c.new-live_box.ensures.clear _ c.in-Ok.ensures.fits

pub drive-requires-clause-level : goal.drive-requires-clause-level
drive-requires-clause-level g c = let made = c.new-live_box.ensures in
    omega (arith, ap journal_floor made.journal, made.settled)
