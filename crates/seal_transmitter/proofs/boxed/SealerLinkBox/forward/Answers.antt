use Rattle.link_box.proofs.Answered.{run-bytes, run-silence}
use Rattle.{seal_transmitter.proofs.Keeping.takes-run, std.proofs.Common.ap}
use Rattle.yasir_ticks.specs.TickRun.{run_ticks}
use Rattle.seal_transmitter.proofs.boxed.SealerLinkBox.forward.Goals as goal

pub returns-in-Bytes-clause-run : goal.returns-in-Bytes-clause-run
returns-in-Bytes-clause-run g c =
    let same = run-bytes c.forward.result c.args.run c.in-Bytes.bytes.now
    (ap run_ticks c.in-Bytes.is) in
    takes-run g.R.LineRules g.M.Mac c.args.self.now c.forward.new.self _ _ _ _ same
    same c.forward.ensures.run

pub returns-in-Silence-clause-run : goal.returns-in-Silence-clause-run
returns-in-Silence-clause-run g c =
    let same = run-silence c.keep_silent.result c.args.run c.in-Silence.ticks c.keep_silent.ensures.within
    (ap run_ticks c.in-Silence.is) in
    takes-run g.R.LineRules g.M.Mac c.args.self.now c.keep_silent.new.self _ _ _ _ same
    same c.keep_silent.ensures.run
