use Rattle.link_box.proofs.Answered.{run-bytes, run-silence}
use Rattle.{seal_transmitter.proofs.Keeping.takes-run, std.proofs.Common.ap, std.proofs.Common.refl}
use Rattle.yasir_ticks.specs.TickRun.{run_ticks}
use Rattle.seal_transmitter.proofs.boxed.SealerLinkBox.pass.Goals as goal

pub returns-in-Bytes-clause-run : goal.returns-in-Bytes-clause-run
returns-in-Bytes-clause-run g c =
    let same = run-bytes c.pass_bytes.result c.args.run c.in-Bytes.bytes.now
    (ap run_ticks c.in-Bytes.is) in
    takes-run g.R.LineRules g.M.Mac c.args.self.now c.pass_bytes.new.self _ _ _ _ same
    refl c.pass_bytes.ensures.run

pub returns-in-Silence-clause-run : goal.returns-in-Silence-clause-run
returns-in-Silence-clause-run g c =
    let same = run-silence c.pass_silence.result c.args.run c.in-Silence.ticks
    c.pass_silence.ensures.within
    (ap run_ticks c.in-Silence.is) in
    takes-run g.R.LineRules g.M.Mac c.args.self.now c.pass_silence.new.self _ _ _ _ same
    refl c.pass_silence.ensures.run
