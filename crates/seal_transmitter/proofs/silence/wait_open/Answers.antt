use Rattle.std.proofs.Common.{arith}
use Rattle.seal_transmitter.proofs.OpenSilence.{rest-open, wait-open}
use Rattle.seal_transmitter.proofs.silence.wait_open.Goals as goal

pub returns-then-quiet-ge-T3_5_TICKS-clause-open :
    goal.returns-then-quiet-ge-T3_5_TICKS-clause-open
returns-then-quiet-ge-T3_5_TICKS-clause-open g c = λ line old.
    let is = c.quiet-quiet.ensures line old in
    let same = old.quiet_is in
    rest-open g.R.LineRules c.args.ticks c.args.cut.now line old (omega arith)

pub returns-clause-open : goal.returns-clause-open
returns-clause-open g c = λ line old.
    let is = c.quiet-quiet.ensures line old in
    let same = old.quiet_is in
    wait-open g.R.LineRules c.min-count.result c.args.cut.now line old (omega arith)
