use Rattle.std.proofs.Common.{◌++◌, [], ap, sym, arith, length}
use Rattle.yasir_ticks.specs.Ticks.{silent}
use Rattle.trial_session.proofs.HeardRuns.{hearing-as, hears-none}
use Rattle.trial_session.proofs.listening.Listening.hear_silence.Goals as goal

pub returns-clause-taken : goal.returns-clause-taken
returns-clause-taken g c = omega (
  arith,
  c.wait.ensures.taken,
  c.settle.ensures.taken,
  ap length c.settle.ensures.none,
)

pub returns-clause-heard : goal.returns-clause-heard
returns-clause-heard g c = λ line so.
    let end = line ++ silent c.args.ticks in
    hearing-as g.V.Device c.wait.new.self [] c.settle.new.waiting.items end
    (sym c.settle.ensures.none)
    (hears-none g.V.Device c.wait.new.self end
    (c.wait.ensures.heard line (c.settle.ensures.heard line so)))
