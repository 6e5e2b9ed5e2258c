use Rattle.{yasir_ticks.specs.DelayRing.marked_ticks, trial_session.proofs.Behind.more-behind}
use Rattle.trial_session.proofs.link.Link.add_silence.Goals as goal

pub returns-clause-sent : goal.returns-clause-sent
returns-clause-sent c =
    let link = c.args.self.now in
    more-behind link.marked link.len (marked_ticks link.bytes link.marks) c.args.ticks
    link.marked_within
