use Rattle.link_replay.proofs.Trials.{counts-tell}
use Rattle.link_replay.proofs.commands.trial.try_link.Goals as goal

pub returns-clause-tries : goal.returns-clause-tries
returns-clause-tries g c = record {
  line = rw (c.as_slice.ensures.value, c.line_of_session-line.ensures) at
      c.print_alone.ensures.prints;
  tells = counts-tell c.args.proto c.args.profile c.args.seed c.args.count c.ranges.count.fits;
}
