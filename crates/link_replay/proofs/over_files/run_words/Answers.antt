use Rattle.link_replay.{proofs.Asking.asks-one, specs.Words.Asks}
use Rattle.std.proofs.Common.{subst}
use Rattle.link_replay.proofs.over_files.run_words.Goals as goal

pub returns-clause-runs : goal.returns-clause-runs
returns-clause-runs g c = λ asked asks. record {
  key_before = c.in_ok-key.key;
  key_after = c.run.new.key;
  disks_before = c.in_ok-disks.disks;
  disks_after = c.run.new.disks;
  key = c.in_ok-key.ensures asked asks;
  journals = c.in_ok-disks.ensures asked asks;
  usage = (
    λ is. asks-one _ asked _ asks (c.run.ensures.usage.0 is),
    λ none. c.run.ensures.usage.1 (subst (Asks _) none asks),
  );
  runs = c.run.ensures.runs asked asks;
  any_moment = c.run.ensures.any_moment asked asks;
  done = c.run.ensures.done asked asks;
  causes = c.run.ensures.causes asked asks;
}
