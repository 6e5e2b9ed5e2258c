use Rattle.link_format.specs.declared.dir.Dir.TheVariants.{Ab, Ba}
use Rattle.std.proofs.Common.{refl}
use Rattle.poll_session.proofs.session.PollSession.summary.Goals as goal

pub returns-clause-requests : goal.returns-clause-requests
returns-clause-requests g c = λ v w others deaf more_others more_deaf sent got.
    c.counts_of.ensures Ab Ba v w others deaf more_others more_deaf refl sent got

pub returns-clause-answers : goal.returns-clause-answers
returns-clause-answers g c = λ v w others deaf more_others more_deaf sent got.
    c.counts_of-2.ensures Ba Ab v w others deaf more_others more_deaf refl sent got
