use Rattle.check_receiver.{proofs.Uptimes.commits-answered, specs.Checkings.numbers_passed_in}
use Rattle.sequence_journal.proofs.StepLaws.{is-step, goes-on}
use Rattle.check_receiver.proofs.laws.steps_are_of_an_uptime.Goals as goal

pub returns-clause-is_step : goal.returns-clause-is_step
returns-clause-is_step g c = λ old new before after result keeps safe.
    is-step g.D.SlotDisk old new before after (λ step. numbers_passed_in step.note) result
    (commits-answered g.D.SlotDisk old new before after result keeps) (keeps.any_moment safe)

pub returns-clause-goes_on : goal.returns-clause-goes_on
returns-clause-goes_on g c = λ old new before after result keeps.
    goes-on g.D.SlotDisk old new before after (λ step. numbers_passed_in step.note) result
    (commits-answered g.D.SlotDisk old new before after result keeps) keeps.failed
