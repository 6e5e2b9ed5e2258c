use Rattle.sequence_journal.proofs.StepLaws.{is-step, goes-on}
use Rattle.seal_transmitter.specs.Answers.{numbers_sealed_in}
use Rattle.seal_transmitter.proofs.Uptimes.{commits-answered, fails-to-commit}
use Rattle.seal_transmitter.proofs.laws.steps_are_of_an_uptime.Goals as goal

pub returns-clause-is_step : goal.returns-clause-is_step
returns-clause-is_step g c = λ old new before after result keeps safe.
    is-step g.D.SlotDisk old new before after (λ step. numbers_sealed_in step.note) result
    (commits-answered g.D.SlotDisk old new before after result keeps) (keeps.any_moment safe)

pub returns-clause-goes_on : goal.returns-clause-goes_on
returns-clause-goes_on g c = λ old new before after result keeps.
    goes-on g.D.SlotDisk old new before after (λ step. numbers_sealed_in step.note) result
    (commits-answered g.D.SlotDisk old new before after result keeps)
    (fails-to-commit g.D.SlotDisk old new before after result keeps)
