use Rattle.sequence_journal.proofs.LoadLemmas.{refused_for_a_fault}
use Rattle.sequence_journal.proofs.laws.floor_is_refused_for_a_fault_alone.Goals as goal

pub returns : goal.returns
returns g link = refused_for_a_fault link
