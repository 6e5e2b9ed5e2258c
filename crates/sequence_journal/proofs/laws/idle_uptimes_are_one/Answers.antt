use Rattle.sequence_journal.proofs.UptimeLaws.{idle-same, idle-joined}
use Rattle.sequence_journal.proofs.laws.idle_uptimes_are_one.Goals as goal

pub returns-clause-none : goal.returns-clause-none
returns-clause-none g link = idle-same link

pub returns-clause-joined : goal.returns-clause-joined
returns-clause-joined g link = idle-joined link
