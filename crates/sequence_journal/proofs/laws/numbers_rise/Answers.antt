use Rattle.sequence_journal.proofs.UptimeLaws.{uptimes-rise}
use Rattle.sequence_journal.proofs.laws.numbers_rise.Goals as goal

pub returns : goal.returns
returns c = uptimes-rise
