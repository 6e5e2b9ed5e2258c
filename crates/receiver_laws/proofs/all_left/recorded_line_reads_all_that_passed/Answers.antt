use Rattle.receiver_laws.proofs.Stated.{stated_reads_all}
use Rattle.receiver_laws.proofs.all_left.recorded_line_reads_all_that_passed.Goals as goal

pub returns : goal.returns
returns c = stated_reads_all
