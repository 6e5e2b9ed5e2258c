use Rattle.receiver_laws.proofs.Stated.{stated_reads_what_passed}
use Rattle.receiver_laws.proofs.laws.device_reads_what_passed.Goals as goal

pub returns : goal.returns
returns c = stated_reads_what_passed
