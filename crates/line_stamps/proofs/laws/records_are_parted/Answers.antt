use Rattle.line_stamps.proofs.Clocks.{records-parted}
use Rattle.line_stamps.proofs.laws.records_are_parted.Goals as goal

pub returns : goal.returns
returns c = λ t cs by-record. records-parted t by-record cs
