use Rattle.std.proofs.Common.{length}
use Rattle.capture_text.proofs.decimal.+fraction_from.Given as goal

abbrev pub decreases-fraction_from : goal.decreases-fraction_from
decreases-fraction_from l = length l.digits.now
