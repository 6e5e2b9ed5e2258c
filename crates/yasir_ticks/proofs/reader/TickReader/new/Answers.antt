use Rattle.std.proofs.Common.{[]}
use Rattle.yasir_ticks.proofs.{Completions.begins_at, Feeding.at_first}
use Rattle.yasir_ticks.proofs.reader.TickReader.new.Goals as goal

pub returns-clause-stands : goal.returns-clause-stands
returns-clause-stands c = record { at = at_first _ _ }

pub returns-clause-begins : goal.returns-clause-begins
returns-clause-begins c = begins_at (at_first [] _)
