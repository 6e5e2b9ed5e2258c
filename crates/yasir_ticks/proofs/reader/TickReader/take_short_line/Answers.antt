use Rattle.std.proofs.Common.{refl, arith}
use Rattle.yasir_ticks.proofs.WholeLines.{takes_few}
use Rattle.yasir_ticks.proofs.reader.TickReader.take_short_line.Goals as goal

pub returns-clause-whole : goal.returns-clause-whole
returns-clause-whole c = takes_few _ _ _ _ _ c.requires.place c.requires.place refl refl refl
    c.in_ok-line.ensures (omega (arith, c.len-len.ensures))
