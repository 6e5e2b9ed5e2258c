use Rattle.{std.proofs.Common.refl, yasir_ticks.proofs.WholeLines.takes_number}
use Rattle.yasir_ticks.proofs.reader.TickReader.take_silence_line.Goals as goal

pub returns-clause-whole : goal.returns-clause-whole
returns-clause-whole c =
    let spelled = c.in_ok-digits.ensures in
    record {
      within = spelled.within;
      ends = spelled.ends;
      takes = takes_number _ _ _ _ c.requires.place c.requires.place refl refl spelled.plain
          spelled.number_is spelled.some spelled.fits;
    }
