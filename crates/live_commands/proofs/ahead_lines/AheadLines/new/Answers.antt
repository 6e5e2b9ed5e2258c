use Rattle.sequence_journal.specs.Journal.{journal_floor}
use Rattle.std.proofs.Common.{◌∙◌, ap, sym, arith}
use Rattle.live_commands.proofs.ahead_lines.AheadLines.new.Goals as goal

pub returns-clause-may : goal.returns-clause-may
returns-clause-may g c = λ told fits.
    let drives = c.new.ensures.may _ c.in_memory-memory.ensures.fits in
    let memory = ap journal_floor c.new.ensures.disk ∙ c.in_memory-memory.ensures.floor in
    let floor = ap journal_floor c.new-2.ensures.journal in
    record {
      ready = drives.ready;
      room = drives.room;
      fits = drives.fits;
      ahead = record {
        level = c.new-2.ensures.number ∙ sym memory;
        covers = omega (arith, memory, floor);
        within = omega (arith, memory, floor);
      };
      stands = c.new-2.ensures.stands told fits;
    }
