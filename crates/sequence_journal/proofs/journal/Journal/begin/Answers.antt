use Rattle.{sequence_journal.proofs.SlotLemmas.floor_begins, std.proofs.Common.refl}
use Rattle.sequence_journal.proofs.journal.Journal.begin.Goals as goal

pub returns-clause-fits : goal.returns-clause-fits
returns-clause-fits g c =
    let stands = floor_begins c.args.link.now c.args.n _ _ _ c.requires.within c.slot_of.ensures
    c.in_ok-write_and_sync.ensures.set c.requires.free in
    record {
      whole = refl;
      floor = stands.0;
      kept = stands.1;
    }
