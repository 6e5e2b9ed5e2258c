use Rattle.sequence_journal.proofs.FloorLaws.{safe_where_synced}
use Rattle.sequence_journal.proofs.LateLemmas.{floor_stays, floor_still}
use Rattle.sequence_journal.proofs.journal.Journal.fill.Goals as goal

pub returns-in_default-clause-failed : goal.returns-in_default-clause-failed
returns-in_default-clause-failed g c =
    floor_still _ _ _ _ _ _ c.args.n _ c.other-other.ensures c.slot_of.ensures
    c.in_default.ensures.may_set c.requires.fits.floor c.requires.holds c.requires.below
    c.requires.within

pub returns-clause-fits : goal.returns-clause-fits
returns-clause-fits g c =
    let stays = floor_stays _ _ _ _ _ _ c.args.n _ c.other-other.ensures c.slot_of.ensures
    c.in-Ok.ensures.set
    c.requires.fits.floor c.requires.holds c.requires.below c.requires.within in
    record {
      whole = c.requires.fits.whole;
      floor = stays.0;
      kept = stays.1;
    }

pub returns-clause-crash_safe : goal.returns-clause-crash_safe
returns-clause-crash_safe g c safe =
    safe_where_synced _ _ _ (returns-clause-fits g c) c.in-Ok.ensures.synced
