use Rattle.std.proofs.Common.{refl, sym}
use Rattle.sequence_journal.proofs.FloorLaws.{safe_where_synced}
use Rattle.sequence_journal.proofs.SlotLemmas.{at_some, floor_is_set, floor_may_be_set}
use Rattle.sequence_journal.proofs.journal.Journal.commit.Goals as goal

pub returns-in_default-clause-failed : goal.returns-in_default-clause-failed
returns-in_default-clause-failed g c = record {
  link = refl;
  broken = refl;
  floor = refl;
  kept = refl;
  slots = rw (sym c.other-slot.ensures, sym c.slot_of.ensures) c.in_default.ensures.may_set;
  floor_told = floor_may_be_set _ _ _ _ _ _ c.args.n _ c.other-slot.ensures c.slot_of.ensures
      c.in_default.ensures.may_set
      c.requires.fits.floor c.requires.fits.kept c.requires.rises c.requires.within;
}

pub returns-clause-fits : goal.returns-clause-fits
returns-clause-fits g c =
    let set = floor_is_set _ _ _ _ _ _ c.args.n _ c.other-slot.ensures c.slot_of.ensures
    c.in-Ok.ensures.set
    c.requires.fits.floor c.requires.fits.kept c.requires.rises c.requires.within in
    record {
      whole = c.requires.fits.whole;
      floor = set.0;
      kept = set.1;
    }

pub returns-clause-crash_safe : goal.returns-clause-crash_safe
returns-clause-crash_safe g c safe =
    safe_where_synced _ _ _ (returns-clause-fits g c) c.in-Ok.ensures.synced

pub returns-clause-image : goal.returns-clause-image
returns-clause-image g c image may =
    at_some _ _ image (c.in-Ok.ensures.synced image may)
    (floor_is_set _ _ _ _ _ _ c.args.n _ c.other-slot.ensures c.slot_of.ensures c.in-Ok.ensures.set
    c.requires.fits.floor c.requires.fits.kept c.requires.rises c.requires.within).0
