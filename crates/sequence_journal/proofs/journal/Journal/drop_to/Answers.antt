use Rattle.std.proofs.Common.{◌≤◌, arith}
use Rattle.sequence_journal.specs.declared.numbers.TheConstants.{LIMIT}
use Rattle.sequence_journal.proofs.LateLemmas.{floor_drops, floor_may_drop, safe_by_other}
use Rattle.sequence_journal.proofs.journal.Journal.drop_to.Goals as goal

pub returns-in_default-clause-failed : goal.returns-in_default-clause-failed
returns-in_default-clause-failed g c =
    let within : c.args.n ≤ LIMIT = omega (arith, c.requires.below, c.args.self.now.within) in
    floor_may_drop _ _ _ _ _ c.args.n _ c.slot_of.ensures c.in_default.ensures.may_set
    c.requires.fits.floor c.requires.other c.requires.old_within within

pub returns-clause-fits : goal.returns-clause-fits
returns-clause-fits g c =
    let within : c.args.n ≤ LIMIT = omega (arith, c.requires.below, c.args.self.now.within) in
    let drops = floor_drops _ _ _ _ c.args.n _ c.slot_of.ensures c.in-Ok.ensures.set
    c.requires.other c.requires.old_within within in
    record {
      whole = c.requires.fits.whole;
      floor = drops.0;
      kept = drops.1;
    }

pub returns-in_default-clause-crash_safe : goal.returns-in_default-clause-crash_safe
returns-in_default-clause-crash_safe g c =
    rw c.fail.ensures
    (safe_by_other _ c.args.self.now.kept _ _ _ _ _ c.other-self.ensures
    c.in_default.ensures.may_set c.requires.synced c.in_default.ensures.beside c.requires.other)
