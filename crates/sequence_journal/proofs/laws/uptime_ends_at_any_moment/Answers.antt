use Rattle.std.proofs.Common.{inl, le_refl}
use Rattle.sequence_journal.proofs.UptimeLaws.{ends-inside, ends-loading}
use Rattle.sequence_journal.proofs.laws.uptime_ends_at_any_moment.Goals as goal

pub returns-clause-inside : goal.returns-clause-inside
returns-clause-inside g c = ends-inside g.D.SlotDisk

pub returns-clause-between : goal.returns-clause-between
returns-clause-between g c link floor disk floors = record {
  rise = tt;
  any_moment = record {
    later = le_refl _;
    each = λ image left. floors image (g.met.D.SlotDisk.only_now disk image left);
    before = λ t image le left. inl left;
  };
}

pub returns-clause-loading : goal.returns-clause-loading
returns-clause-loading g c = ends-loading
