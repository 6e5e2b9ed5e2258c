use Rattle.std.proofs.Common.{[]}
use Rattle.tick_drive.proofs.Stopping.{stops-for-memory}
use Rattle.session_lists.specs.Listing.{listing}
use Rattle.session_lists.proofs.listing.list_ticks.Goals as goal

pub returns-in-Whole-clause-lists : goal.returns-in-Whole-clause-lists
returns-in-Whole-clause-lists g c =
    let driven = c.in-Whole.ensures.driven in
    record {
      items = driven.items;
      takes = driven.takes;
      holds = driven.gives.moved tt [] c.new-lists.ensures.holds;
    }

pub returns-in_default-clause-lists : goal.returns-in_default-clause-lists
returns-in_default-clause-lists g c =
    let driven = c.drive.ensures.driven in
    record {
      items = driven.items;
      takes = driven.takes;
      other = c.in_default.not-Whole;
      memory = stops-for-memory listing (λ lists stop origin items none. none) _ 0 _ _ _ _ tt
          c.new-lists.ensures.holds _ driven;
    }
