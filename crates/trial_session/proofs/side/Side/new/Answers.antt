use Rattle.sequence_journal.proofs.LoadLemmas.{blank_holds_none}
use Rattle.sequence_journal.specs.{Journal.journal_floor, Slots.greatest}
use Rattle.std.proofs.Common.{◌∙◌, [], ap, replicate, subst, sym}
use Rattle.trial_session.proofs.{Counting.counts-nothing, Starting.is-made, Starting.floor-of}
use Rattle.trial_session.proofs.side.Side.new.Goals as goal

pub unwrap-journal-requires : goal.unwrap-journal-requires
unwrap-journal-requires g c =
    is-made _ _ _ c.init.result (ap greatest c.new-disk.ensures ∙ blank_holds_none)
    c.init.ensures.refused

pub returns-clause-counts : goal.returns-clause-counts
returns-clause-counts g c =
    let none = counts-nothing g.X.LinkBox.walking g.X.CountingBox.fate_of g.X.CountingBox.counting
    g.met.X.CountingBox.counts in
    record {
      stands = subst (λ n. g.X.LinkBox.stands c.new.result
          (journal_floor c.unwrap-journal.result)
          (record { key = replicate 16 0; direction = 0; floor = n }) [])
          (floor-of c.init.result c.unwrap-journal.result c.unwrap-journal.ensures
          c.init.ensures.floor)
          (c.new.ensures.stands (journal_floor c.unwrap-journal.result));
      through_is = sym none.none_through;
      refused_is = sym none.none_refused;
      dropped_is = sym none.none_dropped;
    }

pub returns-clause-nothing : goal.returns-clause-nothing
returns-clause-nothing g c = counts-nothing g.X.LinkBox.walking g.X.CountingBox.fate_of
    g.X.CountingBox.counting g.met.X.CountingBox.counts
