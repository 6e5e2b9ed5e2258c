-- The journals of both ways of a live line as they are loaded from their disks.
use Rattle.std.specs.Prelude.{◌≡◌, Some}
use Rattle.yasir_io.specs.Causes.{Rose}
use Rattle.yasir_io.specs.Disks.{Slots, NoMore, OneImage}
use Rattle.yasir_io.specs.declared.disk.SlotDisk.{Ghosts as SlotDisk}
use Rattle.sequence_journal.specs.Journal.{Fits, IsCrashSafe}
use Rattle.sequence_journal.specs.Loading.{MayTakeOver, FindsNone, FindsOther, MayLeaveLoading}
use Rattle.sequence_journal.specs.Loading.{IsLoaded}
use Rattle.sequence_journal.specs.declared.journal.Journal.{Journal}
use Rattle.sequence_journal.specs.declared.link.LinkId.{LinkId}
use Rattle.command_ends.specs.declared.status.Status.{Status}
use Rattle.command_ends.specs.declared.status.Status.TheVariants.{JournalFault, BadJournal}
use Rattle.command_ends.specs.declared.status.Status.TheVariants.{WrongLink}
use Rattle.live_line.specs.declared.ways.Way.{Way}
use Rattle.live_line.specs.declared.ways.Way.TheVariants.{Outgoing, Incoming}
use Rattle.live_ways.specs.BothDisks.{disk_on}
use Rattle.live_ways.specs.declared.both_disks.BothDisks.{BothDisks}
use Rattle.live_ways.specs.declared.line_status.Ended.{Ended}
use Rattle.live_ways.specs.declared.loads.BothJournals.{BothJournals}

-- the journal of a way
abbrev pub journal_on : BothJournals → Way → Journal
journal_on journals Outgoing = journals.sent
journal_on journals Incoming = journals.got

module _ {D : Type 0} (d : SlotDisk D) where
  -- Holds if nothing was done to a disk but reads.
  pub record IsAsItWas (old new : D) : Type 0 where
    pub told : d.told new ≡ d.told old
    pub images : NoMore (d.may_leave old) (d.may_leave new)
    pub images_back : NoMore (d.may_leave new) (d.may_leave old)
    pub faults : d.faults new ≡ d.faults old

  -- Holds if a journal was loaded for a link, and no call failed.
  pub record LoadsJournal (link : LinkId) (old new : D) (journal : Journal) : Type 0 where
    pub fits : Fits journal (d.told new)
    pub loaded : IsLoaded link (d.told old) (d.told new) (d.may_leave old) (d.may_leave new) journal
    pub safe : OneImage (d.told old) (d.may_leave old)
        → IsCrashSafe journal (d.told new) (d.may_leave new)
    pub faults : d.faults new ≡ d.faults old

  -- Holds if a call failed. A journal with only old slots may have been taken over, in part or
  -- whole.
  pub record FailsToLoad (link : LinkId) (old new : D) : Type 0 where
    pub rose : Rose (d.faults old) (d.faults new)
    pub told : MayTakeOver link (d.told old) (d.told new)
    pub images : (c : Slots) → d.may_leave new c → MayLeaveLoading (d.told old) (d.may_leave old) c

  -- what each status says of a journal that wasn't loaded
  abbrev pub RefusesJournal : LinkId → D → D → Status → Type 0
  RefusesJournal link old new JournalFault = FailsToLoad link old new
  RefusesJournal link old new (BadJournal a b) = IsAsItWas old new × FindsNone (d.told old) a b
  RefusesJournal link old new (WrongLink slot) =
      IsAsItWas old new × FindsOther link (d.told old) slot
  RefusesJournal link old new status = ⊥

  module _ (link : Way → LinkId) (old new : BothDisks D) where
    -- Both journals were loaded.
    abbrev pub LoadsBoth : BothJournals → Type 0
    LoadsBoth journals = (way : Way) → LoadsJournal (link way) (disk_on old way) (disk_on new way)
        (journal_on journals way)

    -- Holds if the journal of a way wasn't loaded. That of the outgoing way is loaded first.
    pub record StopsLoading (ended : Ended) : Type 0 where
      pub way : Way
      pub is : ended.way ≡ Some way
      pub refuses : RefusesJournal (link way) (disk_on old way) (disk_on new way) ended.status
      pub sent : way ≡ Incoming
          → (journal : Journal) × LoadsJournal (link Outgoing) old.first new.first journal
      pub got : way ≡ Outgoing → new.second ≡ old.second
