-- What a run of a live line of two ways says if a journal wasn't loaded, or there was no memory
-- after
-- both were.
use Rattle.command_ends.specs.Causes.{DiskCause}
use Rattle.command_ends.specs.declared.status.Status.{Status}
use Rattle.command_ends.specs.declared.status.Status.TheVariants as status
use Rattle.line_commands.specs.Boxes.{Boxed}
use Rattle.line_commands.specs.ReplaysBox.{KeepsFloorThroughout, boxed_with}
use Rattle.line_commands.specs.declared.port.Port.{Ghosts as Port}
use Rattle.live_commands.specs.LineEnds.{LineEnds, ends_port}
use Rattle.live_line.specs.declared.ways.Way.{Way}
use Rattle.live_line.specs.declared.ways.Way.TheVariants.{Outgoing, Incoming}
use Rattle.live_ways.proofs.CommandCounts.{counts_same}
use Rattle.live_ways.specs.BothDisks.{disk_on, status_about}
use Rattle.live_ways.specs.WayCommand.{BothWays, Around, around, RunsLine, LoadsOn}
use Rattle.live_ways.specs.WayLoads.{LoadsBoth, LoadsJournal, RefusesJournal, StopsLoading}
use Rattle.live_ways.specs.WayStreams.{links_of, RunsWays, HasStreamCounts}
use Rattle.live_ways.specs.declared.both_disks.BothDisks.{BothDisks}
use Rattle.live_ways.specs.declared.line_status.Ended.{Ended}
use Rattle.live_ways.specs.declared.loads.BothJournals.{BothJournals}
use Rattle.live_ways.specs.declared.loads.LineLinks.{LineLinks}
use Rattle.sequence_journal.specs.Slots.{floor_of}
use Rattle.sequence_journal.specs.declared.journal.Journal.{Journal}
use Rattle.sequence_journal.specs.declared.link.LinkId.{LinkId}
use Rattle.std.proofs.Common.{◌≡◌, ◌∙◌, ℕ, ◌≤◌, Some, None, IsSomeAnd, refl, sym, ap, subst, inl}
use Rattle.std.proofs.Common.{inr, arith, List}
use Rattle.yasir_io.specs.Disks.{Slots}
use Rattle.yasir_io.specs.declared.disk.SlotDisk.{Ghosts as SlotDisk}
use Rattle.yasir_io.specs.declared.sink.Sink.{Ghosts as Sink}
use Rattle.yasir_io.specs.declared.source.Source.{Ghosts as Source}

-- A journal that isn't loaded is refused for no failed read or write of a stream.
pub refused_at_disk : {D : Type 0} (d : SlotDisk D) (link : LinkId) (old new : D) (at : Status)
    → RefusesJournal d link old new at
    → (at ≡ status.ReadFault → ⊥) × (at ≡ status.WriteFault → ⊥)
refused_at_disk d link old new status.JournalFault refuses = (λ e. cc, λ e. cc)
refused_at_disk d link old new (status.BadJournal a b) refuses = (λ e. cc, λ e. cc)
refused_at_disk d link old new (status.WrongLink slot) refuses = (λ e. cc, λ e. cc)
refused_at_disk d link old new at refuses = absurd refuses

refused_count : {D : Type 0} (d : SlotDisk D) (link : LinkId) (old new : D) (at : Status)
    → RefusesJournal d link old new at → DiskCause (d.faults old) (d.faults new) at
refused_count d link old new status.JournalFault refuses = refuses.rose
refused_count d link old new (status.BadJournal a b) refuses = refuses.0.faults
refused_count d link old new (status.WrongLink slot) refuses = refuses.0.faults
refused_count d link old new at refuses = absurd refuses

-- What holds at any moment of a disk that no call was made on.
pub moment_none : {D : Type 0} (d : SlotDisk D)
    → ((disk : D) (c : Slots) → d.left_since disk (d.moment disk) c → d.may_leave disk c)
    → (link : LinkId) (disk : D) → KeepsFloorThroughout d link disk disk
moment_none d only_now link disk one slots floor told is = record {
  later = omega arith;
  each = λ c left. inl (subst (λ found. IsSomeAnd found (λ f. floor ≤ f)) (sym (same c left))
      (omega arith));
  before = λ t c le left. inl left;
}
  where
    same : (c : Slots) → d.left_since disk (d.moment disk) c → floor_of link c ≡ Some floor
    same c left =
        let read : Some c ≡ Some slots = sym (one c (only_now disk c left)) ∙ told in
        let as_read : c ≡ slots = cc in
        ap (floor_of link) as_read ∙ is

-- what holds of each way's disk at any moment holds of both
pub moments_of : {D : Type 0} (d : SlotDisk D) (of : LineLinks) (old new : BothDisks D)
    → KeepsFloorThroughout d of.sent.link old.first new.first
    → KeepsFloorThroughout d of.got.link old.second new.second → (way : Way)
    → KeepsFloorThroughout d (links_of of way) (disk_on old way) (disk_on new way)
moments_of d of old new sent got Outgoing = sent
moments_of d of old new sent got Incoming = got

module _ {P D : Type 0} (p : Port P) (d : SlotDisk D) (link : Way → LinkId) (box : Way → ℕ → Boxed)
    (rest ahead : Way → ℕ) (port : P) (old new : BothDisks D) where
  abbrev before : Around P D
  before = around port old

  abbrev after : Around P D
  after = around port new

  loads_on : (way : Way) (journal : Journal)
      → LoadsJournal d (link way) (disk_on old way) (disk_on new way) journal
      → LoadsOn p d link box rest ahead before after way
  loads_on way journal loads = record { journal = journal; loaded = loads.loaded }

  stops_at : (way : Way) (at : Status)
      → RefusesJournal d (link way) (disk_on old way) (disk_on new way) at
      → (way ≡ Incoming → LoadsOn p d link box rest ahead before after Outgoing)
      → (way ≡ Outgoing → new.second ≡ old.second)
      → RunsLine p d link box rest ahead before after (Some way) at
  stops_at way status.JournalFault refuses sent got = inr (record {
    port = refl;
    refuses = record { told = refuses.told; images = refuses.images };
    sent = sent;
    got = got;
  })
  stops_at way (status.BadJournal a b) refuses sent got = record {
    port = refl;
    refuses = (
      record {
        told = refuses.0.told;
        images = refuses.0.images;
        images_back = refuses.0.images_back;
      },
      refuses.1,
    );
    sent = sent;
    got = got;
  }
  stops_at way (status.WrongLink slot) refuses sent got = record {
    port = refl;
    refuses = (
      record {
        told = refuses.0.told;
        images = refuses.0.images;
        images_back = refuses.0.images_back;
      },
      refuses.1,
    );
    sent = sent;
    got = got;
  }
  stops_at way at refuses sent got = absurd refuses

  module _ (ended : Ended) (stops : StopsLoading d link old new ended) where
    pub runs_stopped : RunsLine p d link box rest ahead before after ended.way ended.status
    runs_stopped = subst (λ of. RunsLine p d link box rest ahead before after of ended.status)
        (sym stops.is) (stops_at stops.way ended.status stops.refuses
        (λ is. let sent = stops.sent is in loads_on Outgoing sent.0 sent.1) stops.got)

    counted : (of way : Way)
        → RefusesJournal d (link of) (disk_on old of) (disk_on new of) ended.status
        → (of ≡ Incoming
        → (journal : Journal) × LoadsJournal d (link Outgoing) old.first new.first journal)
        → (of ≡ Outgoing → new.second ≡ old.second)
        → DiskCause (d.faults (disk_on old way)) (d.faults (disk_on new way))
        (status_about (Some of) ended.status way)
    counted Outgoing Outgoing refuses sent got =
        refused_count d (link Outgoing) old.first new.first ended.status refuses
    counted Outgoing Incoming refuses sent got = ap d.faults (got refl)
    counted Incoming Outgoing refuses sent got = (sent refl).1.faults
    counted Incoming Incoming refuses sent got =
        refused_count d (link Incoming) old.second new.second ended.status refuses

    pub disks_stopped : (way : Way) → DiskCause (d.faults (disk_on old way))
        (d.faults (disk_on new way)) (status_about ended.way ended.status way)
    disks_stopped way = subst (λ of. DiskCause (d.faults (disk_on old way))
        (d.faults (disk_on new way)) (status_about of ended.status way)) (sym stops.is)
        (counted stops.way way stops.refuses stops.sent stops.got)

  -- There was no memory for the frames that wait.
  pub runs_nowhere : (journals : BothJournals) → LoadsBoth d link old new journals
      → RunsLine p d link box rest ahead before after None status.NoMemory
  runs_nowhere journals loads = (refl, λ way. loads_on way _ (loads way))

module _ {S O L D : Type 0} (s : Source S) (o : Sink O) (l : Sink L) (d : SlotDisk D)
    (ways : BothWays) (key : List ℕ) (streams : LineEnds S O L) (old new : BothDisks D) where
  abbrev boxes : Way → ℕ → Boxed
  boxes way = boxed_with (ways.boxed way) key (ways.dir way)

  -- A journal wasn't loaded.
  module _ (ended : Ended) (stops : StopsLoading d ways.link old new ended) where
    pub ways_stopped : RunsWays s o l d ways key (around streams old) (around streams new) ended
    ways_stopped = runs_stopped (ends_port s o l) d ways.link boxes ways.rest ways.ahead streams
        old new ended stops

    pub counts_stopped : HasStreamCounts s o l streams streams ended.status
    counts_stopped =
        let none = refused_at_disk d (ways.link stops.way) (disk_on old stops.way)
        (disk_on new stops.way) ended.status stops.refuses in
        counts_same s o l streams streams ended.status none.0 none.1 refl

    pub counts_at_disks : (way : Way) → DiskCause (d.faults (disk_on old way))
        (d.faults (disk_on new way)) (status_about ended.way ended.status way)
    counts_at_disks = disks_stopped (ends_port s o l) d ways.link boxes ways.rest ways.ahead
        streams old new ended stops

  -- Both were loaded, and there was no memory.
  module _ (journals : BothJournals) (loads : LoadsBoth d ways.link old new journals)
      (ended : Ended) (status_is : ended.status ≡ status.NoMemory) (way_is : ended.way ≡ None) where
    pub ways_nowhere : RunsWays s o l d ways key (around streams old) (around streams new) ended
    ways_nowhere = rw (status_is, way_is) (runs_nowhere (ends_port s o l) d ways.link boxes
        ways.rest ways.ahead streams old new journals loads)

    pub counts_nowhere : HasStreamCounts s o l streams streams ended.status
    counts_nowhere = rw status_is
        (counts_same s o l streams streams status.NoMemory (λ e. cc) (λ e. cc) refl)

    pub disks_nowhere : (way : Way) → DiskCause (d.faults (disk_on old way))
        (d.faults (disk_on new way)) (status_about ended.way ended.status way)
    disks_nowhere way = rw (status_is, way_is) ((loads way).faults)
