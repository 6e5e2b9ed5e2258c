-- What a step of both directions does.
use Rattle.std.specs.Prelude.{◌≡◌, ◌+◌, List, length, Option, Result, Ok, Err}
use Rattle.link_format.specs.declared.dir.Dir.{Dir}
use Rattle.yasir_ticks.specs.declared.tick.Tick.{Tick}
use Rattle.yasir_io.specs.declared.disk.SlotDisk.{Ghosts as SlotDisk}
use Rattle.sequence_journal.specs.declared.journal.Journal.{Journal}
use Rattle.sequence_journal.specs.declared.journal.JournalFault.{JournalFault}
use Rattle.sequence_journal.specs.Journal.{journal_floor}
use Rattle.frame_ending.specs.declared.box_step.BoxStep.{BoxStep}
use Rattle.link_box.specs.declared.box_trait.LinkBox.{Ghosts as LinkBox}
use Rattle.link_box.specs.Stepping.{BoxSteps, FailsStep, KeepsJournal}
use Rattle.duplex_box.specs.declared.pair.BoxPair.{BoxPair}
use Rattle.duplex_box.specs.declared.pair.PairStep.{PairStep}
use Rattle.duplex_box.specs.declared.pair.DuplexFault.{DuplexFault}
use Rattle.duplex_box.specs.declared.pair.DuplexFault.TheVariants.{Outgoing, Incoming}

-- the outgoing direction of a pair, its box of that direction, and its box of the incoming one
abbrev pub outgoing_direction : {S C : Type 0} → BoxPair S C → Dir
outgoing_direction pair = pair.outgoing

abbrev pub outgoing_box : {S C : Type 0} → BoxPair S C → S
outgoing_box pair = pair.sender

abbrev pub incoming_box : {S C : Type 0} → BoxPair S C → C
incoming_box pair = pair.receiver

-- One direction of a line: its box, the journal of the box, and the journal's disk.
pub record OneWay (S X : Type 0) : Type 0 where
  pub line_box : S
  pub journal : Journal
  pub disk : X

-- Both directions of a line.
pub record BothWays (S C X Y : Type 0) : Type 0 where
  pub outgoing : OneWay S X
  pub incoming : OneWay C Y

-- both directions of a pair, with the journals and disks that it is handed
abbrev pub ways_of : {S C X Y : Type 0} → BoxPair S C → Journal → X → Journal → Y
    → BothWays S C X Y
ways_of pair sent sent_disk got got_disk = record {
  outgoing = record { line_box = outgoing_box pair; journal = sent; disk = sent_disk };
  incoming = record { line_box = incoming_box pair; journal = got; disk = got_disk };
}

module _ {S A X : Type 0} (boxed : LinkBox S A) (d : SlotDisk X) where
  -- Holds if, in one direction, the box has taken this tick and returned this tick of the other
  -- line and this note, and its journal and disk are as its step leaves them.
  pub record PairHasTaken (old new : OneWay S X) (t tick : Tick) (note : Option A) : Type 0 where
    pub counted : boxed.taken new.line_box ≡ boxed.taken old.line_box + 1
    pub link : boxed.link_of new.line_box ≡ boxed.link_of old.line_box
    pub steps : BoxSteps boxed.walking boxed.stands old.line_box (journal_floor old.journal)
        new.line_box (journal_floor new.journal) t tick note
    pub journal : KeepsJournal {A = BoxStep A} d old.journal new.journal old.disk new.disk
        (Ok (record { tick = tick; note = note }))

  -- Holds if, in one direction, the number of the frame that is noted in the step of this tick
  -- isn't committed, and the journal and its disk are as the failed step leaves them.
  pub record PairHasFailed (old new : OneWay S X) (t : Tick) : Type 0 where
    pub fault : JournalFault
    pub fails : FailsStep boxed.walking boxed.stands old.line_box old.journal new.journal t
        (d.told old.disk) (d.told new.disk)
    pub journal : KeepsJournal {A = BoxStep A} d old.journal new.journal old.disk new.disk
        (Err fault)

  -- Holds if, in one direction, the box has taken this tick, whatever it returned.
  pub record HasGoneOn (old new : OneWay S X) (t : Tick) : Type 0 where
    pub tick : Tick
    pub note : Option A
    pub taken : PairHasTaken old new t tick note

module _ {S C A B X Y : Type 0} (sends : LinkBox S A) (gets : LinkBox C B) (d : SlotDisk X)
    (e : SlotDisk Y) (from_device from_link : Tick) (old new : BothWays S C X Y) where
  -- What holds after a step that doesn't fail: each direction has taken its tick.
  pub record PairGoesOn (step : PairStep A B) : Type 0 where
    pub outgoing : PairHasTaken sends d old.outgoing new.outgoing from_device step.link step.sealed
    pub incoming : PairHasTaken gets e old.incoming new.incoming from_link step.device step.checked

  -- What holds after a fault of the outgoing direction: the incoming one hasn't begun its step, and
  -- its box, journal and disk are as they were.
  pub record FailsOutgoing : Type 0 where
    pub outgoing : PairHasFailed sends d old.outgoing new.outgoing from_device
    pub incoming : new.incoming ≡ old.incoming

  -- What holds after a fault of the incoming direction: the outgoing one has taken its tick.
  pub record FailsIncoming : Type 0 where
    pub outgoing : HasGoneOn sends d old.outgoing new.outgoing from_device
    pub incoming : PairHasFailed gets e old.incoming new.incoming from_link

  -- What holds after a step, by what it returns.
  abbrev pub StepsBoth : Result (PairStep A B) DuplexFault → Type 0
  StepsBoth (Ok step) = PairGoesOn step
  StepsBoth (Err Outgoing) = FailsOutgoing
  StepsBoth (Err Incoming) = FailsIncoming
