-- What `duplex` and `two_wire` do follows from what their boxes make of both recordings. If all that
-- they are given is right and nothing outside fails, the status is `Done` or `NoMemory`.
use Rattle.link_format.specs.declared.dir.Dir.{Dir}
use Rattle.command_ends.specs.Causes.{ReadsCause, SinkCause, NoneRose}
use Rattle.command_ends.specs.{Outside.Outside, declared.status.Status.Status}
use Rattle.command_ends.specs.declared.status.Status.TheVariants.{Done, BadTicks, ReadFault}
use Rattle.command_ends.specs.declared.status.Status.TheVariants.{WriteFault, TooLong, NoMemory}
use Rattle.std.proofs.Common.{◌≡◌, ◌∙◌, ◌⊎◌, ℕ, List, Option, false, refl, sym, ap, subst, inr}
use Rattle.command_ends.specs.KeyText.{IsKeyMet, IsKeyText}
use Rattle.command_ends.specs.declared.status.Status.TheVariants.{BadKey}
use Rattle.session_audit.specs.Keyed.{ReadsKeyFirst}
use Rattle.tick_drive.specs.{Consumers.is_write_fault, Drive.drive_answer_of}
use Rattle.yasir_io.specs.declared.{disk.SlotDisk.Ghosts as SlotDisk, sink.Sink.Ghosts as Sink}
use Rattle.yasir_io.specs.declared.source.Source.{Ghosts as Source}
use Rattle.yasir_ticks.specs.declared.tick.Tick.{Tick}
use Rattle.tick_drive.specs.declared.consumer.Stop.TheVariants as stops
use Rattle.tick_drive.specs.declared.end.End.{End}
use Rattle.tick_drive.specs.declared.end.End.TheVariants.{Whole, Stopped}
use Rattle.line_commands.specs.Recording.{BothTexts, HoldsTexts, PrintsBoth, RecordsWhole}
use Rattle.line_commands.specs.{Recording.EndsOtherwise, declared.recording.Recorded.Recorded}
use Rattle.link_replay.proofs.KeyedRuns.{EndsAs, keyed_done}
use Rattle.link_replay.specs.BothLines.{RunsOverBoth}
use Rattle.link_replay.specs.DuplexCommand.{Duplexes, duplex_texts}
use Rattle.link_replay.specs.TwoWireCommand.{DrivesTwoWires, two_wire_texts}
use Rattle.two_wire.specs.declared.{gate.Side.Side, gate.Waits.Waits}
use Rattle.link_replay.specs.ReplayCommand.{IsListable}
use Rattle.command_ends.specs.declared.link.{Profile.Profile, Proto.Proto}
use Rattle.command_ends.specs.Endings.{status_of}

module _ {K S O L D : Type 0} (k : Source K) (s : Source S) (o : Sink O) (l : Sink L)
    (d : SlotDisk D) (proto : Proto) (profile : Profile) (dir : Dir)
    (before after : Outside K S O L D) where
  ends-as : (texts : List Tick → List Tick → BothTexts → Type 0) (status : Status)
      → RunsOverBoth texts (s.left before.input) (s.left after.input) (o.held before.out)
      (o.held after.out) (l.held before.log) (l.held after.log) status
      → EndsAs k s o l d before after 1 0 status
  ends-as texts Done h = tt
  ends-as texts NoMemory h = tt
  ends-as texts ReadFault h = tt
  ends-as texts WriteFault h = tt
  ends-as texts (BadTicks bad) h = (h.items, h.takes)
  ends-as texts (TooLong what count) h = (h.items, h.takes)
  ends-as texts status h = absurd h

  pub duplex_done : IsListable 1 (k.left before.key) (s.left before.input)
      → NoneRose (k.faults before.key) (k.faults after.key) (s.faults before.input)
      (s.faults after.input)
      (o.faults before.out) (o.faults after.out) (l.faults before.log) (l.faults after.log)
      (d.faults before.disk) (d.faults after.disk)
      → (status : Status) → Duplexes k s o l proto profile dir before after status
      → ReadsCause (k.faults before.key) (k.faults after.key) (s.faults before.input)
      (s.faults after.input) status
      → SinkCause (o.faults before.out) (o.faults after.out) (l.faults before.log)
      (l.faults after.log) status → (status ≡ Done) ⊎ (status ≡ NoMemory)
  duplex_done right calm status h reads sinks = keyed_done k s o l d before after 1 0 right calm _ _
      status (λ key. ends-as (duplex_texts proto profile dir key) status) h.texts reads sinks

  pub two_wire_done : (side : Side) (waits : Waits) → IsListable 1 (k.left before.key) (s.left before.input)
      → NoneRose (k.faults before.key) (k.faults after.key) (s.faults before.input)
      (s.faults after.input)
      (o.faults before.out) (o.faults after.out) (l.faults before.log) (l.faults after.log)
      (d.faults before.disk) (d.faults after.disk)
      → (status : Status) → DrivesTwoWires k s o l proto profile dir side waits before after status
      → ReadsCause (k.faults before.key) (k.faults after.key) (s.faults before.input)
      (s.faults after.input) status
      → SinkCause (o.faults before.out) (o.faults after.out) (l.faults before.log)
      (l.faults after.log) status → (status ≡ Done) ⊎ (status ≡ NoMemory)
  two_wire_done side waits right calm status h reads sinks = keyed_done k s o l d before after 1 0 right calm _ _
      status (λ key. ends-as (two_wire_texts proto profile dir side waits key) status) h.texts reads sinks

-- ---- the key was read before

-- A run with a right key, whose status isn't that of a refused one.
pub reads-right : {K : Type 0} (k : Source K) (before mid after : K) (runs : List ℕ → Status → Type 0)
    (Untouched : Type 0) (status : Status) (text key : List ℕ) → after ≡ mid
    → IsKeyMet (k.left before) (k.left mid) text → IsKeyText text key
    → k.faults mid ≡ k.faults before → ((place : ℕ) → runs key (BadKey place) → ⊥) → runs key status
    → ReadsKeyFirst k before after runs Untouched status
reads-right k before mid after runs Untouched (BadKey place) text key same met right calm never does =
    absurd (never place does)
reads-right k before mid after runs Untouched ReadFault text key same met right calm never does =
    inr (record {
      text = text;
      key = key;
      met = subst (λ x. IsKeyMet (k.left before) (k.left x) text) (sym same) met;
      right = right;
      calm = ap k.faults same ∙ calm;
      does = does;
    })
reads-right k before mid after runs Untouched status text key same met right calm never does =
    record {
      text = text;
      key = key;
      met = subst (λ x. IsKeyMet (k.left before) (k.left x) text) (sym same) met;
      right = right;
      calm = ap k.faults same ∙ calm;
      does = does;
    }

-- ---- what the boxes make of both recordings

module _ (texts : List Tick → List Tick → BothTexts → Type 0) (in_before in_now : Option (List ℕ))
    (out_before out_now log_before log_now : Option (List ℕ)) where
  -- If both recordings were taken whole and their texts were printed with this status, the status
  -- says so.
  pub prints-so : (recorded : Recorded) → RecordsWhole texts in_before in_now recorded
      → (status : Status)
      → ((held : BothTexts) → HoldsTexts recorded held
      → PrintsBoth held out_before out_now log_before log_now status)
      → RunsOverBoth texts in_before in_now out_before out_now log_before log_now status
  prints-so recorded whole Done prints = record {
    items = whole.items;
    whole = whole.whole;
    texts = whole.texts;
    are = whole.are;
    prints = prints _ whole.holds;
  }
  prints-so recorded whole WriteFault prints = record {
    items = whole.items;
    whole = whole.whole;
    texts = whole.texts;
    are = whole.are;
    prints = prints _ whole.holds;
  }
  prints-so recorded whole status prints = absurd (prints _ whole.holds)

  -- If the input ended in any other way and nothing was written, the status of that end says so.
  pub ends-so : (end : End) → EndsOtherwise texts in_before in_now end → out_now ≡ out_before
      → log_now ≡ log_before
      → RunsOverBoth texts in_before in_now out_before out_now log_before log_now (status_of end)
  ends-so Whole ended out log = absurd (ended.other refl)
  ends-so (Stopped stops.WriteFault) ended out log =
      let never : stops.WriteFault ≡ stops.NoMemory = ended.memory stops.WriteFault refl in cc
  ends-so (Stopped stops.JournalFault) ended out log =
      let never : stops.JournalFault ≡ stops.NoMemory = ended.memory stops.JournalFault refl in cc
  ends-so end ended out log =
      record { items = ended.items; takes = ended.takes; out = out; log = log }

  pub no-write : (end : End) → EndsOtherwise texts in_before in_now end
      → is_write_fault (drive_answer_of end) ≡ false
  no-write (Stopped stops.WriteFault) ended =
      let never : stops.WriteFault ≡ stops.NoMemory = ended.memory stops.WriteFault refl in cc
  no-write end ended = refl
