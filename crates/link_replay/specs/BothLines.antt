-- A run over two recordings in one input: the ticks of a device, and those of a link.
use Rattle.std.specs.Prelude.{◌≡◌, ℕ, List, Option}
use Rattle.yasir_io.specs.declared.source.Source.{Ghosts as Source}
use Rattle.yasir_io.specs.declared.sink.Sink.{Ghosts as Sink}
use Rattle.yasir_ticks.specs.Ticks.{Item}
use Rattle.yasir_ticks.specs.declared.tick.Tick.{Tick}
use Rattle.tick_drive.specs.Input.{Takes, IsWhole}
use Rattle.tick_drive.specs.declared.consumer.Stop.TheVariants as stops
use Rattle.tick_drive.specs.declared.end.End.{End}
use Rattle.tick_drive.specs.declared.end.End.TheVariants.{Refused, Stopped}
use Rattle.tick_drive.specs.declared.end.End.TheVariants as ends
use Rattle.session_lists.specs.Recordings.{before_mark, behind_mark}
use Rattle.command_ends.specs.Outside.{Outside}
use Rattle.command_ends.specs.declared.status.Status.{Status}
use Rattle.command_ends.specs.declared.status.Status.TheVariants.{Done, BadTicks, ReadFault}
use Rattle.command_ends.specs.declared.status.Status.TheVariants.{WriteFault, TooLong, NoMemory}
use Rattle.session_audit.specs.Keyed.{ReadsKeyFirst, LeavesAll}
use Rattle.line_commands.specs.Recording.{BothTexts, PrintsBoth}

module _ (AreTexts : List Tick → List Tick → BothTexts → Type 0)
    (in_before in_now out_before out_now log_before log_now : Option (List ℕ)) where
  -- Holds if all of the input was taken and is a text with one mark: the ticks of a device come
  -- before the mark, and those of a link after it. The sinks have got the texts that are made of
  -- both, as the status says.
  pub record PrintsBothLines (status : Status) : Type 0 where
    pub items : List Item
    pub whole : IsWhole 1 0 in_before in_now items
    pub texts : BothTexts
    pub are : AreTexts (before_mark items) (behind_mark items) texts
    pub prints : PrintsBoth texts out_before out_now log_before log_now status

  -- Holds if the input ended in this way, or there was no memory for what is made of it. The sinks
  -- have got nothing.
  pub record PrintsNeither (end : End) : Type 0 where
    pub items : List Item
    pub takes : Takes 1 0 in_before in_now items end
    pub out : out_now ≡ out_before
    pub log : log_now ≡ log_before

  -- What each status says of the input and the sinks.
  abbrev pub RunsOverBoth : Status → Type 0
  RunsOverBoth Done = PrintsBothLines Done
  RunsOverBoth WriteFault = PrintsBothLines WriteFault
  RunsOverBoth (BadTicks bad) = PrintsNeither (Refused bad)
  RunsOverBoth (TooLong what count) = PrintsNeither (ends.TooLong what count)
  RunsOverBoth ReadFault = PrintsNeither ends.ReadFault
  RunsOverBoth NoMemory = PrintsNeither (Stopped stops.NoMemory)
  RunsOverBoth status = ⊥

module _ {K S O L D : Type 0} (k : Source K) (s : Source S) (o : Sink O) (l : Sink L) where
  -- What each status says of a run that reads the key first and makes the texts with it.
  abbrev pub RunsOverBothKeyed : (List ℕ → List Tick → List Tick → BothTexts → Type 0) → Outside K S O L D
      → Outside K S O L D → Status → Type 0
  RunsOverBothKeyed are_texts before after status = ReadsKeyFirst k before.key after.key
      (λ key. RunsOverBoth (are_texts key) (s.left before.input) (s.left after.input)
      (o.held before.out) (o.held after.out) (l.held before.log) (l.held after.log))
      (LeavesAll before.input after.input before.out after.out before.log after.log) status
