-- A run that reads a key, and then a text with its marks: if both are right and nothing outside
-- fails, the status is `Done` or `NoMemory`.
use Rattle.session_audit.specs.Keyed.{ReadsKeyFirst}
use Rattle.std.proofs.Common.{◌≡◌, ◌⊎◌, ℕ, List, inl, inr, refl}
use Rattle.std.specs.Prelude.{⊤}
use Rattle.tick_drive.specs.{Input.Takes, declared.end.End.TheVariants.Refused}
use Rattle.yasir_io.specs.declared.{disk.SlotDisk.Ghosts as SlotDisk, sink.Sink.Ghosts as Sink}
use Rattle.{yasir_io.specs.declared.source.Source.Ghosts as Source, yasir_ticks.specs.Ticks.Item}
use Rattle.tick_drive.specs.declared.end.End.TheVariants as ends
use Rattle.line_commands.proofs.Replayable.{no_key_refused}
use Rattle.{link_replay.specs.ReplayCommand.IsListable, command_ends.proofs.Readable.not_refused}
use Rattle.command_ends.{proofs.Readable.not_too_long, specs.Causes.ReadsCause}
use Rattle.command_ends.specs.{Causes.SinkCause, Causes.NoneRose, Outside.Outside}
use Rattle.command_ends.specs.declared.status.Status.{Status, TheVariants.Done}
use Rattle.command_ends.specs.declared.status.Status.TheVariants.{BadTicks, ReadFault, WriteFault}
use Rattle.command_ends.specs.declared.status.Status.TheVariants.{TooLong, BadKey, NoMemory}

module _ {K S O L D : Type 0} (k : Source K) (s : Source S) (o : Sink O) (l : Sink L)
    (d : SlotDisk D) (before after : Outside K S O L D) (marks rest : ℕ) where
  -- what a status that comes after the key was read says of the input
  abbrev pub EndsAs : Status → Type 0
  EndsAs Done = ⊤
  EndsAs NoMemory = ⊤
  EndsAs ReadFault = ⊤
  EndsAs WriteFault = ⊤
  EndsAs (BadTicks bad) = (items : List Item)
      × Takes marks rest (s.left before.input) (s.left after.input) items (Refused bad)
  EndsAs (TooLong what count) = (items : List Item)
      × Takes marks rest (s.left before.input) (s.left after.input) items (ends.TooLong what count)
  EndsAs status = ⊥

  module _ (right : IsListable marks (k.left before.key) (s.left before.input))
      (calm : NoneRose (k.faults before.key) (k.faults after.key) (s.faults before.input)
      (s.faults after.input)
      (o.faults before.out) (o.faults after.out) (l.faults before.log) (l.faults after.log)
      (d.faults before.disk) (d.faults after.disk))
      (runs : List ℕ → Status → Type 0) (Untouched : Type 0) where
    pub keyed_done : (status : Status)
        → ((key : List ℕ) → runs key status → EndsAs status)
        → ReadsKeyFirst k before.key after.key runs Untouched status
        → ReadsCause (k.faults before.key) (k.faults after.key) (s.faults before.input)
        (s.faults after.input) status
        → SinkCause (o.faults before.out) (o.faults after.out) (l.faults before.log)
        (l.faults after.log) status → (status ≡ Done) ⊎ (status ≡ NoMemory)
    keyed_done Done ended h reads sinks = inl refl
    keyed_done NoMemory ended h reads sinks = inr refl
    keyed_done (BadTicks bad) ended h reads sinks =
        let taken = ended h.key h.does in
        absurd (not_refused rest (s.left before.input) (s.left after.input) taken.0 right.input bad
        taken.1)
    keyed_done (TooLong what count) ended h reads sinks =
        let taken = ended h.key h.does in
        absurd (not_too_long rest (s.left before.input) (s.left after.input) taken.0 right.input
        what count taken.1)
    keyed_done ReadFault ended h reads sinks =
        elim reads.0 [ inl key ↦ absurd (calm.key key) | inr input ↦ absurd (calm.input input) ]
    keyed_done WriteFault ended h reads sinks =
        elim sinks [ inl out ↦ absurd (calm.out out) | inr log ↦ absurd (calm.log log) ]
    keyed_done (BadKey place) ended h reads sinks =
        absurd (no_key_refused right.key h.text (k.left after.key) place h.met h.refused)
    keyed_done status ended h reads sinks = absurd (ended h.key h.does)
