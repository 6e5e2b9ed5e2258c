-- If words ask for a command, all that it is given is right and nothing outside fails, it ends
-- well: its status is `Done`, or for an audit that of its verdict, or for some commands `NoMemory`.
use Rattle.line_commands.proofs.Replayable.{replayable_done}
use Rattle.line_commands.specs.LinkBoxes.{seal_boxed, seal_rest, check_boxed, check_rest}
use Rattle.line_commands.proofs.OverInput.{right_input_done}
use Rattle.link_replay.proofs.Duplexed.{duplex_done, two_wire_done}
use Rattle.link_replay.proofs.Listable.{listable_done, auditable_done}
use Rattle.link_replay.proofs.Spaced.{whole-spaces}
use Rattle.command_ends.specs.Programs.{EndsLog, IsCalm}
use Rattle.link_replay.specs.Commands.{Does, MayDo, EndsWell, HasCauses, HasRecordedCauses}
use Rattle.link_replay.specs.Commands.{FlushesAfter}
use Rattle.link_replay.specs.LiveCommands.{HasLiveCauses}
use Rattle.link_replay.specs.Words.{IsOverOne}
use Rattle.live_commands.proofs.Able.{lives_done}
use Rattle.link_replay.specs.declared.commands.live.TheConstants.{LIVE_AHEAD}
use Rattle.live_commands.specs.LineEnds.{ends_port, line_around, HasCounts}
use Rattle.link_replay.specs.InitCommand.{MakesJournal, IsBlank}
use Rattle.link_replay.specs.{ReadCommand.device_reads, SpaceCommand.spaced_by}
use Rattle.link_replay.specs.declared.words.Command.{Command}
use Rattle.link_replay.specs.declared.words.Command.TheVariants.{Init, Read, Vectors, Seal, Check}
use Rattle.link_replay.specs.declared.words.Command.TheVariants.{Replay, Trial, Poll, Space, Audit}
use Rattle.link_replay.specs.declared.words.Command.TheVariants.{Duplex, LiveSeal, LiveCheck}
use Rattle.link_replay.specs.declared.words.Command.TheVariants.{TwoWire, LiveLine, Help, Version}
use Rattle.command_ends.{proofs.Links.link-right, specs.Links.link_of}
use Rattle.command_ends.proofs.{FlushLaws.flushes_after, Logging.sinks_after}
use Rattle.command_ends.specs.Causes.{SinkCause, DiskCause, NoneRose}
use Rattle.command_ends.specs.{Outside.Outside, PrintsText.PrintsText, Reasons.untold}
use Rattle.command_ends.specs.Statuses.{fault_line}
use Rattle.command_ends.specs.declared.status.Status.{Status}
use Rattle.command_ends.specs.declared.status.Status.TheVariants.{Done, WriteFault, JournalFault}
use Rattle.command_ends.specs.declared.status.Status.TheVariants.{HasJournal, NoMemory}
use Rattle.sequence_journal.specs.{Slots.greatest, declared.link.LinkId.LinkId}
use Rattle.line_commands.proofs.SpaceEnds.{nothing_taken}
use Rattle.line_commands.specs.PrintsFrames.{HasPrinted, HasPrintedFront, read_rest}
use Rattle.line_commands.specs.SpacesLine.{TakesNothing, space_rest}
use Rattle.line_texts.specs.Sending.{TextsHaveSent, HasSentFronts}
use Rattle.std.proofs.Common.{◌≡◌, ◌∙◌, ℕ, ◌⊎◌, List, [], Option, Some, None}
use Rattle.std.proofs.Common.{IfSome, inl, inr}
use Rattle.std.proofs.Common.{refl, sym, ap, subst}
use Rattle.yasir_io.specs.{Disks.Slots, Flushed.IsNotFlushed}
use Rattle.yasir_io.specs.declared.{disk.SlotDisk.Ghosts as SlotDisk, sink.Sink.Ghosts as Sink}
use Rattle.yasir_io.specs.declared.source.Source.{Ghosts as Source}

module _ (key0 key1 in0 in1 out0 out1 log0 log1 disk0 disk1 : ℕ)
    (calm : NoneRose key0 key1 in0 in1 out0 out1 log0 log1 disk0 disk1) where
  journal_done : (link : LinkId) (old new : Option Slots) (images_old images_new : Slots → Type 0)
      (status : Status) → IsBlank old → MakesJournal link old new images_old images_new status
      → SinkCause out0 out1 log0 log1 status → DiskCause disk0 disk1 status → status ≡ Done
  journal_done link old new images_old images_new Done blank h sinks disk = refl
  journal_done link old new images_old images_new WriteFault blank h sinks disk =
      elim sinks [ inl out ↦ absurd (calm.out out) | inr log ↦ absurd (calm.log log) ]
  journal_done link old new images_old images_new JournalFault blank h sinks disk =
      absurd (calm.disk disk)
  journal_done link old new images_old images_new (HasJournal floor) blank h sinks disk =
      let stands : greatest blank.0 ≡ Some floor =
      subst (λ told. IfSome told (λ slots. greatest slots ≡ Some floor)) blank.1 h.stands in
      let both : None ≡ Some floor = sym blank.2 ∙ stands in
      cc
  journal_done link old new images_old images_new status blank h sinks disk = absurd h

  text_done : (text : List ℕ) (out_before out_now : Option (List ℕ)) (status : Status)
      → PrintsText text out_before out_now status → SinkCause out0 out1 log0 log1 status
      → status ≡ Done
  text_done text out_before out_now Done h sinks = refl
  text_done text out_before out_now WriteFault h sinks =
      elim sinks [ inl out ↦ absurd (calm.out out) | inr log ↦ absurd (calm.log log) ]
  text_done text out_before out_now status h sinks = absurd h

module _ {K S O L D : Type 0} (k : Source K) (s : Source S) (o : Sink O) (l : Sink L) where
  -- The counts of a live line are still as its status says after the fault line.
  pub counts_after : (before after : Outside K S O L D) (noted : L) (status : Status) (line : List ℕ)
      → (fault_line untold status ≡ [] → line ≡ [])
      → HasCounts k s o l before (record after { log = noted }) status
      → EndsLog l noted after.log line → HasCounts k s o l before after status
  counts_after before after noted status line none h ends = record {
    reads = h.reads;
    sinks = sinks_after (o.faults before.out) (o.faults after.out) (l.faults before.log)
        (l.faults noted) (l.faults after.log) status h.sinks ends.never_falls
        (λ empty. ap l.faults (ends.same (none empty)));
  }

module _ {K S O L D : Type 0} (k : Source K) (s : Source S) (o : Sink O) (l : Sink L)
    (d : SlotDisk D) where
  -- The causes still hold after the fault line, whether it was written or its write failed.
  recorded_after : (asked : Option Command) (before after : Outside K S O L D) (noted : L)
      (status : Status) (line : List ℕ) → (fault_line untold status ≡ [] → line ≡ [])
      → HasRecordedCauses k s o l d asked before (record after { log = noted }) status
      → EndsLog l noted after.log line → IsNotFlushed l noted after.log
      → HasRecordedCauses k s o l d asked before after status
  recorded_after asked before after noted status line none h ends not_flushed = record {
    streams = record {
      reads = h.streams.reads;
      sinks = sinks_after (o.faults before.out) (o.faults after.out) (l.faults before.log)
          (l.faults noted) (l.faults after.log) status h.streams.sinks ends.never_falls
          (λ empty. ap l.faults (ends.same (none empty)));
      flushes = flushes_after o l before.out after.out before.log noted after.log status
          h.streams.flushes (λ empty. ends.same (none empty)) not_flushed;
    };
    own = h.own;
  }

  live_after : (before after : Outside K S O L D) (noted : L) (status : Status) (line : List ℕ)
      → (fault_line untold status ≡ [] → line ≡ [])
      → HasLiveCauses k s o l d before (record after { log = noted }) status
      → EndsLog l noted after.log line → HasLiveCauses k s o l d before after status
  live_after before after noted status line none h ends = record {
    counts = counts_after k s o l before after noted status line none h.counts ends;
    disk = h.disk;
  }

  pub causes_after : (asked : Option Command) (before after : Outside K S O L D) (noted : L)
      (status : Status) (line : List ℕ) → IsOverOne asked
      → (fault_line untold status ≡ [] → line ≡ [])
      → HasCauses k s o l d asked before (record after { log = noted }) status
      → EndsLog l noted after.log line → FlushesAfter l asked noted after.log line
      → HasCauses k s o l d asked before after status
  causes_after (Some (LiveSeal proto profile dir)) before after noted status line one none h ends
      flushed = live_after before after noted status line none h ends
  causes_after (Some (LiveCheck proto profile dir)) before after noted status line one none h ends
      flushed = live_after before after noted status line none h ends
  causes_after (Some (LiveLine proto profile dir)) before after noted status line one none h ends
      flushed = absurd one
  causes_after asked before after noted status line one none h ends flushed =
      recorded_after asked before after noted status line none h ends flushed

  -- What the causes say of the sinks, for whatever command.
  pub sinks_in : (asked : Option Command) (before after : Outside K S O L D) (status : Status)
      → HasCauses k s o l d asked before after status
      → SinkCause (o.faults before.out) (o.faults after.out) (l.faults before.log)
      (l.faults after.log) status
  sinks_in (Some (LiveSeal proto profile dir)) before after status h = h.counts.sinks
  sinks_in (Some (LiveCheck proto profile dir)) before after status h = h.counts.sinks
  sinks_in asked before after status h = h.streams.sinks

  -- Where nothing outside failed, no write did.
  no_write : (before after : Outside K S O L D) (status : Status)
      → IsCalm k.faults s.faults o.faults l.faults d.faults before after
      → SinkCause (o.faults before.out) (o.faults after.out) (l.faults before.log)
      (l.faults after.log) status → status ≡ WriteFault → ⊥
  no_write before after status calm sinks is = elim (subst (SinkCause (o.faults before.out)
      (o.faults after.out) (l.faults before.log) (l.faults after.log)) is sinks) [
        | inl out ↦ calm.out out
        | inr log ↦ calm.log log
      ]

  pub asked_done : (asked : Option Command) (before after : Outside K S O L D) (status : Status)
      → MayDo k s o l d asked before → IsCalm k.faults s.faults o.faults l.faults d.faults before after
      → Does k s o l d asked before after status → HasCauses k s o l d asked before after status
      → EndsWell k s o l d asked before status
  asked_done None before after status may calm does causes = absurd may
  asked_done (Some (Init proto profile dir)) before after status may calm does causes =
      journal_done _ _ _ _ _ _ _ _ _ _ calm _ _ _ _ _ status may does.journal causes.streams.sinks
      causes.own.1
  asked_done (Some (Read proto)) before after status may calm does causes =
      elim (right_input_done read_rest _ _ (HasPrinted (device_reads proto) _ _)
      (HasPrintedFront (device_reads proto) _ _) (λ status. ⊥) _ _ _ _ _ _ _ _ _ _ may calm status
      does.frames causes.own.0 causes.streams.sinks) [
        | inl done ↦ done
        | inr none ↦ absurd none
      ]
  asked_done (Some Vectors) before after status may calm does causes =
      text_done _ _ _ _ _ _ _ _ _ _ calm _ _ _ status does.printed causes.streams.sinks
  asked_done (Some (LiveSeal proto profile dir)) before after status may calm does causes =
      lives_done k (ends_port s o l) d (seal_boxed proto profile) (link_of proto profile dir)
      (link-right proto profile dir) dir (seal_rest profile) LIVE_AHEAD before.key after.key
      (line_around before) (line_around after) may calm.key calm.input calm.disk status does
      causes.disk
      (λ is. no_write before after status calm causes.counts.sinks is)
  asked_done (Some (LiveCheck proto profile dir)) before after status may calm does causes =
      lives_done k (ends_port s o l) d (check_boxed proto profile) (link_of proto profile dir)
      (link-right proto profile dir) dir check_rest 0 before.key after.key (line_around before)
      (line_around after) may calm.key calm.input calm.disk status does causes.disk
      (λ is. no_write before after status calm causes.counts.sinks is)
  asked_done (Some (LiveLine proto profile dir)) before after status may calm does causes =
      absurd may
  asked_done (Some Help) before after status may calm does causes =
      text_done _ _ _ _ _ _ _ _ _ _ calm _ _ _ status does.1.printed causes.streams.sinks
  asked_done (Some Version) before after status may calm does causes =
      text_done _ _ _ _ _ _ _ _ _ _ calm _ _ _ status does.printed causes.streams.sinks
  asked_done (Some (Seal proto profile dir)) before after status may calm does causes =
      replayable_done k s o l d (seal_boxed proto profile) (link_of proto profile dir)
      (link-right proto profile dir) dir (seal_rest profile) before after may calm status does
      causes.streams.reads causes.own causes.streams.sinks
  asked_done (Some (Check proto profile dir)) before after status may calm does causes =
      replayable_done k s o l d (check_boxed proto profile) (link_of proto profile dir)
      (link-right proto profile dir) dir check_rest before after may calm status
      does causes.streams.reads causes.own causes.streams.sinks
  asked_done (Some (Trial proto profile seed count)) before after status may calm does causes =
      text_done _ _ _ _ _ _ _ _ _ _ calm _ _ _ status does.line.printed causes.streams.sinks
  asked_done (Some (Poll proto profile seed count)) before after NoMemory may calm does causes =
      inr refl
  asked_done (Some (Poll proto profile seed count)) before after status may calm does causes =
      inl (text_done _ _ _ _ _ _ _ _ _ _ calm does.text (o.held before.out) (o.held after.out) status
      does.prints.printed causes.streams.sinks)
  asked_done (Some (Space proto profile)) before after status may calm does causes =
      elim (right_input_done space_rest _ _ (TextsHaveSent (spaced_by proto profile) _ _)
      (HasSentFronts (spaced_by proto profile) _ _) (TakesNothing (spaced_by proto profile) _ _ _ _)
      _ _ _ _ _ _ _ _ _ _ may calm status (whole-spaces proto profile _ _ _ _ status does.line)
      causes.own.0 causes.streams.sinks) as (λ _. (status ≡ Done) ⊎ (status ≡ NoMemory)) [
        | inl done ↦ inl done
        | inr none ↦ inr (nothing_taken (spaced_by proto profile) _ _ _ _ status none)
      ]
  asked_done (Some (Replay proto profile dir)) before after status may calm does causes =
      listable_done k s o l d before after calm proto profile dir may status does
      causes.streams.reads causes.streams.sinks
  asked_done (Some (Audit asked)) before after status may calm does causes =
      auditable_done k s o l d asked before after may calm status
      does.prints causes.streams.reads causes.streams.sinks
  asked_done (Some (Duplex proto profile dir)) before after status may calm does causes =
      duplex_done k s o l d proto profile dir before after may calm status does
      causes.streams.reads causes.streams.sinks
  asked_done (Some (TwoWire proto profile dir side waits)) before after status may calm does causes =
      two_wire_done k s o l d proto profile dir before after side waits may calm status does
      causes.streams.reads causes.streams.sinks
