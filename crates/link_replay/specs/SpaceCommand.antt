-- The command `space`: the frames of a recorded line, sent again with silence between them.
use Rattle.std.specs.Prelude.{◌≡◌, ℕ, List, length, Option}
use Rattle.yasir_io.specs.declared.source.Source.{Ghosts as Source}
use Rattle.yasir_io.specs.declared.sink.Sink.{Ghosts as Sink}
use Rattle.yasir_ticks.specs.Ticks.{Item, ticks_in}
use Rattle.tick_drive.specs.Input.{Takes}
use Rattle.tick_drive.specs.declared.end.End.TheVariants.{Whole}
use Rattle.line_spacer.specs.Spacing.{accepted_of}
use Rattle.spacer_laws.specs.Leaving.{HaveLeft}
use Rattle.line_texts.specs.Sending.{LineAndNotes, SinkTexts, sink_texts, TextsHaveSent}
use Rattle.command_ends.specs.Outside.{Outside}
use Rattle.command_ends.specs.declared.status.Status.{Status}
use Rattle.command_ends.specs.declared.status.Status.TheVariants.{Done, NoMemory}
use Rattle.line_commands.specs.SpacedTexts.{spaced_texts, most_waiting}
use Rattle.line_commands.specs.SpacesLine.{SpacesLine, space_rest}
use Rattle.link_replay.specs.ReadCommand.{device_reads}
use Rattle.command_ends.specs.declared.link.Profile.{Profile}
use Rattle.command_ends.specs.Links.{gap_of}
use Rattle.command_ends.specs.declared.link.Proto.{Proto}

-- what `space` makes of a line: the spaced line, and the lines of the frames that are lost
abbrev pub spaced_by : Proto → Profile → LineAndNotes
spaced_by proto profile = spaced_texts (device_reads proto) (gap_of profile)

module _ (proto : Proto) (profile : Profile) (in_before in_now : Option (List ℕ))
    (before now : SinkTexts) where
  -- Holds if all of the input was taken, and the sinks have got its texts. Each accepted frame is
  -- whole in them: it has left by the end of the line.
  pub record SpacesWhole : Type 0 where
    pub items : List Item
    pub takes : Takes 0 space_rest in_before in_now items Whole
    pub sent : TextsHaveSent (spaced_by proto profile) before now (ticks_in items)
    pub left : HaveLeft (length (ticks_in items))
        (accepted_of (device_reads proto) (gap_of profile) most_waiting (ticks_in items))

  -- What each status says of the input and the sinks.
  abbrev pub SpacesInput : Status → Type 0
  SpacesInput Done = SpacesWhole
  SpacesInput status = SpacesLine (spaced_by proto profile) in_before in_now before now status

module _ {K S O L D : Type 0} (s : Source S) (o : Sink O) (l : Sink L) where
  -- What a run of a spacer does if `made` has the texts that the spacer makes of a line: neither
  -- the key nor the disk is touched, and if there is no memory nothing else is either.
  pub record SpacesTexts (made : LineAndNotes) (before after : Outside K S O L D)
      (status : Status) : Type 0 where
    pub line : SpacesLine made (s.left before.input) (s.left after.input)
        (sink_texts (o.held before.out) (l.held before.log))
        (sink_texts (o.held after.out) (l.held after.log)) status
    pub untouched : status ≡ NoMemory → after ≡ before
    pub key : after.key ≡ before.key
    pub disk : after.disk ≡ before.disk

  -- What `space` does: neither the key nor the disk is touched, and if there is no memory nothing
  -- else is either.
  pub record Spaces (proto : Proto) (profile : Profile) (before after : Outside K S O L D)
      (status : Status) : Type 0 where
    pub line : SpacesInput proto profile (s.left before.input) (s.left after.input)
        (sink_texts (o.held before.out) (l.held before.log))
        (sink_texts (o.held after.out) (l.held after.log)) status
    pub untouched : status ≡ NoMemory → after ≡ before
    pub key : after.key ≡ before.key
    pub disk : after.disk ≡ before.disk
