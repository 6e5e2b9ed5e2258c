-- The command `duplex`: the transmitter of one direction of a line and the receiver of the other
-- direction, step by step over the recorded line of a device and a recorded link.
use Rattle.std.specs.Prelude.{◌≡◌, ℕ, List}
use Rattle.yasir_io.specs.declared.source.Source.{Ghosts as Source}
use Rattle.yasir_io.specs.declared.sink.Sink.{Ghosts as Sink}
use Rattle.yasir_ticks.specs.declared.tick.Tick.{Tick}
use Rattle.frame_ending.specs.Answers.{told_notes}
use Rattle.link_format.specs.declared.dir.Dir.{Dir}
use Rattle.link_format.specs.Profile.{Profile as LinkProfile}
use Rattle.link_format.specs.Setup.{Setup}
use Rattle.sequence_journal.specs.declared.numbers.TheConstants.{LIMIT}
use Rattle.link_box.specs.Sealing.{seal_notes, link_line}
use Rattle.seal_transmitter.specs.Answers.{brief_seal_note}
use Rattle.link_box.specs.Checking.{check_notes, received_line, brief_note as check_brief}
use Rattle.command_ends.specs.Outside.{Outside}
use Rattle.command_ends.specs.declared.status.Status.{Status}
use Rattle.line_commands.specs.CheckLines.{check_line}
use Rattle.line_commands.specs.SealLines.{seal_line}
use Rattle.line_commands.specs.KeptBox.{TimedBox}
use Rattle.line_commands.specs.TimedLines.{timed_lines}
use Rattle.line_commands.specs.Recording.{BothTexts, AreMade, both_with}
use Rattle.command_ends.specs.Links.{rules_of, link_profile_of}
use Rattle.command_ends.specs.declared.link.Profile.{Profile}
use Rattle.command_ends.specs.declared.link.Proto.{Proto}
use Rattle.link_replay.specs.BothLines.{RunsOverBothKeyed}

-- the profile of a box with this setup
abbrev pub duplex_profile : Proto → Profile → Setup → LinkProfile
duplex_profile proto profile setup = link_profile_of profile (rules_of proto).label LIMIT setup

-- what the transmitter makes of the line of a device: the link, and the lines of its notes
abbrev pub duplex_sealer : Proto → Profile → Setup → TimedBox
duplex_sealer proto profile setup = record {
  other_line = λ line.
      link_line (duplex_profile proto profile setup) (rules_of proto) setup.floor line;
  note_lines = λ line. timed_lines seal_line (told_notes brief_seal_note
      (seal_notes (duplex_profile proto profile setup) (rules_of proto) setup.floor line));
}

-- what the receiver makes of a link: the ticks for the device, and the lines of its notes
abbrev pub duplex_checker : Proto → Profile → Setup → TimedBox
duplex_checker proto profile setup = record {
  other_line = λ link.
      received_line (duplex_profile proto profile setup) (rules_of proto) setup.floor link;
  note_lines = λ link. timed_lines check_line (told_notes check_brief
      (check_notes (duplex_profile proto profile setup) (rules_of proto) setup.floor link));
}

-- Holds of the texts that two boxes with a key make of both recordings. The first box has this direction,
-- and the second one the other direction.
abbrev pub both_in : (Setup → TimedBox) → (Setup → TimedBox) → Dir → List ℕ → List Tick
    → List Tick → BothTexts → Type 0
both_in outgoing incoming dir key = AreMade (both_with outgoing incoming key dir)

-- holds of the texts that the transmitter and the receiver make of both recordings
abbrev pub duplex_texts : Proto → Profile → Dir → List ℕ → List Tick → List Tick → BothTexts → Type 0
duplex_texts proto profile dir =
    both_in (duplex_sealer proto profile) (duplex_checker proto profile) dir

module _ {K S O L D : Type 0} (k : Source K) (s : Source S) (o : Sink O) (l : Sink L) where
  -- What `duplex` does. The journal's disk isn't touched.
  pub record Duplexes (proto : Proto) (profile : Profile) (dir : Dir)
      (before after : Outside K S O L D) (status : Status) : Type 0 where
    pub texts : RunsOverBothKeyed k s o l (duplex_texts proto profile dir) before after status
    pub disk : after.disk ≡ before.disk
