-- The command `two_wire`: a box between the wires to a device and those of a link, on each of which
-- all take turns, step by step over a recording of either pair of wires.
use Rattle.std.specs.Prelude.{◌≡◌, ℕ, List}
use Rattle.yasir_io.specs.declared.source.Source.{Ghosts as Source}
use Rattle.yasir_io.specs.declared.sink.Sink.{Ghosts as Sink}
use Rattle.yasir_ticks.specs.declared.tick.Tick.{Tick}
use Rattle.link_format.specs.declared.dir.Dir.{Dir}
use Rattle.link_format.specs.Setup.{Setup}
use Rattle.command_ends.specs.Outside.{Outside}
use Rattle.command_ends.specs.declared.status.Status.{Status}
use Rattle.command_ends.specs.declared.link.Profile.{Profile}
use Rattle.command_ends.specs.declared.link.Proto.{Proto}
use Rattle.line_commands.specs.KeptBox.{TimedBox}
use Rattle.line_commands.specs.Recording.{BothTexts}
use Rattle.two_wire.specs.declared.gate.Side.{Side}
use Rattle.two_wire.specs.declared.gate.Waits.{Waits}
use Rattle.wire_commands.specs.WireLines.{wire_texts_with}
use Rattle.link_replay.specs.BothLines.{RunsOverBothKeyed}
use Rattle.link_replay.specs.DuplexCommand.{duplex_sealer, duplex_checker}

-- Holds of the texts that a box with a key makes of both recordings, if its device sends in this
-- direction.
abbrev pub wires_in_dir : (Setup → TimedBox) → (Setup → TimedBox) → Dir → Side → Waits → List ℕ
    → List Tick → List Tick → BothTexts → Type 0
wires_in_dir outgoing incoming dir side waits key =
    wire_texts_with outgoing incoming side waits key dir

-- holds of the texts that a box of the transmitter and the receiver makes
abbrev pub two_wire_texts : Proto → Profile → Dir → Side → Waits → List ℕ → List Tick → List Tick
    → BothTexts → Type 0
two_wire_texts proto profile dir side waits =
    wires_in_dir (duplex_sealer proto profile) (duplex_checker proto profile) dir side waits

module _ {K S O L D : Type 0} (k : Source K) (s : Source S) (o : Sink O) (l : Sink L) where
  -- What `two_wire` does. The journal's disk isn't touched.
  pub record DrivesTwoWires (proto : Proto) (profile : Profile) (dir : Dir) (side : Side)
      (waits : Waits) (before after : Outside K S O L D) (status : Status) : Type 0 where
    pub texts : RunsOverBothKeyed k s o l (two_wire_texts proto profile dir side waits) before after
        status
    pub disk : after.disk ≡ before.disk
