-- What a two-wire box makes of two recordings: of the wires to its device, and of those of the link.
use Rattle.std.specs.Prelude.{◌≡◌, ℕ, List, ◌++◌, length, map, codes}
use Rattle.yasir_ticks.specs.CanonicalText.{canonical_text}
use Rattle.yasir_ticks.specs.declared.tick.Tick.{Tick}
use Rattle.link_format.specs.Directions.{opposite_of}
use Rattle.link_format.specs.Setup.{Setup, setup_of}
use Rattle.link_format.specs.declared.dir.Dir.{Dir}
use Rattle.session_lists.specs.FrameList.{KeptFrames}
use Rattle.line_commands.specs.KeptBox.{TimedBox}
use Rattle.line_commands.specs.NoteLines.{placed_line}
use Rattle.line_commands.specs.Recording.{BothTexts, steps_of, filled_recording}
use Rattle.line_commands.specs.TimedLines.{lines_before}
use Rattle.two_wire.specs.Gate.{held_steps, at_rest}
use Rattle.two_wire.specs.TwoWire.{EndWires, DrivesWires, heard_device, heard_link}
use Rattle.two_wire.specs.Wires.{on_wires}
use Rattle.two_wire.specs.declared.gate.Side.{Side}
use Rattle.two_wire.specs.declared.gate.Waits.{Waits}

-- `held at T`: the line of the step in which a burst begins that the gate keeps back
abbrev pub held_line : ℕ → List ℕ
held_line step = placed_line (codes "held at ") step (codes "\n")

abbrev pub held_lines : List ℕ → List (KeptFrames ℕ)
held_lines steps = map (λ step. record { head = step; frame = held_line step }) steps

module _ (outgoing incoming : TimedBox) (side : Side) (waits : Waits) where
  -- The lines of the bursts that the gate keeps back. Each begins in the step in which it would be
  -- on the wires to the device, one later than the receiver decides it.
  abbrev pub lines_held : EndWires → List (KeptFrames ℕ)
  lines_held wires = held_lines (held_steps side waits 0 at_rest
      (on_wires 1 (incoming.other_line (heard_link wires))) (heard_device wires))

  -- Holds if these are the texts of what a box drives both pairs of wires with while these ticks are
  -- on them, and of its notes. It decides each tick one step before it drives the wires with it, and
  -- its gate hears the device at once. The notes are in the order of steps, and within a step the
  -- one of the outgoing box comes first, then that of the incoming box, then that of the gate.
  pub record AreTextsOfWires (device link : List Tick) (texts : BothTexts) : Type 0 where
    pub wires : EndWires
    pub device_is : wires.device_wires ≡ device
    pub link_is : wires.link_wires ≡ link
    pub drives : DrivesWires outgoing.other_line incoming.other_line 1 0 side waits wires
    pub link_text : texts.link ≡ canonical_text wires.to_link
    pub device_text : texts.device ≡ canonical_text wires.to_device
    pub notes : texts.notes ≡ lines_before (length device)
        (outgoing.note_lines (heard_device wires))
        (incoming.note_lines (heard_link wires) ++ lines_held wires)

  -- Holds if these are the texts that it makes of two recordings of the wires. Both are filled, so
  -- that tick i of each goes into step i.
  abbrev pub AreWireTexts : List Tick → List Tick → BothTexts → Type 0
  AreWireTexts device link texts =
      AreTextsOfWires (filled_recording (steps_of device link) device)
      (filled_recording (steps_of device link) link) texts

-- Holds if these are the texts that a box with this key makes of two recordings, if its device sends
-- in this direction and its numbers begin at 1.
abbrev pub wire_texts_with : (Setup → TimedBox) → (Setup → TimedBox) → Side → Waits → List ℕ → Dir
    → List Tick → List Tick → BothTexts → Type 0
wire_texts_with outgoing incoming side waits key dir =
    AreWireTexts (outgoing (setup_of key dir 0)) (incoming (setup_of key (opposite_of dir) 0)) side
    waits
