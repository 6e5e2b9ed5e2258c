-- The frames of two recordings, a line of a device and a link, and the lines that are printed for
-- them.
use Rattle.std.specs.Prelude.{ℕ, List, ◌++◌, codes, decimal}
use Rattle.std.specs.List.{flat_map}
use Rattle.hex.specs.Hex.{encode_lower}
use Rattle.yasir_ticks.specs.declared.tick.Tick.{Tick}
use Rattle.link_format.specs.declared.dir.Dir.{Dir}
use Rattle.device_model.specs.Frames.{FrameRead}
use Rattle.device_model.specs.declared.device.Device.{Ghosts as Device}
use Rattle.link_format.specs.NumberedFrame.{NumberedFrame}
use Rattle.link_format.specs.Setup.{setup_of}
use Rattle.receiver_laws.specs.Accounted.{forged}
use Rattle.session_lists.specs.FrameBox.{Numbering}
use Rattle.session_lists.specs.declared.frame_box.FrameBox.{Ghosts as FrameBox}
use Rattle.command_ends.specs.FrameLine.{frame_lines}

-- The frames that a transmitter seals of the line of a device, those that a receiver passes of a
-- link, and those that a device reads of the receiver's line.
pub record Listing : Type 0 where
  pub sealed : List NumberedFrame
  pub passed : List NumberedFrame
  pub reads : List FrameRead

-- the passed frames whose number and bytes, taken together, aren't those of any sealed frame
abbrev pub forged_in : Listing → List NumberedFrame
forged_in listing = forged listing.sealed listing.passed

-- the line of a numbered frame: `NAME N at S HEX`
abbrev pub numbered_line_of : List ℕ → NumberedFrame → List ℕ
numbered_line_of name f = name ++ codes " " ++ decimal f.number ++ codes " at " ++ decimal f.start
    ++ codes " " ++ encode_lower f.frame ++ codes "\n"

-- the lines of these frames, in order, each of which begins with this name
abbrev pub numbered_lines : List ℕ → List NumberedFrame → List ℕ
numbered_lines name frames = flat_map (numbered_line_of name) frames

-- the lines of the sealed, passed, read and forged frames, one group after the other, each in the
-- order of its list
abbrev pub listing_text : Listing → List ℕ
listing_text listing =
    numbered_lines (codes "sealed") listing.sealed
    ++ numbered_lines (codes "passed") listing.passed
    ++ frame_lines listing.reads
    ++ numbered_lines (codes "forged") (forged_in listing)

-- What two boxes make of a line and a link, and what a device that reads by `reads` makes of the
-- second box's line.
abbrev pub listing_by : Numbering → Numbering → (List Tick → List FrameRead) → List Tick
    → List Tick → Listing
listing_by sealer checker reads line link = record {
  sealed = sealer.frames line;
  passed = checker.frames link;
  reads = reads (checker.other_line link);
}

-- the listing by two boxes that are set up with this key and direction and whose numbers begin at
-- 1, and by a device
abbrev pub listing_with : {S C V : Type 0} → FrameBox S → FrameBox C → Device V → Dir → List ℕ
    → List Tick → List Tick → Listing
listing_with sealer checker device dir key =
    listing_by (sealer.numbering (setup_of key dir 0)) (checker.numbering (setup_of key dir 0))
    device.reads
