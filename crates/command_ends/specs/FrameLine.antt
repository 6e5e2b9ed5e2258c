-- The lines that the program prints for frames.
use Rattle.std.specs.Prelude.{ℕ, List, ◌++◌, codes, decimal}
use Rattle.std.specs.List.{flat_map}
use Rattle.hex.specs.Hex.{encode_lower}
use Rattle.device_model.specs.Frames.{FrameRead}

-- the line of a frame: some words, the tick of its first byte, and its bytes
abbrev pub frame_line_of : List ℕ → FrameRead → List ℕ
frame_line_of words read = words ++ decimal read.start ++ codes " " ++ encode_lower read.frame
    ++ codes "\n"

-- the line of a frame that a device reads
abbrev pub frame_line : FrameRead → List ℕ
frame_line read = frame_line_of (codes "read at ") read

abbrev pub frame_lines : List FrameRead → List ℕ
frame_lines reads = flat_map frame_line reads
