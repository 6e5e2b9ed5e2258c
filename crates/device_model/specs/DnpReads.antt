-- What a DNP3 device reads from a line: it hunts by the rules of the link layer for 05 64, with
-- which each header begins (IEEE 1815).
use Rattle.std.specs.Prelude.{List}
use Rattle.yasir_ticks.specs.declared.tick.Tick.{Tick}
use Rattle.dnp_link_frame.specs.Rules.{dnp_rules}
use Rattle.device_model.specs.Frames.{FrameRead}
use Rattle.device_model.specs.Hunt.{hunt_line}

-- the frames that a DNP3 device reads from a line
abbrev pub dnp_reads : List Tick → List FrameRead
dnp_reads line = hunt_line 0x05 0x64 dnp_rules line
