-- The devices for which the laws of lines are stated, so that a law over all of them names none.
use Rattle.std.specs.Prelude.{◌≡◌, ◌≤◌, ◌⊎◌, ℕ, List}
use Rattle.yasir_ticks.specs.declared.TheConstants.{T3_5_TICKS}
use Rattle.yasir_ticks.specs.declared.tick.Tick.{Tick}
use Rattle.line_rules.specs.Rules.{Rules}
use Rattle.rtu_frame.specs.Rules.{rtu_rules}
use Rattle.dnp_link_frame.specs.Rules.{dnp_rules}
use Rattle.device_model.specs.Frames.{FrameRead}
use Rattle.device_model.specs.RtuReads.{rtu_reads}
use Rattle.device_model.specs.RtuFamily.{rtu_family_reads}
use Rattle.device_model.specs.DnpReads.{dnp_reads}
use Rattle.device_model.specs.HuntFamily.{dnp_family_reads}

-- the Modbus RTU device, the DNP3 device, and the members of both families
pub data StatedDevice : Type 0 where
  rtu : StatedDevice
  dnp : StatedDevice
  rtu_member : (cut gap : ℕ) → StatedDevice
  dnp_member : (cut : ℕ) → StatedDevice

-- the rules of the protocol whose frames the device reads
abbrev pub stated_rules : StatedDevice → Rules
stated_rules rtu = rtu_rules
stated_rules dnp = dnp_rules
stated_rules (rtu_member cut gap) = rtu_rules
stated_rules (dnp_member cut) = dnp_rules

-- the frames that the device reads from a line
abbrev pub stated_reads : StatedDevice → List Tick → List FrameRead
stated_reads rtu = rtu_reads
stated_reads dnp = dnp_reads
stated_reads (rtu_member cut gap) = rtu_family_reads cut gap
stated_reads (dnp_member cut) = dnp_family_reads cut

-- how many silent ticks must follow a frame before the device reads it
abbrev pub stated_silence : StatedDevice → ℕ
stated_silence rtu = T3_5_TICKS
stated_silence dnp = 0
stated_silence (rtu_member cut gap) = cut
stated_silence (dnp_member cut) = 0

-- Holds of the two devices that are no members of a family. It holds of a Modbus RTU member that
-- ends a burst at `cut` silent ticks in a row, from 2 up to `most`, and allows one of them or more
-- inside a frame. It holds of a DNP3 member that forgets what it has taken at two or more silent
-- ticks in a row, or ignores silence.
abbrev pub IsStatedWithin : ℕ → StatedDevice → Type 0
IsStatedWithin most rtu = Unit {0}
IsStatedWithin most dnp = Unit {0}
IsStatedWithin most (rtu_member cut gap) = (2 ≤ cut) × (cut ≤ most) × (1 ≤ gap)
IsStatedWithin most (dnp_member cut) = (cut ≡ 0) ⊎ (2 ≤ cut)

-- the member of a family that the device is
abbrev pub member_of : StatedDevice → StatedDevice
member_of rtu = rtu_member T3_5_TICKS 1
member_of dnp = dnp_member 0
member_of (rtu_member cut gap) = rtu_member cut gap
member_of (dnp_member cut) = dnp_member cut

-- How many bytes a burst of the protocol can lack: none in Modbus RTU, in which no header says a
-- size, and in DNP3 those after the header of the longest frame.
abbrev pub stated_lack : StatedDevice → ℕ
stated_lack rtu = 0
stated_lack dnp = 282
stated_lack (rtu_member cut gap) = 0
stated_lack (dnp_member cut) = 282
