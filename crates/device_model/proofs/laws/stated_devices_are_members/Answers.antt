use Rattle.device_model.specs.Stated.{StatedDevice, stated_reads, member_of}
use Rattle.device_model.specs.Stated.StatedDevice.{rtu, dnp, rtu_member, dnp_member}
use Rattle.std.proofs.Common.{◌≡◌, List, refl}
use Rattle.yasir_ticks.specs.declared.tick.Tick.{Tick}
use Rattle.device_model.proofs.laws.stated_devices_are_members.Goals as goal

are-members : (device : StatedDevice) (line : List Tick)
    → stated_reads device line ≡ stated_reads (member_of device) line
are-members rtu line = refl
are-members dnp line = refl
are-members (rtu_member cut gap) line = refl
are-members (dnp_member cut) line = refl

pub returns : goal.returns
returns c = are-members
