use Rattle.device_model.specs.{DnpHunted.dnp_hunted, Stated.StatedDevice, Stated.IsStatedWithin}
use Rattle.device_model.specs.Stated.{stated_rules, stated_reads, stated_silence}
use Rattle.device_model.specs.Stated.StatedDevice.{rtu, dnp, rtu_member, dnp_member}
use Rattle.dnp_link_frame.specs.{Rules.dnp_rules, RulesLaws.dnp_headed, RulesLaws.dnp_framed}
use Rattle.spacer_laws.proofs.Spaced.{rtu-spaces_out, family-spaces_out}
use Rattle.spacer_laws.specs.SpacesOut.{SpacesOut}
use Rattle.std.proofs.Common.{ℕ, ◌≤◌, List, suc, arith, inl, refl}
use Rattle.yasir_ticks.specs.declared.tick.Tick.{Tick}
use Rattle.spacer_laws.proofs.laws.frames_are_spaced.Goals as goal

stated-spaces_out : (device : StatedDevice) (gap cap : ℕ) (line : List Tick) → 4 ≤ gap
    → IsStatedWithin gap device
    → SpacesOut (stated_rules device) (stated_reads device) (stated_reads device)
    (stated_silence device) gap cap line
stated-spaces_out rtu gap cap line wide any =
    rtu-spaces_out 4 2 gap (omega arith) wide (omega arith) wide cap line
stated-spaces_out dnp gap cap line wide any =
    family-spaces_out 0x05 0x64 dnp_rules dnp_headed dnp_framed dnp_hunted gap wide 0 (inl refl) cap
    line
stated-spaces_out (rtu_member cut pause) gap cap line wide member =
    rtu-spaces_out cut (suc pause) gap member.0 member.1 (omega arith) wide cap line
stated-spaces_out (dnp_member cut) gap cap line wide member =
    family-spaces_out 0x05 0x64 dnp_rules dnp_headed dnp_framed dnp_hunted gap wide cut member cap
    line

pub returns : goal.returns
returns c = stated-spaces_out
