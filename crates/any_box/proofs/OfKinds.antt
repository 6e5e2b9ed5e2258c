-- For each kind of box, the other line is as long as the line, and no note falls into no line.
use Rattle.any_box.specs.Boxes.{definition_of, definition_by}
use Rattle.any_box.specs.contracts.any_box.AnyBoxDefinedBox.TheImpl.{ghosts as boxes}
use Rattle.any_box.specs.declared.kind.{Kind.Kind, Part.Part}
use Rattle.any_box.specs.declared.kind.Part.TheVariants.{Sealer, Checker}
use Rattle.check_receiver.specs.Boxed.{check_walking}
use Rattle.command_ends.specs.declared.link.Profile.{Profile, TheVariants.Y18, TheVariants.Y24}
use Rattle.command_ends.specs.declared.link.Proto.{Proto}
use Rattle.command_ends.specs.declared.link.Proto.TheVariants as Of
use Rattle.dnp_link_frame.specs.contracts.dnp.DnpLineRules.TheImpl.{ghosts as dnp_of}
use Rattle.dnp_link_frame.specs.declared.dnp.Dnp.{Dnp}
use Rattle.frame_ending.proofs.Longer.{length-line_of}
use Rattle.line_rules.specs.declared.line_rules.LineRules.{Ghosts as LineRules}
use Rattle.link_box.specs.Walking.{Walking, other_line}
use Rattle.link_format.specs.Setup.{Setup}
use Rattle.link_format.specs.contracts.macs.HmacSha1Mac.TheImpl.{ghosts as short_of}
use Rattle.link_format.specs.contracts.macs.HmacSha256Mac.TheImpl.{ghosts as long_of}
use Rattle.link_format.specs.declared.{macs.HmacSha1.HmacSha1, macs.HmacSha256.HmacSha256}
use Rattle.link_format.specs.declared.tag.Mac.{Ghosts as Mac}
use Rattle.rtu_frame.specs.contracts.rtu.RtuLineRules.TheImpl.{ghosts as rtu_of}
use Rattle.rtu_frame.specs.declared.rtu.Rtu.{Rtu}
use Rattle.seal_transmitter.specs.Boxed.{seal_walking}
use Rattle.std.proofs.Common.{◌≡◌, List, [], length, refl}
use Rattle.yasir_ticks.specs.{Bursts.bursts_from, declared.tick.Tick.Tick}

length-walked : {A : Type 0} (walking : Walking A) (setup : Setup) (line : List Tick)
    → length (other_line walking setup line) ≡ length line
length-walked walking setup line =
    length-line_of (walking.walker setup) (walking.begun setup) line

module _ (rtu : LineRules Rtu) (dnp : LineRules Dnp) (short : Mac HmacSha1)
    (long : Mac HmacSha256) where
  length-by : (part : Part) (proto : Proto) (profile : Profile) (setup : Setup) (line : List Tick)
      → length ((definition_by rtu dnp short long part proto profile).other setup line)
      ≡ length line
  length-by Sealer Of.Rtu Y18 setup line = length-walked (seal_walking rtu short 2) setup line
  length-by Sealer Of.Dnp3 Y18 setup line = length-walked (seal_walking dnp short 2) setup line
  length-by Checker Of.Rtu Y18 setup line = length-walked (check_walking rtu short 2) setup line
  length-by Checker Of.Dnp3 Y18 setup line = length-walked (check_walking dnp short 2) setup line
  length-by Sealer Of.Rtu Y24 setup line = length-walked (seal_walking rtu long 4) setup line
  length-by Sealer Of.Dnp3 Y24 setup line = length-walked (seal_walking dnp long 4) setup line
  length-by Checker Of.Rtu Y24 setup line = length-walked (check_walking rtu long 4) setup line
  length-by Checker Of.Dnp3 Y24 setup line = length-walked (check_walking dnp long 4) setup line

  length-defined : (kind : Kind) (setup : Setup) (line : List Tick)
      → length ((definition_of rtu dnp short long kind).other setup line) ≡ length line
  length-defined kind setup line = length-by kind.part kind.proto kind.profile setup line

  no-notes-by : (part : Part) (proto : Proto) (profile : Profile) (setup : Setup)
      → (definition_by rtu dnp short long part proto profile).notes setup [] ≡ []
  unfolding bursts_from
  no-notes-by Sealer Of.Rtu Y18 setup = refl
  no-notes-by Sealer Of.Dnp3 Y18 setup = refl
  no-notes-by Checker Of.Rtu Y18 setup = refl
  no-notes-by Checker Of.Dnp3 Y18 setup = refl
  no-notes-by Sealer Of.Rtu Y24 setup = refl
  no-notes-by Sealer Of.Dnp3 Y24 setup = refl
  no-notes-by Checker Of.Rtu Y24 setup = refl
  no-notes-by Checker Of.Dnp3 Y24 setup = refl

  no-notes-defined : (kind : Kind) (setup : Setup)
      → (definition_of rtu dnp short long kind).notes setup [] ≡ []
  no-notes-defined kind setup = no-notes-by kind.part kind.proto kind.profile setup

-- What the laws of the eight boxes need of their definitions.
pub as-long : (kind : Kind) (setup : Setup) (line : List Tick)
    → length ((boxes.defined kind).other setup line) ≡ length line
as-long = length-defined rtu_of dnp_of short_of long_of

pub none-noted : (kind : Kind) (setup : Setup) → (boxes.defined kind).notes setup [] ≡ []
none-noted = no-notes-defined rtu_of dnp_of short_of long_of
