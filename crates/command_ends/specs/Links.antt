-- The parts that make up the protocols and profiles of links.
use Rattle.std.specs.Prelude.{◌≡◌, ◌≢◌, ℕ, List, Option, Some, None}
use Rattle.yasir_ticks.specs.declared.tick.Tick.{Tick}
use Rattle.line_rules.specs.Rules.{Rules}
use Rattle.rtu_frame.specs.Rules.{rtu_rules}
use Rattle.dnp_link_frame.specs.Rules.{dnp_rules}
use Rattle.device_model.specs.DnpReads.{dnp_reads}
use Rattle.device_model.specs.Frames.{FrameRead}
use Rattle.device_model.specs.RtuReads.{rtu_reads}
use Rattle.link_format.specs.Profile.{Profile as LinkProfile}
use Rattle.link_format.specs.Setup.{Setup}
use Rattle.link_format.specs.Y18.{y18}
use Rattle.link_format.specs.Y24.{y24}
use Rattle.link_format.specs.declared.dir.Dir.{Dir}
use Rattle.link_format.specs.Tag.{direction_number}
use Rattle.sequence_journal.specs.declared.link.LinkId.{LinkId}
use Rattle.command_ends.specs.declared.link.Profile.{Profile}
use Rattle.command_ends.specs.declared.link.Profile.TheVariants.{Y18, Y24}
use Rattle.command_ends.specs.declared.link.Proto.{Proto}
use Rattle.command_ends.specs.declared.link.Proto.TheVariants.{Rtu, Dnp3}

-- the rules of a protocol
abbrev pub rules_of : Proto → Rules
rules_of Rtu = rtu_rules
rules_of Dnp3 = dnp_rules

-- the label of a protocol
abbrev pub label_of : Proto → ℕ
label_of proto = (rules_of proto).label

-- the frames that the stated device of a protocol reads from a line
abbrev pub device_reads : Proto → List Tick → List FrameRead
device_reads Rtu = rtu_reads
device_reads Dnp3 = dnp_reads

-- the profile of a link, as the definitions have it, from the label of a protocol, the greatest
-- number and the setup of a box
abbrev pub link_profile_of : Profile → ℕ → ℕ → Setup → LinkProfile
link_profile_of Y18 = y18
link_profile_of Y24 = y24

-- how many ticks the receiver of a profile holds each byte back
abbrev pub delay_of : Profile → ℕ
delay_of Y18 = 18
delay_of Y24 = 24

-- a link as its journals name it: the label of its protocol, the number of its direction, and the
-- delay of its profile
abbrev pub link_of : Proto → Profile → Dir → LinkId
link_of proto profile dir = record {
  label = label_of proto;
  dir = direction_number dir;
  profile = delay_of profile;
}

-- how many silent ticks a profile asks for between frames that will be sealed: they have room for a
-- pause, a trailer, and the silence that ends a frame
abbrev pub gap_of : Profile → ℕ
gap_of Y18 = 21
gap_of Y24 = 27

-- Holds if the value has this number, or if there is no value, and none has this number.
module _ {A : Type 0} (number_of : A → ℕ) where
  abbrev pub HasKnownNumber : ℕ → Option A → Type 0
  HasKnownNumber number None = (a : A) → number ≢ number_of a
  HasKnownNumber number (Some a) = number ≡ number_of a
