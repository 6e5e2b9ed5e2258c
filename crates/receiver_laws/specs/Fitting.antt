-- What the laws ask of a profile.
use Rattle.std.specs.Prelude.{◌≤◌, ℕ}
use Rattle.line_rules.specs.Rules.{Rules}
use Rattle.link_format.specs.Profile.{Profile, HasTags}
use Rattle.link_format.specs.Setup.{Setup}
use Rattle.link_format.specs.Y18.{y18}
use Rattle.link_format.specs.Y24.{y24}
use Rattle.link_box.specs.Timely.{IsTimely}

-- Holds if the profile's tags have its tag length, a word has at least one byte, and a header of
-- the protocol, with at most one silent tick between its bytes, has come before its first byte must
-- leave.
pub record IsFit (profile : Profile) (rules : Rules) : Type 0 where
  pub tags : HasTags profile
  pub word : 1 ≤ profile.word_len
  pub timely : IsTimely profile rules

-- the profiles of the program
pub data StatedProfile : Type 0 where
  of_y18 : StatedProfile
  of_y24 : StatedProfile

-- the profile of a link, by the label of its protocol, the greatest number and the setup of a box
abbrev pub stated_profile : StatedProfile → ℕ → ℕ → Setup → Profile
stated_profile of_y18 = y18
stated_profile of_y24 = y24
