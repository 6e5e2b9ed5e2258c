-- What a transmitter and a receiver make of a device's line.
use Rattle.std.specs.Prelude.{◌≡◌, ℕ, ◌-◌, List, ◌++◌}
use Rattle.yasir_ticks.specs.Ticks.{silent}
use Rattle.yasir_ticks.specs.declared.tick.Tick.{Tick}
use Rattle.rtu_frame.specs.Rules.{rtu_rules}
use Rattle.link_format.specs.declared.dir.Dir.TheVariants.{Ab}
use Rattle.link_format.specs.Profile.{Profile}
use Rattle.link_format.specs.Setup.{setup_of}
use Rattle.link_format.specs.Y18.{y18}
use Rattle.sequence_journal.specs.declared.numbers.TheConstants.{LIMIT}
use Rattle.link_box.specs.Sealing.{link_line}
use Rattle.link_box.specs.Checking.{received_line}
use Rattle.receiver_laws.specs.Untouched.{IsUntouchedLink}

-- the profile y18 for Modbus RTU with this key, on the way from a to b
abbrev pub profile_with : List ℕ → Profile
profile_with key = y18 rtu_rules.label LIMIT (setup_of key Ab 0)

-- Holds if the link is what the transmitter makes of the line, and what is received is what the
-- receiver makes of the link, both with new journals. If frames are spaced and silence follows
-- them, all of them come as they were sent, 18 ticks later.
pub record Carries (key : List ℕ) (line link received : List Tick) : Type 0 where
  pub seals : link ≡ link_line (profile_with key) rtu_rules 0 line
  pub checks : received ≡ received_line (profile_with key) rtu_rules 0 link
  pub delivers : (frames : List Tick) (more : ℕ) → line ≡ frames ++ silent more
      → IsUntouchedLink (profile_with key) rtu_rules 0 0 frames more
      → received ≡ silent 18 ++ (frames ++ silent (more - 18))
