-- A whole packet on a link: a numbered frame with its trailer.
use Rattle.std.specs.Prelude.{◌≡◌, ℕ, ◌+◌, ◌<◌, ◌≤◌, true, ◌++◌, map, take}
use Rattle.yasir_ticks.specs.Ticks.{silent}
use Rattle.yasir_ticks.specs.Bursts.{Burst}
use Rattle.yasir_ticks.specs.declared.tick.Tick.TheVariants.{Byte}
use Rattle.line_rules.specs.Rules.{Rules}
use Rattle.frame_ending.specs.LiveBytes.{live_bytes}
use Rattle.link_format.specs.Profile.{Profile, pause_len, trailer_len, trailer, words}
use Rattle.link_box.specs.Verdicts.{CheckState, after_live}

-- Holds if the burst is a packet that finds the receiver free. Its live bytes are a frame, and a
-- pause and the trailer of this number follow them. The number is within the limit, and above the
-- floor by at most the count of words, so that it is the full number of its word.
pub record IsPacket (profile : Profile) (rules : Rules) (s : CheckState) (d : Burst) (number : ℕ) :
    Type 0 where
  pub framed : rules.is_frame (live_bytes rules d) ≡ true
  pub trailed : take (pause_len + trailer_len profile) (after_live rules d)
      ≡ silent pause_len ++ map (λ b. Byte b) (trailer profile number (live_bytes rules d))
  pub free : s.earliest_start ≤ d.start
  pub above : s.floor < number
  pub near : number ≤ s.floor + words profile
  pub within : number ≤ profile.limit
