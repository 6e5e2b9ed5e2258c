-- When a receiver works again by itself: an attacker had the link and has let go of it, and from
-- then on the link carries what the transmitter sends.
use Rattle.std.specs.Prelude.{◌≡◌, ℕ, ◌+◌, ◌-◌, ◌≤◌, ◌<◌, List, ◌++◌, length, take, drop}
use Rattle.std.specs.Prelude.{slice_index_or, All, Contains}
use Rattle.yasir_ticks.specs.Ticks.{silent}
use Rattle.yasir_ticks.specs.Bursts.{Burst, bursts}
use Rattle.yasir_ticks.specs.declared.TheConstants.{T3_5_TICKS}
use Rattle.yasir_ticks.specs.declared.tick.Tick.{Tick}
use Rattle.yasir_ticks.specs.declared.tick.Tick.TheVariants.{Silent}
use Rattle.line_rules.specs.Bytes.{AreBytes}
use Rattle.line_rules.specs.Rules.{Rules, lacking_of}
use Rattle.link_format.specs.NumberedFrame.{NumberedFrame, last_number}
use Rattle.link_format.specs.Profile.{Profile, words, delay}
use Rattle.link_box.specs.Sealing.{link_line, sealed}
use Rattle.link_box.specs.Checking.{passed}
use Rattle.receiver_laws.specs.Standing.{StandsOn}

-- the frames that the transmitter seals of this line once its last burst is closed
abbrev pub all_sealed : Profile → Rules → ℕ → List Tick → List NumberedFrame
all_sealed profile rules floor line = sealed profile rules floor (line ++ silent T3_5_TICKS)

-- the receiver's floor after these ticks of the link
abbrev pub floor_after : Profile → Rules → ℕ → List Tick → ℕ
floor_after profile rules floor link = last_number floor (passed profile rules floor link)

-- Holds if this burst of the link is a packet: it starts at the tick at which one of these sealed
-- frames starts.
pub record BeginsPacket (frames : List NumberedFrame) (d : Burst) : Type 0 where
  pub frame : NumberedFrame
  pub is_sealed : Contains frames frame
  pub starts : frame.start ≡ d.start

-- the first of the four silent ticks that end with this one. The start of a line counts as quiet,
-- so for a tick before tick 3 it is tick 0.
abbrev pub first_quiet : ℕ → ℕ
first_quiet tick = tick + 1 - T3_5_TICKS

-- Holds if the link is left alone from a tick on. The four ticks that end with this one are silent,
-- as between two bursts, and from the first of them on the link carries what the transmitter makes
-- of the device's line. Each burst that the transmitter starts after this tick is a packet, and its
-- number is above the floor that the receiver has after this tick.
pub record IsLeftAlone (profile : Profile) (rules : Rules) (seal_floor check_floor : ℕ)
    (line link : List Tick) (tick : ℕ) : Type 0 where
  pub untouched : drop (first_quiet tick) link
      ≡ drop (first_quiet tick) (link_line profile rules seal_floor line)
  pub quiet : (i : ℕ) → first_quiet tick ≤ i → i ≤ tick → slice_index_or link i Silent ≡ Silent
  pub packets : All (λ (d : Burst). tick < d.start
      → BeginsPacket (all_sealed profile rules seal_floor line) d)
      (bursts (link_line profile rules seal_floor line))
  pub new : All (λ (f : NumberedFrame). tick < f.start
      → floor_after profile rules check_floor (take (tick + 1) link) < f.number)
      (all_sealed profile rules seal_floor line)

-- Holds if bytes for which there is room never lack more than `most` of those that their header
-- says.
pub record LackAtMost (rules : Rules) (most : ℕ) : Type 0 where
  pub lack : (x : List ℕ) → AreBytes x → length x ≤ rules.room x → lacking_of rules x ≤ most

-- Holds if a packet is due. It starts late enough: a burst that was cut off before the first of the
-- silent ticks has left by then. It is on the link whole, and its number is near enough to the
-- receiver's floor before it.
pub record IsDue (profile : Profile) (rules : Rules) (seal_floor check_floor : ℕ)
    (line link : List Tick) (tick most : ℕ) (f : NumberedFrame) : Type 0 where
  pub late : first_quiet tick + delay profile + most ≤ f.start
  pub whole : StandsOn profile (link_line profile rules seal_floor line) f
  pub near : f.number ≤ floor_after profile rules check_floor (take f.start link) + words profile

-- Each packet that is due passes.
pub record Recovers (profile : Profile) (rules : Rules) (seal_floor check_floor : ℕ)
    (line link : List Tick) (tick most : ℕ) : Type 0 where
  pub passes : All (λ (f : NumberedFrame).
      IsDue profile rules seal_floor check_floor line link tick most f
      → Contains (passed profile rules check_floor link) f)
      (all_sealed profile rules seal_floor line)
