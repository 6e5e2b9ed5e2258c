-- Devices that hunt, and begin anew after a stated silence: what they read from a line, and what
-- they keep.
use Rattle.std.specs.Prelude.{◌≡◌, ℕ, zero, suc, List, [], length, flat_map, Option}
use Rattle.std.specs.Prelude.{Some, None}
use Rattle.line_rules.specs.Rules.{Rules}
use Rattle.line_rules.specs.declared.line_rules.LineRules.{Ghosts as LineRules}
use Rattle.yasir_ticks.specs.Bursts.{Burst}
use Rattle.yasir_ticks.specs.declared.tick.Tick.{Tick}
use Rattle.dnp_link_frame.specs.Rules.{dnp_rules}
use Rattle.device_model.specs.declared.hunting_family.HuntingFamily.{HuntingFamily}
use Rattle.device_model.specs.Frames.{FrameRead}
use Rattle.device_model.specs.Hunt.{Timed, timed, hunt, hunt_line, hunt_anew}
use Rattle.device_model.specs.HuntingDevice.{HeardBy}
use Rattle.device_model.specs.Parted.{IsParted}

module _ (first second : ℕ) (rules : Rules) where
  -- the frames that are read from each of these bursts by itself
  abbrev pub hunt_bursts : List Burst → List FrameRead
  hunt_bursts ds = flat_map (λ (d : Burst). hunt first second rules 0 (timed d.start d.body)) ds

  -- What a device reads from a line if `cut` or more silent ticks together end what it has taken,
  -- so that it hunts anew with the next byte. With a cut of 0 it ignores silence.
  abbrev pub hunt_family : ℕ → List Tick → List FrameRead
  hunt_family zero line = hunt_line first second rules line
  hunt_family (suc cut) line = hunt_anew first second rules (suc cut) 0 line

-- what a DNP3 device with this cut reads from a line
abbrev pub dnp_family_reads : ℕ → List Tick → List FrameRead
dnp_family_reads cut line = hunt_family 0x05 0x64 dnp_rules cut line

-- the bytes of the running burst, if there is one
abbrev pub timed_in : Option Burst → List Timed
timed_in None = []
timed_in (Some d) = timed d.start d.body

-- Holds if the line is parted into closed bursts and the running one, `frames` were read from the
-- closed ones, and `since` are the bytes of the running one.
pub record IsAnew (first second : ℕ) (rules : Rules) (cut quiet : ℕ) (line : List Tick)
    (frames : List FrameRead) (since : List Timed) : Type 0 where
  pub closed : List Burst
  pub running : Option Burst
  pub parted : IsParted cut quiet line closed running
  pub frames_are : frames ≡ hunt_bursts first second rules closed
  pub since_is : since ≡ timed_in running

-- Holds if `since` are the bytes that have come since the hunt last began anew, and `frames` were
-- read before that. With a cut of 0 the hunt never begins anew.
abbrev pub IsSince : ℕ → ℕ → Rules → ℕ → ℕ → List Tick → List FrameRead → List Timed → Type 0
IsSince first second rules zero quiet line frames since =
    (quiet ≡ 0) × (frames ≡ []) × (since ≡ timed 0 line)
IsSince first second rules (suc cut) quiet line frames since =
    IsAnew first second rules (suc cut) quiet line frames since

module _ {R : Type 0} (proto : LineRules R) (first second : ℕ) where
  -- Holds if the device, which has this cut, has heard this line.
  pub record FamilyStandsFor (cut : ℕ) (value : HuntingFamily R) (line : List Tick) : Type 0 where
    pub cut_is : value.silence.cut ≡ cut
    pub count : value.device.ticks ≡ length line
    pub frames : List FrameRead
    pub since : List Timed
    pub is : IsSince first second proto.rules cut value.silence.quiet line frames since
    pub heard : HeardBy proto first second value.device since

-- how many ticks the device has heard
abbrev pub family_ticks : {R : Type 0} → HuntingFamily R → ℕ
family_ticks value = value.device.ticks

-- the bytes that the device holds or lends
abbrev pub family_lent : {R : Type 0} → HuntingFamily R → List ℕ
family_lent value = value.device.bytes.items
