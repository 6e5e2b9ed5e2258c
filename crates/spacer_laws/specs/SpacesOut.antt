-- What is on a spaced line, at every moment.
use Rattle.std.specs.Prelude.{◌≡◌, ℕ, ◌+◌, ◌-◌, ◌≤◌, nat_le, nat_lt, true, List, [], ◌∷◌, length}
use Rattle.std.specs.Prelude.{map}
use Rattle.std.specs.Prelude.{take, All, if◌then◌else◌}
use Rattle.std.specs.List.{filter}
use Rattle.yasir_ticks.specs.Bursts.{Burst, bursts, end_of}
use Rattle.yasir_ticks.specs.declared.tick.Tick.{Tick}
use Rattle.yasir_ticks.specs.declared.tick.Tick.TheVariants.{Byte}
use Rattle.line_rules.specs.Rules.{Rules}
use Rattle.device_model.specs.Frames.{FrameRead}
use Rattle.device_model.specs.RtuReads.{frame_in}
use Rattle.line_spacer.specs.Spacing.{accepted_of, spaced_line}

-- Holds if a device that reads a line as `reads` says reads only frames of the protocol.
abbrev pub ReadsFrames : Rules → (List Tick → List FrameRead) → Type 0
ReadsFrames rules reads =
    (line : List Tick) → All (λ (f : FrameRead). rules.is_frame f.frame ≡ true) (reads line)

-- Holds if the burst is a frame of the protocol, with a byte in each tick.
pub record IsSent (rules : Rules) (d : Burst) : Type 0 where
  pub frame : List ℕ
  pub is : d.body ≡ map (λ b. Byte b) frame
  pub framed : rules.is_frame frame ≡ true

-- Holds if each of these bursts is a frame, the first one begins in tick n or later, and each of
-- the others begins at least `gap` silent ticks after the one before it.
abbrev pub AreApart : Rules → ℕ → ℕ → List Burst → Type 0
AreApart rules gap n [] = Unit {0}
AreApart rules gap n (d ∷ ds) =
    (n ≤ d.start) × IsSent rules d × AreApart rules gap (end_of d + gap) ds

-- the ticks of these bursts that come before tick m
abbrev pub within : ℕ → List Burst → List Burst
within m [] = []
within m (d ∷ ds) =
    if nat_lt d.start m
    then record { start = d.start; body = take (m - d.start) d.body } ∷ within m ds
    else []

-- the frames of those bursts whose end is at least `ends` ticks before tick m
abbrev pub frames_by : ℕ → ℕ → List Burst → List FrameRead
frames_by ends m ds = map frame_in (filter (λ d. nat_le (end_of d + ends) m) ds)

-- Holds if the spaced line of a line carries the accepted frames and nothing else. They are frames
-- of the protocol, at least `gap` silent ticks apart, and the bursts of the spaced line are these
-- frames, as far as they have been sent. A device behind the spacer that reads a line as `reads`
-- says reads each of them `ends` ticks after its end, and nothing else.
pub record SpacesOut (rules : Rules) (heard reads : List Tick → List FrameRead)
    (ends gap cap : ℕ) (line : List Tick) : Type 0 where
  pub apart : AreApart rules gap 0 (accepted_of heard gap cap line)
  pub bursts_are : bursts (spaced_line heard gap cap line)
      ≡ within (length line) (accepted_of heard gap cap line)
  pub read : reads (spaced_line heard gap cap line)
      ≡ frames_by ends (length line) (accepted_of heard gap cap line)
