-- What a device behind the receiver reads.
use Rattle.std.specs.Prelude.{◌≡◌, ℕ, ◌+◌, ◌≤◌, List, ◌++◌, map}
use Rattle.yasir_ticks.specs.Ticks.{silent}
use Rattle.yasir_ticks.specs.declared.tick.Tick.{Tick}
use Rattle.line_rules.specs.Rules.{Rules}
use Rattle.device_model.specs.Frames.{FrameRead}
use Rattle.frame_ending.specs.Longer.{Begins}
use Rattle.link_format.specs.Profile.{Profile, delay}
use Rattle.link_format.specs.NumberedFrame.{NumberedFrame}
use Rattle.link_box.specs.Checking.{passed, received_line}

-- a passed frame as the device reads it, the receiver's delay later
abbrev pub delivered : Profile → NumberedFrame → FrameRead
delivered profile f = record { start = delay profile + f.start; frame = f.frame }

-- the frames that pass of this link, as the device reads them
abbrev pub delivered_of : Profile → Rules → ℕ → List Tick → List FrameRead
delivered_of profile rules floor link = map (delivered profile) (passed profile rules floor link)

-- Whatever is on the link so far, a device that reads a line as `reads` says has read a front of
-- the frames that have passed, each as late as the receiver is, and nothing else. Once silence
-- follows for the delay and the `ends` ticks that end a frame, it has read all of them.
pub record ReadsWhatPassed (rules : Rules) (reads : List Tick → List FrameRead) (ends : ℕ)
    (profile : Profile) (floor : ℕ) (link : List Tick) : Type 0 where
  pub prefix : Begins (reads (received_line profile rules floor link))
      (delivered_of profile rules floor link)
  pub all : (rest : ℕ) → delay profile + ends ≤ rest
      → reads (received_line profile rules floor (link ++ silent rest))
      ≡ delivered_of profile rules floor (link ++ silent rest)
