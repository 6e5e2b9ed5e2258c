-- A device reads only frames that were sealed, unless a frame that passed is forged.
use Rattle.std.specs.Prelude.{◌≡◌, ℕ, List, [], map}
use Rattle.yasir_ticks.specs.declared.tick.Tick.{Tick}
use Rattle.line_rules.specs.Rules.{Rules}
use Rattle.device_model.specs.Frames.{FrameRead}
use Rattle.link_format.specs.NumberedFrame.{NumberedFrame}
use Rattle.link_format.specs.Profile.{Profile}
use Rattle.link_box.specs.Sealing.{sealed}
use Rattle.link_box.specs.Checking.{passed, received_line}
use Rattle.receiver_laws.specs.Accounted.{IsSubsequence, IsAccountedFor, forged}
use Rattle.receiver_laws.specs.Reading.{ReadsWhatPassed}

-- the bytes of frames that were read, in their order
abbrev pub bytes_read : List FrameRead → List (List ℕ)
bytes_read reads = map (λ f. f.frame) reads

-- the bytes of frames that were sealed, or that passed, in their order
abbrev pub bytes_sealed : List NumberedFrame → List (List ℕ)
bytes_sealed frames = map (λ f. f.frame) frames

-- A transmitter has sealed frames of a device's line. Whatever happened to them on the link, a
-- device behind the receiver that reads a line as `reads` says has read a subsequence of the sealed
-- frames, unless a frame that passed is forged. It reads only frames that have passed, and numbers
-- rise on both sides.
pub record ReadsWhatWasSealed (rules : Rules) (reads : List Tick → List FrameRead) (ends : ℕ)
    (profile : Profile) (seal_floor check_floor : ℕ) (line link : List Tick) : Type 0 where
  pub only_sealed :
      forged (sealed profile rules seal_floor line) (passed profile rules check_floor link) ≡ []
      → IsSubsequence (bytes_read (reads (received_line profile rules check_floor link)))
      (bytes_sealed (sealed profile rules seal_floor line))
  pub only_passed : ReadsWhatPassed rules reads ends profile check_floor link
  pub accounted : IsAccountedFor seal_floor check_floor (sealed profile rules seal_floor line)
      (passed profile rules check_floor link)
