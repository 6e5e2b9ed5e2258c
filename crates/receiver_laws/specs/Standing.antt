-- What is on the link for each frame that passes.
use Rattle.std.specs.Prelude.{◌≡◌, ℕ, ◌≤◌, true, List, ◌++◌, length, map, All}
use Rattle.yasir_ticks.specs.Ticks.{silent, bytes_in, AreTicks}
use Rattle.yasir_ticks.specs.Bursts.{Burst}
use Rattle.yasir_ticks.specs.BurstsOf.{IsContiguous}
use Rattle.yasir_ticks.specs.declared.TheConstants.{T1_5_TICKS}
use Rattle.yasir_ticks.specs.declared.tick.Tick.{Tick}
use Rattle.yasir_ticks.specs.declared.tick.Tick.TheVariants.{Byte}
use Rattle.line_rules.specs.Rules.{Rules}
use Rattle.frame_ending.specs.LiveBytes.{live_bytes}
use Rattle.sequence_journal.specs.Uptimes.{RiseFrom}
use Rattle.link_format.specs.Profile.{Profile, pause_len, trailer}
use Rattle.link_format.specs.NumberedFrame.{NumberedFrame, numbers_of}

-- the live bytes of a burst, with a number
abbrev pub numbered_frame : Rules → Burst → ℕ → NumberedFrame
numbered_frame rules d number = record {
  number = number;
  start = d.start;
  frame = live_bytes rules d;
}

-- Holds if the packet of a frame is on the link: from the frame's start on its ticks, with no two
-- silent ones in a row, then a pause, and then the word of the number and the tag of the number and
-- the frame.
pub record StandsOn (profile : Profile) (link : List Tick) (f : NumberedFrame) : Type 0 where
  pub front : List Tick
  pub body : List Tick
  pub back : List Tick
  pub is : link ≡ front ++ (body ++ (silent pause_len
      ++ (map (λ b. Byte b) (trailer profile f.number f.frame) ++ back)))
  pub begins : length front ≡ f.start
  pub spells : bytes_in body ≡ f.frame
  pub contiguous : IsContiguous T1_5_TICKS body

-- What holds for the frames of a link that have passed: their numbers rise from the floor, none is
-- above the limit, and they are frames of the protocol. The packet of each is on the link, if the
-- link's bytes are below 256 and a word has at least one byte.
pub record HavePassed (profile : Profile) (rules : Rules) (floor : ℕ) (link : List Tick)
    (frames : List NumberedFrame) : Type 0 where
  pub rise : RiseFrom floor (numbers_of frames)
  pub within : All (λ (f : NumberedFrame). f.number ≤ profile.limit) frames
  pub framed : All (λ (f : NumberedFrame). rules.is_frame f.frame ≡ true) frames
  pub stand : AreTicks link → 1 ≤ profile.word_len → All (StandsOn profile link) frames
