-- A link that is sent back the way it came, to the receiver of the other direction, under the same
-- key.
use Rattle.std.specs.Prelude.{◌≡◌, ℕ, ◌%◌, List, Contains}
use Rattle.yasir_ticks.specs.declared.tick.Tick.{Tick}
use Rattle.link_format.specs.NumberedFrame.{NumberedFrame}
use Rattle.link_format.specs.Profile.{Profile, words}
use Rattle.receiver_laws.specs.Standing.{StandsOn}

-- the profile with other tags, such as those of the line's other direction
abbrev pub with_tags : Profile → (ℕ → List ℕ → List ℕ) → Profile
with_tags profile other = record profile { tag = other }

-- the frame with another number
abbrev pub numbered_as : ℕ → NumberedFrame → NumberedFrame
numbered_as number f = record f { number = number }

-- Holds if the tags of two directions match for a frame: its tag in one direction, with the sealed
-- number, and its tag in the other, with a number that has the same word.
pub record TagsMatch (profile : Profile) (other : ℕ → List ℕ → List ℕ) (sealed_number number : ℕ)
    (frame : List ℕ) : Type 0 where
  pub same_word : number % words profile ≡ sealed_number % words profile
  pub same_tag : other number frame ≡ profile.tag sealed_number frame

-- Holds if this frame, which passes of a reflected link, was sealed with some number, and its
-- packet with that number is on the link. The other direction's tag for the number with which it
-- passes matches the packet's tag.
pub record IsReflected (profile : Profile) (other : ℕ → List ℕ → List ℕ) (link : List Tick)
    (sealed_ones : List NumberedFrame) (f : NumberedFrame) : Type 0 where
  pub number : ℕ
  pub is_sealed : Contains sealed_ones (numbered_as number f)
  pub stands : StandsOn profile link (numbered_as number f)
  pub match_tags : TagsMatch profile other number f.number f.frame
