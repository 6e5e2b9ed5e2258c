-- A profile says what follows a frame on the link: a pause of three silent ticks, and then the
-- trailer. The trailer is first the word, which is the low bytes of the frame's number, and then
-- the tag. This layout is the project's own.
use Rattle.std.specs.Prelude.{◌≡◌, ℕ, ◌+◌, ◌^◌, ◌≤◌, Bool, true, false, List, ◌++◌, length}
use Rattle.std.specs.Prelude.{replicate}
use Rattle.std.specs.Int.{bytes_high_first}
use Rattle.byteorder.specs.Endian.{big_number}
use Rattle.line_rules.specs.declared.line_rules.LineRules.{Ghosts as LineRules}
use Rattle.link_format.specs.declared.tag.Mac.{Ghosts as Mac}
use Rattle.link_format.specs.Tag.{tag}
use Rattle.link_format.specs.Setup.{Setup}

pub record Profile : Type 0 where
  -- how many bytes a word has
  pub word_len : ℕ
  -- how many bytes a tag has, and the tag of a number and a frame
  pub tag_len : ℕ
  pub tag : ℕ → List ℕ → List ℕ
  -- the greatest number
  pub limit : ℕ

-- the profile of a protocol and a MAC, with words of this many bytes and numbers up to a limit, for
-- a box with this setup
abbrev pub profile_of : {R M : Type 0} → LineRules R → Mac M → ℕ → ℕ → Setup → Profile
profile_of proto macs word_len limit setup = record {
  word_len = word_len;
  tag_len = macs.TAG;
  tag = λ number frame. tag macs.tag_of setup.key proto.rules.label setup.direction frame number;
  limit = limit;
}

-- Holds if a word may have n bytes: at least one, and at most four.
abbrev pub IsWordLen : ℕ → Type 0
IsWordLen n = (1 ≤ n) × (n ≤ 4)

-- Holds if each tag has as many bytes as the profile says.
pub record HasTags (profile : Profile) : Type 0 where
  pub sized : (number : ℕ) (frame : List ℕ) → length (profile.tag number frame) ≡ profile.tag_len

-- how many words there are: two numbers that are this far apart have the same word
abbrev pub words : Profile → ℕ
words profile = 256 ^ profile.word_len

-- the word of a trailer of these bytes
abbrev pub word_of : Profile → List ℕ → ℕ
word_of profile bytes = big_number profile.word_len bytes

-- the trailer of a number and a frame: the low bytes of the number, high byte first, and the tag
abbrev pub trailer : Profile → ℕ → List ℕ → List ℕ
trailer profile number frame = bytes_high_first profile.word_len number ++ profile.tag number frame

-- how many bytes a trailer has
abbrev pub trailer_len : Profile → ℕ
trailer_len profile = profile.word_len + profile.tag_len

-- how many silent ticks are between a frame and its trailer
abbrev pub pause_len : ℕ
pause_len = 3

-- what follows a frame, tick by tick: `false` is silence, and `true` is a byte
abbrev pub trailer_shape : Profile → List Bool
trailer_shape profile = replicate pause_len false ++ replicate (trailer_len profile) true

-- how many ticks the receiver holds a byte back: by then the pause and the whole trailer have come,
-- and the verdict is known
abbrev pub delay : Profile → ℕ
delay profile = pause_len + trailer_len profile + 1
