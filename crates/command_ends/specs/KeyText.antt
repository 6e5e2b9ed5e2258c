-- Key text: the hex digits of a key of 16 to 64 bytes, and then an ending. The profile fixes the
-- sizes and the endings.
use Rattle.std.specs.Prelude.{◌≡◌, ℕ, ◌<◌, ◌≤◌, ◌⊎◌, List, [], ◌++◌, length, take, Option, Result}
use Rattle.std.specs.Prelude.{Ok, Err, codes}
use Rattle.std.specs.Io.KnownBytes.{prepend_known, IsAtEnd}
use Rattle.hex.specs.Hex.{decode_of, IsBytes}
use Rattle.yasir_io.specs.Causes.{Rose}
use Rattle.command_ends.specs.declared.key_text.KeyError.{KeyError}
use Rattle.command_ends.specs.declared.key_text.KeyError.TheVariants.{Fault, Bad}

-- what may follow the digits: nothing, LF, or CR LF
abbrev pub IsKeyEnding : List ℕ → Type 0
IsKeyEnding ending = (ending ≡ []) ⊎ ((ending ≡ codes "\n") ⊎ (ending ≡ codes "\r\n"))

-- Holds if the text is the digits of this key, of either case, and an ending.
pub record IsKeyText (text key : List ℕ) : Type 0 where
  pub digits : List ℕ
  pub ending : List ℕ
  pub all : text ≡ digits ++ ending
  pub ends : IsKeyEnding ending
  pub decodes : decode_of digits ≡ Ok key
  pub bytes : IsBytes key
  pub long : 16 ≤ length key
  pub short : length key ≤ 64

-- Holds if the bytes begin some key text.
abbrev pub BeginsKey : List ℕ → Type 0
BeginsKey front = (more : List ℕ) × (key : List ℕ) × IsKeyText (front ++ more) key

-- Holds if the bytes begin some ending.
abbrev pub BeginsEnding : List ℕ → Type 0
BeginsEnding front = (more : List ℕ) × IsKeyEnding (front ++ more)

-- Holds if the first `place` bytes of the text are its longest front of a kind.
pub record IsLongestFront (Kind : List ℕ → Type 0) (text : List ℕ) (place : ℕ) : Type 0 where
  pub within : place ≤ length text
  pub begins : Kind (take place text)
  pub longest : (n : ℕ) → n ≤ length text → Kind (take n text) → n ≤ place

-- Holds if `place` is the place at which a text is refused: the length of its longest front that
-- begins some key text.
abbrev pub IsKeyPlace : List ℕ → ℕ → Type 0
IsKeyPlace text place = IsLongestFront BeginsKey text place

-- Holds if the text isn't a key text, and is refused at this place.
pub record IsNoKey (text : List ℕ) (place : ℕ) : Type 0 where
  pub none : ¬ ((key : List ℕ) × IsKeyText text key)
  pub longest : IsKeyPlace text place

-- Holds if the text is what was taken of a source: all that the source had left, or 131 bytes,
-- which is more than any key text has.
pub record IsKeyMet (before now : Option (List ℕ)) (text : List ℕ) : Type 0 where
  pub met : before ≡ prepend_known text now
  pub few : length text ≤ 131
  pub whole : IsAtEnd now ⊎ (length text ≡ 131)

-- Holds if fewer than 131 bytes were taken of a source, since a read failed.
pub record IsCutShort (before now : Option (List ℕ)) : Type 0 where
  pub text : List ℕ
  pub met : before ≡ prepend_known text now
  pub few : length text < 131

-- Holds if the source's count of faults rose when a read failed, and didn't change in any other
-- case.
abbrev pub KeyCause : {T : Type 0} → ℕ → ℕ → Result T KeyError → Type 0
KeyCause before now (Ok key) = now ≡ before
KeyCause before now (Err Fault) = Rose before now
KeyCause before now (Err (Bad place)) = now ≡ before
