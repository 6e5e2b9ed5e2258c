-- What is read of an input.
use Rattle.std.specs.Prelude.{◌≡◌, ◌≢◌, ℕ, List, [], ◌++◌, length, Option}
use Rattle.std.specs.Io.KnownBytes.{prepend_known, IsAtEnd}
use Rattle.yasir_io.specs.Causes.{Rose}
use Rattle.tick_drive.specs.Input.{max_bytes}
use Rattle.line_capture.specs.declared.input.ReadEnd.{ReadEnd}
use Rattle.line_capture.specs.declared.input.ReadEnd.TheVariants.{Whole, Failed, TooLong}

-- Holds if more bytes came than are read, and these are the first ones, as many as are read.
pub record IsTooMuch (before now : Option (List ℕ)) (bytes : List ℕ) : Type 0 where
  pub more : List ℕ
  pub some : more ≢ []
  pub came : before ≡ prepend_known (bytes ++ more) now
  pub full : length bytes ≡ max_bytes

-- Holds if these bytes were read of an input, and its reading ended like this.
abbrev pub ReadsInput : Option (List ℕ) → Option (List ℕ) → List ℕ → ReadEnd → Type 0
ReadsInput before now bytes Whole = (before ≡ prepend_known bytes now) × IsAtEnd now
ReadsInput before now bytes Failed = before ≡ prepend_known bytes now
ReadsInput before now bytes TooLong = IsTooMuch before now bytes

-- Holds if the count of faults fits the end of a reading: it rose if a read failed, and is
-- otherwise as it was.
abbrev pub IsReadOf : ℕ → ℕ → ReadEnd → Type 0
IsReadOf before now Failed = Rose before now
IsReadOf before now Whole = now ≡ before
IsReadOf before now TooLong = now ≡ before

-- What an input has left, and how often a read of it has failed.
pub record Told : Type 0 where
  pub left : Option (List ℕ)
  pub faults : ℕ

-- an input that has this left, and of which this many reads have failed
abbrev pub told : Option (List ℕ) → ℕ → Told
told left faults = record { left = left; faults = faults }

-- Holds if these bytes were read of an input, its reading ended like this, and the count of faults
-- fits.
pub record IsRead (before now : Told) (bytes : List ℕ) (end : ReadEnd) : Type 0 where
  pub reads : ReadsInput before.left now.left bytes end
  pub cause : IsReadOf before.faults now.faults end
