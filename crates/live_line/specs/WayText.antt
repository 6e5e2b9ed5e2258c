-- One stream of text for both ways of a line.
use Rattle.std.specs.Prelude.{◌≡◌, ◌≢◌, ℕ, ◌==◌, if◌then◌else◌, List, [], ◌∷◌, ◌++◌}
use Rattle.std.specs.Prelude.{Option, Some, None, true, false}
use Rattle.std.specs.List.{flat_map}
use Rattle.yasir_ticks.specs.TickText.{lines_of, line_after}
use Rattle.line_commands.specs.Counted.{capped}
use Rattle.live_line.specs.declared.lettered.Lettering.{Lettering}
use Rattle.live_line.specs.declared.ways.Way.{Way}
use Rattle.live_line.specs.declared.ways.Way.TheVariants.{Outgoing, Incoming}
use Rattle.live_line.specs.declared.ways.Ways.{Ways}

-- the letter with which the lines of a way begin: `>` or `<`
abbrev pub letter_of : Way → ℕ
letter_of Outgoing = 62
letter_of Incoming = 60

-- what the last line of a stream has of a way: what follows the letter, if it begins with it
abbrev pub own_part : Way → List ℕ → List ℕ
own_part way [] = []
own_part way (c ∷ line) = if c == letter_of way then line else []

-- what a line that an LF ended has of a way: the same, with the LF
abbrev pub own_line : Way → List ℕ → List ℕ
own_line way [] = []
own_line way (c ∷ line) = if c == letter_of way then line ++ 10 ∷ [] else []

-- The text of a way: what follows its letter in each line of the stream that begins with it.
abbrev pub text_on : Way → List ℕ → List ℕ
text_on way stream =
    flat_map (own_line way) (lines_of stream).ended ++ own_part way (lines_of stream).last

-- Holds if a line has begun with the letter of this way, or not at all.
abbrev pub IsWithin : Option Way → List ℕ → Type 0
IsWithin None line = line ≡ []
IsWithin (Some way) line = (rest : List ℕ) × (line ≡ letter_of way ∷ rest)

-- Holds if a line begins with the letter of a way.
abbrev pub IsLettered : List ℕ → Type 0
IsLettered line = (way : Way) × ((rest : List ℕ) × (line ≡ letter_of way ∷ rest))

-- Holds if each of these lines begins with the letter of a way.
abbrev pub AreLettered : List (List ℕ) → Type 0
AreLettered [] = Unit {0}
AreLettered (line ∷ lines) = IsLettered line × AreLettered lines

-- Holds if the reader has read this stream: each line that has ended begins with the letter of a
-- way, and it counts the lines.
pub record HasParted (ways : Ways) (stream : List ℕ) : Type 0 where
  pub within : IsWithin ways.within (lines_of stream).last
  pub lettered : AreLettered (lines_of stream).ended
  pub line : ways.line ≡ capped (line_after stream)

-- Holds if a line begins with this byte, which is the letter of a way. No text has got any byte.
pub record BeginsLine (ways : Ways) (stream : List ℕ) (byte : ℕ) : Type 0 where
  pub parted : HasParted ways (stream ++ byte ∷ [])
  pub same : (way : Way) → text_on way (stream ++ byte ∷ []) ≡ text_on way stream

-- Holds if this byte is added to the text of this way, and no other text has got any byte.
pub record AddsByte (ways : Ways) (way : Way) (stream : List ℕ) (byte : ℕ) : Type 0 where
  pub parted : HasParted ways (stream ++ byte ∷ [])
  pub own : text_on way (stream ++ byte ∷ []) ≡ text_on way stream ++ byte ∷ []
  pub others : (other : Way) → other ≢ way
      → text_on other (stream ++ byte ∷ []) ≡ text_on other stream

-- Holds if this byte was read after a stream: it is one of the text of this way, or of none.
abbrev pub PartsByte : Ways → List ℕ → ℕ → Option Way → Type 0
PartsByte ways stream byte None = BeginsLine ways stream byte
PartsByte ways stream byte (Some way) = AddsByte ways way stream byte

-- Holds if a line begins with this byte, and it is the letter of no way.
pub record RefusesLine (stream : List ℕ) (byte : ℕ) : Type 0 where
  pub begins : (lines_of stream).last ≡ []
  pub is_no_letter : (way : Way) → byte ≢ letter_of way

-- Holds if each line of a text has ended.
abbrev pub AreEnded : List ℕ → Type 0
AreEnded text = (lines_of text).last ≡ []

-- Holds if these bytes, after a stream whose lines had ended, add this text to that of a way, and
-- nothing to the other way's. If each line of the text has ended, so has each line of the stream.
pub record HasLettered (lettering : Lettering) (way : Way) (stream text bytes : List ℕ) : Type 0
  where
    pub is_way : lettering.way ≡ way
    pub own : text_on way (stream ++ bytes) ≡ text_on way stream ++ text
    pub others : (other : Way) → other ≢ way → text_on other (stream ++ bytes) ≡ text_on other stream
    pub closed : lettering.begins ≡ true → AreEnded (stream ++ bytes)
    pub within : lettering.begins ≡ false
        → (rest : List ℕ) × ((lines_of (stream ++ bytes)).last ≡ letter_of way ∷ rest)
    pub unended : lettering.begins ≡ false → (lines_of text).last ≢ []
