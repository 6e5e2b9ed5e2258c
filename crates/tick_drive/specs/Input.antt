-- What is taken of an input that is driven into a consumer. The input's bytes are met in order, up
-- to the first of these:
-- - a byte past the limit
-- - a byte with which no right text begins
-- - the end of a line whose ticks, with all before, are too many
-- - the end of a line at one of whose ticks the consumer stops
-- - a failed read
-- - the input's end
--
-- Silence may follow after the input's end, and nowhere else.
use Rattle.std.specs.Prelude.{◌≡◌, ◌≢◌, ℕ, ◌<◌, ◌≤◌, ◌⊎◌, List, [], ◌∷◌, ◌++◌, length, Option}
use Rattle.std.specs.Prelude.{Result, Ok, Err, Bool, true, false}
use Rattle.yasir_io.specs.Causes.{Rose}
use Rattle.std.specs.Io.KnownBytes.{prepend_known, IsAtEnd}
use Rattle.yasir_ticks.specs.Characters.{line_feed}
use Rattle.yasir_ticks.specs.Ticks.{Item, ticks_in}
use Rattle.yasir_ticks.specs.TickText.{IsTickText, BeginsTickText, IsRefusedAfter, ended_items}
use Rattle.yasir_ticks.specs.TickText.{line_after, fault_after, fault_at_end}
use Rattle.yasir_ticks.specs.declared.fault.BadTicks.{BadTicks}
use Rattle.tick_drive.specs.Items.{silent_items}
use Rattle.tick_drive.specs.declared.end.End.{End}
use Rattle.tick_drive.specs.declared.end.End.TheVariants.{Whole, Refused, TooLong, ReadFault}
use Rattle.tick_drive.specs.declared.end.End.TheVariants.{Stopped}
use Rattle.tick_drive.specs.declared.end.TooMuch.TheVariants.{Ticks, Bytes}

abbrev pub max_ticks : ℕ
max_ticks = 16777216

abbrev pub max_bytes : ℕ
max_bytes = 268435456

-- Holds if these bytes came first: if the source told what it had left, that began with them.
abbrev pub ComesFirst : Option (List ℕ) → List ℕ → Type 0
ComesFirst before bytes = (later : Option (List ℕ)) × (before ≡ prepend_known bytes later)

-- Holds if this text was met: its bytes came first, and are no more than may be read.
pub record IsMetOf (before : Option (List ℕ)) (text : List ℕ) : Type 0 where
  pub came : ComesFirst before text
  pub within : length text ≤ max_bytes

-- Holds if this text was met, and what is left now comes after it.
pub record IsMetUpTo (before now : Option (List ℕ)) (text : List ℕ) : Type 0 where
  pub came : before ≡ prepend_known text now
  pub within : length text ≤ max_bytes

-- Holds if this text was met, and is the whole input.
pub record IsMetWhole (before now : Option (List ℕ)) (text : List ℕ) : Type 0 where
  pub met : IsMetUpTo before now text
  pub at_end : IsAtEnd now

-- Holds if the items have no more ticks than may be taken.
abbrev pub AreFew : List Item → Type 0
AreFew items = length (ticks_in items) ≤ max_ticks

-- Holds if no right text begins with the text that was met and the byte after it.
pub record IsRefusedByte (marks : ℕ) (before : Option (List ℕ)) (text : List ℕ) (bad : BadTicks) :
    Type 0 where
  pub byte : ℕ
  pub met : IsMetOf before (text ++ byte ∷ [])
  pub refused : IsRefusedAfter marks text byte
  pub line : bad.line ≡ line_after text
  pub why : bad.why ≡ fault_after text byte

-- Holds if the whole input was met, and is no right text.
pub record IsRefusedEnd (marks : ℕ) (before now : Option (List ℕ)) (text : List ℕ)
    (bad : BadTicks) : Type 0 where
  pub met : IsMetWhole before now text
  pub begins : BeginsTickText marks text
  pub refused : ¬ ((items : List Item) × IsTickText marks text items)
  pub line : bad.line ≡ line_after text
  pub why : bad.why ≡ fault_at_end text

-- Holds if the next byte, an LF, ends a line with these items, and a right text begins with it and
-- the bytes before it.
pub record EndsInputLine (marks : ℕ) (before : Option (List ℕ)) (text : List ℕ)
    (items line : List Item) : Type 0 where
  pub met : IsMetOf before (text ++ line_feed ∷ [])
  pub begins : BeginsTickText marks (text ++ line_feed ∷ [])
  pub ended : ended_items (text ++ line_feed ∷ []) ≡ items ++ line
  pub some : line ≢ []

-- Holds if the input's end ends a line with these items.
pub record EndsLast (marks : ℕ) (before now : Option (List ℕ)) (text : List ℕ)
    (items line : List Item) : Type 0 where
  pub met : IsMetWhole before now text
  pub ended : IsTickText marks text (items ++ line)

-- Holds if the whole input was met and is a right text, and `rest` silent ticks follow its items.
pub record IsWhole (marks rest : ℕ) (before now : Option (List ℕ)) (items : List Item) :
    Type 0 where
  pub text : List ℕ
  pub told : List Item
  pub met : IsMetWhole before now text
  pub right : IsTickText marks text told
  pub few : AreFew told
  pub are : items ≡ told ++ silent_items rest

-- Holds if these are the items of the lines that ended before the refused place.
pub record InputIsRefused (marks : ℕ) (before now : Option (List ℕ)) (items : List Item)
    (bad : BadTicks) : Type 0 where
  pub text : List ℕ
  pub refused : IsRefusedByte marks before text bad ⊎ IsRefusedEnd marks before now text bad
  pub few : AreFew items
  pub are : items ≡ ended_items text

-- Holds if a line ended, at an LF or at the input's end, and its ticks, with those before, are more
-- than may be taken.
pub record HasTooManyTicks (marks : ℕ) (before now : Option (List ℕ)) (items : List Item)
    (count : ℕ) : Type 0 where
  pub text : List ℕ
  pub line : List Item
  pub ended : EndsInputLine marks before text items line ⊎ EndsLast marks before now text items line
  pub few : AreFew items
  pub are : items ≡ ended_items text
  pub sum : count ≡ length (ticks_in (items ++ line))
  pub above : max_ticks < count

-- Holds if as many bytes were met as may be read, and one more came.
pub record HasTooManyBytes (marks : ℕ) (before : Option (List ℕ)) (items : List Item) (count : ℕ) :
    Type 0 where
  pub text : List ℕ
  pub byte : ℕ
  pub came : ComesFirst before (text ++ byte ∷ [])
  pub begins : BeginsTickText marks text
  pub full : length text ≡ max_bytes
  pub few : AreFew items
  pub are : items ≡ ended_items text
  pub sum : count ≡ length (text ++ byte ∷ [])

-- Holds if a read failed after this text was met.
pub record FailsToRead (marks : ℕ) (before now : Option (List ℕ)) (items : List Item) : Type 0 where
  pub text : List ℕ
  pub met : IsMetUpTo before now text
  pub begins : BeginsTickText marks text
  pub few : AreFew items
  pub are : items ≡ ended_items text

-- Holds if the last byte that was met ended a line with ticks or a mark, and these are the items of
-- all lines up to this one.
pub record StopsInLine (marks : ℕ) (before : Option (List ℕ)) (items : List Item) : Type 0 where
  pub text : List ℕ
  pub line : List Item
  pub ended : EndsInputLine marks before text (ended_items text) line
  pub few : AreFew items
  pub are : items ≡ ended_items text ++ line

-- Holds if these items were taken of an input, and of `rest` silent ticks after it, when the drive
-- over it ended like this. A consumer that stopped did so at one of the items: in the last of the
-- lines that were met, of which all are whole, or after an input that was met to its end.
abbrev pub Takes : ℕ → ℕ → Option (List ℕ) → Option (List ℕ) → List Item → End → Type 0
Takes marks rest before now items Whole = IsWhole marks rest before now items
Takes marks rest before now items (Refused bad) = InputIsRefused marks before now items bad
Takes marks rest before now items (TooLong Ticks count) =
    HasTooManyTicks marks before now items count
Takes marks rest before now items (TooLong Bytes count) = HasTooManyBytes marks before items count
Takes marks rest before now items ReadFault = FailsToRead marks before now items
Takes marks rest before now items (Stopped stop) = StopsInLine marks before items
    ⊎ IsWhole marks rest before now items

abbrev pub is_read_fault : End → Bool
is_read_fault ReadFault = true
is_read_fault Whole = false
is_read_fault (Refused bad) = false
is_read_fault (TooLong what count) = false
is_read_fault (Stopped stop) = false

-- whether the result is that a read failed
abbrev pub is_read_answer : {T : Type 0} → Result T End → Bool
is_read_answer (Ok x) = false
is_read_answer (Err end) = is_read_fault end

-- Holds if the input's count rose when a failed read is the cause of the result, and is as it was
-- in any other case.
pub record IsReadCause (before now : ℕ) (is_cause : Bool) : Type 0 where
  pub never_falls : before ≤ now
  pub failed : is_cause ≡ true → Rose before now
  pub same : is_cause ≡ false → now ≡ before
