-- What several bytes of a tick text do, one after the other.
use Rattle.std.specs.Prelude.{◌≡◌, ◌≢◌, ℕ, ◌+◌, ◌-◌, ◌*◌, ◌<◌, ◌≤◌, List, [], ◌∷◌, ◌++◌}
use Rattle.std.specs.Prelude.{length, take, true, slice_index, Option, Some, None, Result, Ok, Err}
use Rattle.hex.specs.Hex.{decode_of}
use Rattle.yasir_ticks.specs.Characters.{line_feed}
use Rattle.yasir_ticks.specs.TickText.{ended_items, line_items, is_plain_decimal, number_after}
use Rattle.yasir_ticks.specs.TickText.{BeginsTickText, IsRefusedAfter, line_after, fault_after}
use Rattle.yasir_ticks.specs.Place.{has_ticks}
use Rattle.yasir_ticks.specs.Reader.{StandsFor, HasRefused, items_of_content, marks_of_content}
use Rattle.yasir_ticks.specs.declared.fault.BadTicks.{BadTicks}
use Rattle.yasir_ticks.specs.declared.whole_lines.Whole.{Whole}
use Rattle.yasir_ticks.specs.declared.place.Place.TheVariants.{Start}
use Rattle.yasir_ticks.specs.declared.place.Content.{Content}
use Rattle.yasir_ticks.specs.declared.place.Content.TheVariants.{NoTick}
use Rattle.yasir_ticks.specs.declared.reader.TickReader.{TickReader}

-- Holds if a reader has taken these bytes, none of which is refused, and no line with ticks or a
-- mark has ended.
pub record GoesOn (old : TickReader) (more : List ℕ) (new : TickReader) : Type 0 where
  pub stands : (marks : ℕ) (text : List ℕ) → StandsFor old marks text
      → StandsFor new marks (text ++ more)
  pub quiet : (marks : ℕ) (text : List ℕ) → StandsFor old marks text
      → ended_items (text ++ more) ≡ ended_items text
  pub lines : new.line ≤ old.line + length more

-- Holds if a reader that was before a line has taken these bytes of it and its LF. They represent
-- this content, which is no mark.
pub record TakesLine (old : TickReader) (line : List ℕ) (content : Content) (new : TickReader) :
    Type 0 where
  pub began : old.place ≡ Start
  pub free : (k : ℕ) → k < length line → slice_index line k ≢ line_feed
  pub stands : line_items line ≡ Some (items_of_content content new.bytes.items)
  pub ticks : has_ticks content new.bytes.items ≡ true
  pub no_mark : marks_of_content content ≡ 0
  pub place : new.place ≡ Start
  pub counted : new.line ≡ old.line + 1
  pub left : new.left ≡ old.left

-- Holds if a reader has taken a line: its first byte, `sign`, then the first `whole.len` bytes of
-- the slice, and the LF that follows them.
pub record TakesWhole (old : TickReader) (sign : ℕ) (bytes : List ℕ) (new : TickReader)
    (whole : Whole) : Type 0 where
  pub within : whole.len < length bytes
  pub ends : slice_index bytes whole.len ≡ line_feed
  pub takes : TakesLine old (sign ∷ take whole.len bytes) whole.content new

-- Holds if a reader has taken the first `taken` of these bytes. The last of them, an LF, ended a
-- line of this content, and no line with ticks or a mark ended before it.
pub record EndsLine (old : TickReader) (bytes : List ℕ) (taken : ℕ) (content : Content)
    (new : TickReader) : Type 0 where
  pub some : 0 < taken
  pub within : taken ≤ length bytes
  pub feed : slice_index bytes (taken - 1) ≡ line_feed
  pub stands : (marks : ℕ) (text : List ℕ) → StandsFor old marks text
      → StandsFor new marks (text ++ take taken bytes)
  pub items : (marks : ℕ) (text : List ℕ) → StandsFor old marks text
      → ended_items (text ++ take taken bytes)
      ≡ ended_items text ++ items_of_content content new.bytes.items
  pub quiet : (marks : ℕ) (text : List ℕ) → StandsFor old marks text
      → ended_items (text ++ take (taken - 1) bytes) ≡ ended_items text
  pub nothing : items_of_content content new.bytes.items ≡ [] → content ≡ NoTick
  pub lines : new.line ≤ old.line + taken

-- Holds if a reader has taken the first `taken` of these bytes, none of which is refused: up to the
-- end of the line in which it was, or all of them. The line represents this content.
pub record TakesUpTo (old : TickReader) (bytes : List ℕ) (taken : ℕ) (content : Content)
    (new : TickReader) : Type 0 where
  pub within : taken ≤ length bytes
  pub stands : (marks : ℕ) (text : List ℕ) → StandsFor old marks text
      → StandsFor new marks (text ++ take taken bytes)
  pub begins : (marks : ℕ) (text : List ℕ) → StandsFor old marks text
      → BeginsTickText marks (text ++ take taken bytes)
  pub items : (marks : ℕ) (text : List ℕ) → StandsFor old marks text
      → ended_items (text ++ take taken bytes)
      ≡ ended_items text ++ items_of_content content new.bytes.items
  -- The content is `NoTick` exactly if no line with ticks or a mark ended.
  pub nothing : items_of_content content new.bytes.items ≡ [] → content ≡ NoTick
  -- A line with ticks or a mark ended at the last byte that was taken, and none before.
  pub last : (marks : ℕ) (text : List ℕ) → StandsFor old marks text → content ≢ NoTick
      → (0 < taken) × (ended_items (text ++ take (taken - 1) bytes) ≡ ended_items text)
  -- If not every byte was taken, the last one that was taken ended its line.
  pub whole : taken < length bytes → slice_index bytes (taken - 1) ≡ line_feed
  pub progress : 0 < length bytes → 0 < taken
  pub lines : new.line ≤ old.line + taken

-- Holds if a reader has taken the first `taken` of these bytes, in which no line with ticks or a
-- mark ended, and refuses the next one.
pub record StopsAt (old : TickReader) (bytes : List ℕ) (taken : ℕ) (bad : BadTicks)
    (new : TickReader) : Type 0 where
  pub within : taken < length bytes
  pub refused : (marks : ℕ) (text : List ℕ) → StandsFor old marks text
      → IsRefusedAfter marks (text ++ take taken bytes) (slice_index bytes taken)
      × (bad.line ≡ line_after (text ++ take taken bytes))
      × (bad.why ≡ fault_after (text ++ take taken bytes) (slice_index bytes taken))
      × (ended_items (text ++ take taken bytes) ≡ ended_items text)
  pub lines : new.line ≤ old.line + taken
  pub remembered : HasRefused new bad

-- what a reader does when it is fed bytes up to the end of a line
abbrev pub FeedsLine : TickReader → List ℕ → ℕ → Result Content BadTicks → TickReader → Type 0
FeedsLine old bytes taken (Ok content) new = TakesUpTo old bytes taken content new
FeedsLine old bytes taken (Err bad) new = StopsAt old bytes taken bad new

-- what a reader does when it is fed one byte
abbrev pub FeedsByte : TickReader → ℕ → Result (Option Content) BadTicks → TickReader → Type 0
FeedsByte old b (Ok None) new = GoesOn old (b ∷ []) new
FeedsByte old b (Ok (Some content)) new = EndsLine old (b ∷ []) 1 content new
FeedsByte old b (Err bad) new = StopsAt old (b ∷ []) 0 bad new

-- Holds if the bytes begin with `digits` digits of a number of silent ticks, and an LF.
pub record IsSpelled (bytes : List ℕ) (digits number : ℕ) : Type 0 where
  pub within : digits < length bytes
  pub ends : slice_index bytes digits ≡ line_feed
  pub plain : is_plain_decimal (take digits bytes) ≡ true
  pub number_is : number_after 0 (take digits bytes) ≡ number
  pub some : 0 < number
  pub fits : number ≤ 1000000

-- Holds if the bytes begin with at least one pair of digits, which spell `items`, and an LF.
pub record IsFewPairs (bytes items : List ℕ) : Type 0 where
  pub within : 2 * length items < length bytes
  pub ends : slice_index bytes (2 * length items) ≡ line_feed
  pub decoded : decode_of (take (2 * length items) bytes) ≡ Ok items
  pub some : 0 < length items
  pub fits : length items ≤ 32
