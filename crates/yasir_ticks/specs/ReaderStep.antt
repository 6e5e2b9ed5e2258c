-- What one byte of a tick text, or its end, does at a place of its line.
use Rattle.std.specs.Prelude.{◌≡◌, ℕ, ◌+◌, ◌<◌, ◌==◌, ◌≢◌, ◌⊎◌, true, List, [], ◌∷◌, ◌++◌, Option}
use Rattle.std.specs.Prelude.{Some, None, Result, Ok, Err, if◌then◌else◌}
use Rattle.yasir_ticks.specs.Characters.{line_feed}
use Rattle.yasir_ticks.specs.Ticks.{Item, items_of_run, marks_in}
use Rattle.yasir_ticks.specs.Place.{ended_has_ticks}
use Rattle.yasir_ticks.specs.TickText.{line_items, fault_in_line, ends_content}
use Rattle.yasir_ticks.specs.Reader.{Reads, items_of_content, marks_of_content, marks_at}
use Rattle.yasir_ticks.specs.Reader.{HasRefused}
use Rattle.yasir_ticks.specs.declared.fault.BadTicks.{BadTicks}
use Rattle.yasir_ticks.specs.declared.fault.TickFault.{TickFault}
use Rattle.yasir_ticks.specs.declared.fault.TickFault.TheVariants.{Mark}
use Rattle.yasir_ticks.specs.declared.run.Run.{Run}
use Rattle.yasir_ticks.specs.declared.run.Run.TheVariants.{Nothing}
use Rattle.yasir_ticks.specs.declared.place.Content.{Content}
use Rattle.yasir_ticks.specs.declared.place.Place.{Place}
use Rattle.yasir_ticks.specs.declared.place.Place.TheVariants.{Start, Refused}
use Rattle.yasir_ticks.specs.declared.reader.TickReader.{TickReader}

-- the items of the line that a byte ends, or none if it ends no line
abbrev pub items_of_ended : Option Content → List ℕ → List Item
items_of_ended None bytes = []
items_of_ended (Some content) bytes = items_of_content content bytes

-- Holds if a byte is accepted. A byte that goes on with the line brings its reader to the new
-- place. An LF ends the line, which represents the items. A mark that the byte adds to the line is
-- no longer left.
pub record Accepts (place : Place) (bytes : List ℕ) (left b : ℕ) (items : List Item)
    (new_place : Place) (new_bytes : List ℕ) (new_left : ℕ) : Type 0 where
  pub nothing : b ≢ line_feed → items ≡ []
  pub reads : b ≢ line_feed → (line : List ℕ) → Reads place bytes line
      → Reads new_place new_bytes (line ++ b ∷ [])
  pub start : b ≡ line_feed → new_place ≡ Start
  pub stands : b ≡ line_feed → (line : List ℕ) → Reads place bytes line
      → line_items line ≡ Some items
  pub marked : marks_in items + (marks_at new_place + new_left) ≡ marks_at place + left

-- Holds if a byte is refused. No line of a right form goes on with it, unless that line has more
-- marks than are left. If the byte is an LF, the line that it ends has no right form.
pub record Refuses (place : Place) (bytes : List ℕ) (left b : ℕ) (why : TickFault) :
    Type 0 where
  pub wrong : b ≢ line_feed → (line : List ℕ) → Reads place bytes line
      → (more : List ℕ) (items : List Item) → line_items (line ++ b ∷ more) ≡ Some items
      → marks_at place + left < marks_in items
  pub ended : b ≡ line_feed → (line : List ℕ) → Reads place bytes line → line_items line ≡ None
  pub cause : (line : List ℕ) → Reads place bytes line → fault_in_line line (Some b) ≡ why

-- Holds if a line that ends here represents this content.
pub record Closes (place : Place) (bytes : List ℕ) (content : Content) : Type 0 where
  pub stands : (line : List ℕ) → Reads place bytes line
      → line_items line ≡ Some (items_of_content content bytes)
  pub marked : marks_of_content content ≡ marks_at place

-- Holds if a line that ends here, by a CR, an LF or the end of the text, has no right form.
pub record IsOpen (place : Place) (bytes : List ℕ) (why : TickFault) : Type 0 where
  pub wrong : (line : List ℕ) → Reads place bytes line → line_items line ≡ None
  pub cause : (line : List ℕ) (next : Option ℕ) → ends_content next ≡ true → Reads place bytes line
      → fault_in_line line next ≡ why

abbrev pub line_with : ℕ → ℕ → ℕ
line_with line b = if b == line_feed then line + 1 else line

abbrev pub AdvanceCase : TickReader → ℕ → Result (Option Content) TickFault → TickReader → Type 0
AdvanceCase old b (Ok ended) new =
    Accepts old.place old.bytes.items old.left b (items_of_ended ended new.bytes.items) new.place
    new.bytes.items new.left
    × (new.line ≡ line_with old.line b) × (b ≢ line_feed → ended ≡ None)
    × (ended_has_ticks ended new.bytes.items ≡ true)
AdvanceCase old b (Err why) new =
    Refuses old.place old.bytes.items old.left b why × (new.line ≡ old.line)
    × (new.place ≡ Refused why)

-- what a reader does with one byte: it returns the content of the line that the byte ends, or why
-- it refuses the byte
pub record Advances (old : TickReader) (b : ℕ) (result : Result (Option Content) TickFault)
    (new : TickReader) : Type 0 where
  pub case : AdvanceCase old b result new

abbrev pub StepCase : TickReader → ℕ → Result Run BadTicks → TickReader → Type 0
StepCase old b (Ok run) new =
    Accepts old.place old.bytes.items old.left b (items_of_run run) new.place new.bytes.items
    new.left
    × (new.line ≡ line_with old.line b)
    × (items_of_run run ≡ [] → run ≡ Nothing)
StepCase old b (Err bad) new =
    Refuses old.place old.bytes.items old.left b bad.why × (bad.line ≡ old.line)
    × HasRefused new bad

-- what a reader does with one byte: it returns the run of the line that the byte ends, or the
-- refusal
pub record Steps (old : TickReader) (b : ℕ) (result : Result Run BadTicks) (new : TickReader) :
    Type 0 where
  pub case : StepCase old b result new

-- Holds if the line that ends here has a right form, but marks are missing.
pub record LacksMark (place : Place) (bytes : List ℕ) (left : ℕ) (why : TickFault) : Type 0 where
  pub content : Content
  pub closes : Closes place bytes content
  pub some : 0 < left
  pub is : why ≡ Mark

abbrev pub EndCase : TickReader → Result Run BadTicks → Type 0
EndCase reader (Ok run) = ((line : List ℕ) → Reads reader.place reader.bytes.items line
    → line_items line ≡ Some (items_of_run run))
    × (items_of_run run ≡ [] → run ≡ Nothing)
    × (marks_in (items_of_run run) ≡ marks_at reader.place) × (reader.left ≡ 0)
EndCase reader (Err bad) = (IsOpen reader.place reader.bytes.items bad.why
    ⊎ LacksMark reader.place reader.bytes.items reader.left bad.why)
    × (bad.line ≡ reader.line)

-- what a reader does at the end of the text
pub record Stops (reader : TickReader) (result : Result Run BadTicks) : Type 0 where
  pub case : EndCase reader result
