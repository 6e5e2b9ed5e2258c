-- The bytes of an input on their way to the reader.
use Rattle.std.specs.Prelude.{◌≡◌, ◌≢◌, ℕ, ◌+◌, ◌≤◌, List, [], ◌∷◌, ◌++◌, length, Option, Some, None}
use Rattle.std.specs.Prelude.{Result, Ok, Err, false}
use Rattle.std.specs.Io.KnownBytes.{prepend_known}
use Rattle.yasir_io.specs.Pieces.{to_come, has_ended}
use Rattle.yasir_ticks.specs.Ticks.{Item, items_of_run}
use Rattle.yasir_ticks.specs.Reader.{StandsFor, items_of_content, lent_bytes}
use Rattle.yasir_ticks.specs.TickText.{IsTickText, BeginsTickText, ended_items, line_after}
use Rattle.yasir_ticks.specs.TickText.{fault_at_end}
use Rattle.yasir_ticks.specs.declared.fault.BadTicks.{BadTicks}
use Rattle.yasir_ticks.specs.declared.place.Content.{Content}
use Rattle.yasir_ticks.specs.declared.run.Run.{Run}
use Rattle.tick_drive.specs.Input.{ComesFirst, IsMetUpTo, IsMetWhole, IsRefusedByte, max_bytes}
use Rattle.tick_drive.specs.declared.intake.Intake.{Intake}
use Rattle.tick_drive.specs.declared.end.End.{End}
use Rattle.tick_drive.specs.declared.end.End.TheVariants.{Refused, TooLong, ReadFault}
use Rattle.tick_drive.specs.declared.end.TooMuch.TheVariants.{Bytes}

-- Holds if the reader has been fed this text.
abbrev pub HasFed : Intake → ℕ → List ℕ → Type 0
HasFed intake marks text = StandsFor intake.reader marks text

-- Holds if this text was met, of an input that had `before` left at first and has `now` left, and a
-- right text begins with it.
pub record HasMet (intake : Intake) (marks : ℕ) (before now : Option (List ℕ)) (text : List ℕ) :
    Type 0 where
  pub stands : StandsFor intake.reader marks text
  pub begins : BeginsTickText marks text
  pub source : before ≡ prepend_known text (to_come intake.pieces now)
  pub open_end : has_ended intake.pieces ≡ false
  pub count : intake.room + length text ≡ max_bytes
  pub within : length text ≤ max_bytes

-- the bytes of the line that was met last, if it was one of bytes
abbrev pub lent : Intake → List ℕ
lent intake = lent_bytes intake.reader

-- Holds if bytes were met after a text, at least one and none refused, and these items are those of
-- the lines that ended. If there are any items, the last of these bytes ended their line, and no
-- line with ticks or a mark ended before.
pub record MeetsLine (intake : Intake) (marks : ℕ) (before now : Option (List ℕ)) (text : List ℕ)
    (items : List Item) : Type 0 where
  pub front : List ℕ
  pub byte : ℕ
  pub met : HasMet intake marks before now ((text ++ front) ++ byte ∷ [])
  pub ended : ended_items ((text ++ front) ++ byte ∷ []) ≡ ended_items text ++ items
  pub quiet : items ≢ [] → ended_items (text ++ front) ≡ ended_items text

-- Holds if bytes were met after a text, in which no line with ticks or a mark ended, and the next
-- byte is refused.
pub record MeetsRefused (marks : ℕ) (before : Option (List ℕ)) (text : List ℕ) (bad : BadTicks) :
    Type 0 where
  pub front : List ℕ
  pub refused : IsRefusedByte marks before (text ++ front) bad
  pub quiet : ended_items (text ++ front) ≡ ended_items text

-- Holds if one more byte came after a text of as many bytes as may be read.
pub record MeetsLimit (before : Option (List ℕ)) (text : List ℕ) (count : ℕ) : Type 0 where
  pub byte : ℕ
  pub came : ComesFirst before (text ++ byte ∷ [])
  pub full : length text ≡ max_bytes
  pub sum : count ≡ length (text ++ byte ∷ [])

-- Holds if nothing came after a text, and it is the whole input.
pub record MeetsEnd (intake : Intake) (marks : ℕ) (before now : Option (List ℕ)) (text : List ℕ) :
    Type 0 where
  pub fed : HasFed intake marks text
  pub begins : BeginsTickText marks text
  pub met : IsMetWhole before now text

-- what the result of one step says, if this text was met before
abbrev pub StepAnswer : Intake → ℕ → Option (List ℕ) → Option (List ℕ) → List ℕ
    → Result (Option Content) End → Type 0
StepAnswer intake marks before now text (Ok (Some content)) =
    MeetsLine intake marks before now text (items_of_content content (lent intake))
StepAnswer intake marks before now text (Ok None) = MeetsEnd intake marks before now text
StepAnswer intake marks before now text (Err (Refused bad)) = MeetsRefused marks before text bad
StepAnswer intake marks before now text (Err (TooLong Bytes count)) = MeetsLimit before text count
StepAnswer intake marks before now text (Err ReadFault) = IsMetUpTo before now text
StepAnswer intake marks before now text (Err end) = ⊥

-- what the result at the input's end says
abbrev pub FinishAnswer : ℕ → List ℕ → Result Run End → Type 0
FinishAnswer marks text (Ok run) = IsTickText marks text (ended_items text ++ items_of_run run)
FinishAnswer marks text (Err (Refused bad)) =
    (¬ ((items : List Item) × IsTickText marks text items)) × (bad.line ≡ line_after text)
    × (bad.why ≡ fault_at_end text)
FinishAnswer marks text (Err end) = ⊥
