-- How the reading of a live line ends, and what of its text a box has taken then. `Heard line`
-- holds if a box has taken all ticks of `line`, and `Halts stop line` holds if a box was stopped at
-- one of them.
use Rattle.std.specs.Prelude.{◌≡◌, ℕ, ◌<◌, ◌≤◌, ◌⊎◌, List, ◌∷◌, ◌++◌, length}
use Rattle.yasir_ticks.specs.Ticks.{Item, ticks_in, silent}
use Rattle.yasir_ticks.specs.TickText.{IsTickText, BeginsTickText, IsRefusedAfter, ended_items}
use Rattle.yasir_ticks.specs.TickText.{line_after, fault_after}
use Rattle.yasir_ticks.specs.declared.fault.BadTicks.{BadTicks}
use Rattle.yasir_ticks.specs.declared.tick.Tick.{Tick}
use Rattle.tick_drive.specs.declared.consumer.Stop.{Stop}
use Rattle.tick_drive.specs.declared.end.End.{End}
use Rattle.tick_drive.specs.declared.end.End.TheVariants.{Whole, Refused, TooLong, ReadFault}
use Rattle.tick_drive.specs.declared.end.End.TheVariants.{Stopped}
use Rattle.tick_drive.specs.declared.end.TooMuch.TheVariants.{Ticks, Bytes}
use Rattle.line_commands.specs.Counted.{capped}
use Rattle.line_commands.specs.Lines.{RefusesText, EndsNoLine}
use Rattle.live_commands.specs.declared.live_box.TheConstants.{MAX_LIVE_TICKS, MAX_LIVE_BYTES}

-- Holds if the text is right, and `Of` holds of its items.
pub record IsRightOf (text : List ℕ) (Of : List Item → Type 0) : Type 0 where
  pub items : List Item
  pub right : IsTickText 0 text items
  pub holds : Of items

module _ (Heard : List Tick → Type 0) (Halts : Stop → List Tick → Type 0) where
  -- Holds if no right text begins with these bytes and the one that comes next. The lines that
  -- ended in these bytes were taken.
  pub record RefusesNext (bad : BadTicks) (front later : List ℕ) : Type 0 where
    pub byte : ℕ
    pub rest : List ℕ
    pub is : later ≡ byte ∷ rest
    pub refused : IsRefusedAfter 0 front byte
    pub line : bad.line ≡ capped (line_after front)
    pub why : bad.why ≡ fault_after front byte
    pub heard : Heard (ticks_in (ended_items front))

  -- Holds if the last line of these items brings the count of ticks above the most that may be
  -- taken. The lines before it were taken.
  pub record HasTooManyTicks (count : ℕ) (items : List Item) : Type 0 where
    pub earlier : List Item
    pub last : List Item
    pub are : items ≡ earlier ++ last
    pub sum : count ≡ length (ticks_in items)
    pub above : MAX_LIVE_TICKS < count
    pub heard : Heard (ticks_in earlier)

  -- Holds if too many bytes in a row end no line with ticks, or too many bytes were read in all.
  -- The lines that ended in these bytes were taken.
  pub record HasTooManyBytes (count : ℕ) (front : List ℕ) : Type 0 where
    pub many : ((2147483648 < count) × EndsNoLine front count)
        ⊎ ((MAX_LIVE_BYTES ≤ count) × (count ≤ length front))
    pub heard : Heard (ticks_in (ended_items front))

  -- what an end says that comes after the first bytes of a text
  abbrev pub EndsBehind : End → List ℕ → List ℕ → Type 0
  EndsBehind (Refused bad) front later = RefusesNext bad front later
  EndsBehind (TooLong Ticks count) front later = HasTooManyTicks count (ended_items front)
  EndsBehind (TooLong Bytes count) front later = HasTooManyBytes count front
  EndsBehind (Stopped stop) front later = Halts stop (ticks_in (ended_items front))
  EndsBehind end front later = ⊥

  -- Holds if an end came inside a text, after bytes with which a right text begins.
  pub record EndsWithin (end : End) (text : List ℕ) : Type 0 where
    pub front : List ℕ
    pub later : List ℕ
    pub is : text ≡ front ++ later
    pub begins : BeginsTickText 0 front
    pub ends : EndsBehind end front later

  -- Holds if a read failed after this text, with which a right text begins. The lines that ended in
  -- it were taken.
  pub record FailsAfter (text : List ℕ) : Type 0 where
    pub begins : BeginsTickText 0 text
    pub heard : Heard (ticks_in (ended_items text))

  -- Holds if the text isn't right. The lines that ended in it were taken.
  pub record RefusesWhole (bad : BadTicks) (text : List ℕ) : Type 0 where
    pub refused : RefusesText text bad
    pub heard : Heard (ticks_in (ended_items text))

  -- what an end says that comes at the end of a whole text or in the `rest` silent ticks after it
  abbrev pub EndsAtLast : ℕ → End → List ℕ → Type 0
  EndsAtLast rest Whole text = IsRightOf text (λ items. Heard (ticks_in items ++ silent rest))
  EndsAtLast rest (Refused bad) text = RefusesWhole bad text
  EndsAtLast rest (TooLong Ticks count) text = IsRightOf text (HasTooManyTicks count)
  EndsAtLast rest (Stopped stop) text =
      IsRightOf text (λ items. Halts stop (ticks_in items ++ silent rest))
  EndsAtLast rest end text = ⊥

  -- What an end says of all that was read: a read failed after it, or the end came inside it, or
  -- the end came after it where the input ended.
  abbrev pub EndsText : ℕ → Type 0 → End → List ℕ → Type 0
  EndsText rest at_end ReadFault text = FailsAfter text
  EndsText rest at_end end text = EndsWithin end text ⊎ (at_end × EndsAtLast rest end text)
