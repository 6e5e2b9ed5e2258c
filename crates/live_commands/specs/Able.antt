-- What a run must be given so that nothing refuses it.
use Rattle.std.specs.Prelude.{◌≡◌, ℕ, ◌<◌, ◌≤◌, List, ◌++◌, length, Option, Some, None}
use Rattle.yasir_io.specs.Disks.{Slots}
use Rattle.yasir_ticks.specs.Ticks.{Item, ticks_in}
use Rattle.yasir_ticks.specs.TickText.{IsTickText, ended_items}
use Rattle.sequence_journal.specs.declared.link.LinkId.{LinkId}
use Rattle.line_commands.specs.Given.{HasKey, HoldsJournal}
use Rattle.live_commands.specs.declared.live_box.TheConstants.{MAX_LIVE_TICKS, MAX_LIVE_BYTES}

-- Holds if the input tells a right text without a mark that is within the limits of a live line.
-- These limit its ticks, its bytes, and the bytes in a row that end no line with ticks.
pub record IsLiveText (input : Option (List ℕ)) : Type 0 where
  pub text : List ℕ
  pub items : List Item
  pub told : input ≡ Some text
  pub right : IsTickText 0 text items
  pub few_ticks : length (ticks_in items) ≤ MAX_LIVE_TICKS
  pub few_bytes : length text < MAX_LIVE_BYTES
  pub few_unended : (front part later : List ℕ) → text ≡ front ++ (part ++ later)
      → ended_items (front ++ part) ≡ ended_items front → length part ≤ 2147483648

-- Holds if all that a box is given is right: a key text, slots that hold a journal of the link, and
-- the text of a live line.
pub record IsLivable (link : LinkId) (key_before : Option (List ℕ)) (told : Option Slots)
    (input : Option (List ℕ)) : Type 0 where
  pub key : HasKey key_before
  pub journal : HoldsJournal link told
  pub line : IsLiveText input
