-- What is printed of recordings that marks separate in the input, and what each status says.
use Rattle.std.specs.Prelude.{◌≡◌, ℕ, List, ◌++◌, Option}
use Rattle.std.specs.Io.KnownBytes.{append_known}
use Rattle.yasir_io.specs.Output.{GotPrefix}
use Rattle.yasir_ticks.specs.Ticks.{Item, silent}
use Rattle.yasir_ticks.specs.TickText.{IsTickText}
use Rattle.yasir_ticks.specs.declared.tick.Tick.{Tick}
use Rattle.tick_drive.specs.Input.{Takes, IsMetWhole, AreFew}
use Rattle.tick_drive.specs.declared.consumer.Stop.TheVariants as stops
use Rattle.tick_drive.specs.declared.end.End.{End}
use Rattle.tick_drive.specs.declared.end.End.TheVariants.{Refused, Stopped}
use Rattle.tick_drive.specs.declared.end.End.TheVariants as ends
use Rattle.session_lists.specs.Listed.{link_rest}
use Rattle.session_lists.specs.Recordings.{before_mark, behind_mark}
use Rattle.command_ends.specs.declared.status.Status.{Status}
use Rattle.command_ends.specs.declared.status.Status.TheVariants.{Done, BadTicks, ReadFault}
use Rattle.command_ends.specs.declared.status.Status.TheVariants.{WriteFault, TooLong, NoMemory}
use Rattle.session_audit.specs.Listing.{Listing, listing_text}

-- Holds if the whole input was met and is a right text with this many marks and these items, and
-- has no more ticks than may be taken.
pub record IsRecordedWith (marks : ℕ) (before now : Option (List ℕ)) (items : List Item) : Type 0
  where
    pub text : List ℕ
    pub met : IsMetWhole before now text
    pub right : IsTickText marks text items
    pub few : AreFew items

-- Holds if the whole input was met, is a right text with one mark, so with two recordings, and has
-- these items, with no more ticks than may be taken.
abbrev pub IsRecordedSession : Option (List ℕ) → Option (List ℕ) → List Item → Type 0
IsRecordedSession before now items = IsRecordedWith 1 before now items

-- the device's line: the recording before the mark, followed by `device_rest` silent ticks
abbrev pub device_line : ℕ → List Item → List Tick
device_line device_rest items = before_mark items ++ silent device_rest

-- the link: the recording after the mark, followed by enough silence that all that passes leaves
-- the receiver and is read
abbrev pub link_ticks : List Item → List Tick
link_ticks items = behind_mark items ++ silent link_rest

-- `text_of` gives the text that is printed for the items. `rest` silent ticks follow the last
-- recording.
module _ (marks rest : ℕ) (text_of : List Item → List ℕ)
    (in_before in_now out_before out_now : Option (List ℕ)) where
  -- Holds if `out` has got the whole text of the recordings, and nothing else.
  pub record PrintsWhole : Type 0 where
    pub items : List Item
    pub recorded : IsRecordedWith marks in_before in_now items
    pub printed : out_now ≡ append_known out_before (text_of items)

  -- Holds if a write failed, and `out` has got a front of the text of the recordings.
  pub record PrintsFrontOfLists : Type 0 where
    pub items : List Item
    pub recorded : IsRecordedWith marks in_before in_now items
    pub printed : GotPrefix out_before out_now (text_of items)

  -- Holds if the input ended with `end`, which may be that there was no memory for what was taken
  -- of it, and `out` has got nothing.
  pub record PrintsNothing (end : End) : Type 0 where
    pub items : List Item
    pub takes : Takes marks rest in_before in_now items end
    pub out : out_now ≡ out_before

  -- What each status says of the input and of `out`.
  abbrev pub PrintsItems : Status → Type 0
  PrintsItems Done = PrintsWhole
  PrintsItems WriteFault = PrintsFrontOfLists
  PrintsItems (BadTicks bad) = PrintsNothing (Refused bad)
  PrintsItems (TooLong what count) = PrintsNothing (ends.TooLong what count)
  PrintsItems ReadFault = PrintsNothing ends.ReadFault
  PrintsItems NoMemory = PrintsNothing (Stopped stops.NoMemory)
  PrintsItems status = ⊥

-- the text that is printed for the items of two recordings
abbrev pub recorded_lines : (List Tick → List Tick → Listing) → ℕ → List Item → List ℕ
recorded_lines listing device_rest items =
    listing_text (listing (device_line device_rest items) (link_ticks items))

-- What each status says of two recordings and of the lines printed for them.
abbrev pub PrintsRecorded : (List Tick → List Tick → Listing) → ℕ → Option (List ℕ)
    → Option (List ℕ) → Option (List ℕ) → Option (List ℕ) → Status → Type 0
PrintsRecorded listing device_rest = PrintsItems 1 link_rest (recorded_lines listing device_rest)
