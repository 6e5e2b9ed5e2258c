-- Text that is added to a text on its way to a sink.
use Rattle.std.specs.Prelude.{ℕ, cond, List, [], ◌++◌, Option, codes}
use Rattle.yasir_io.specs.Output.{Buffered, GotPrefix}
use Rattle.link_format.specs.NumberedFrame.{NumberedFrame, AreNumberedFrom}
use Rattle.receiver_laws.specs.Accounted.{is_among}
use Rattle.session_lists.specs.FrameBox.{kept_frames}
use Rattle.session_lists.specs.FrameList.{Holds, ListIsWhole}
use Rattle.session_lists.specs.ReplayLists.{kept_reads}
use Rattle.session_lists.specs.declared.frame_box.Numbered.{Numbered}
use Rattle.session_lists.specs.declared.frame_list.FrameList.{FrameList}
pub use Rattle.command_ends.specs.PrintsText.{PrintsText}
use Rattle.session_audit.specs.Listing.{Listing, numbered_line_of}

-- what a sink holds, and what waits to be written to it
pub record OnTheWay : Type 0 where
  pub held : Option (List ℕ)
  pub waits : List ℕ

-- the record of these two values
abbrev pub on_the_way : Option (List ℕ) → List ℕ → OnTheWay
on_the_way held waits = record { held = held; waits = waits }

-- Holds if `more` was added to the text on its way.
abbrev pub AddsText : OnTheWay → OnTheWay → List ℕ → Type 0
AddsText before now more = (start : Option (List ℕ)) (text : List ℕ)
    → Buffered start before.held before.waits text
    → Buffered start now.held now.waits (text ++ more)

-- Holds if a write failed, and the sink has got a front of the text on its way and `more`.
abbrev pub PrintingBreaksOff : OnTheWay → Option (List ℕ) → List ℕ → Type 0
PrintingBreaksOff before held more = (start : Option (List ℕ)) (text : List ℕ)
    → Buffered start before.held before.waits text → GotPrefix start held (text ++ more)

-- the line of a frame that passed if it was never sealed with its number, otherwise nothing
abbrev pub line_if_forged : List NumberedFrame → NumberedFrame → List ℕ
line_if_forged sealed_ones f =
    cond (is_among sealed_ones f) [] (numbered_line_of (codes "forged") f)

-- The lists hold these frames, and the sealed ones are numbered one after the other, from 1 on.
pub record HoldsListing (sealed passed : FrameList Numbered) (read : FrameList ℕ)
    (listing : Listing) : Type 0 where
  pub sealed_ones : Holds sealed (kept_frames listing.sealed)
  pub passed_ones : Holds passed (kept_frames listing.passed)
  pub read_ones : Holds read (kept_reads listing.reads)
  pub in_turn : AreNumberedFrom 0 listing.sealed

-- Holds if the bytes of each list are exactly those of its frames.
pub record AreWholeLists (sealed passed : FrameList Numbered) (read : FrameList ℕ) : Type 0 where
  pub sealed_ones : ListIsWhole sealed
  pub passed_ones : ListIsWhole passed
  pub read_ones : ListIsWhole read
