-- The line of one way of a capture, as it is written.
use Rattle.std.specs.Prelude.{◌≡◌, ℕ, ◌<◌, ◌≤◌, ◌-◌, ◌^◌, min, List, [], ◌∷◌, ◌++◌, length, Option}
use Rattle.std.specs.Prelude.{Result, Ok, Err, OnOk, OnErr, ◌⊎◌, Some, None, Bool, true, false}
use Rattle.std.specs.Io.KnownBytes.{append_known}
use Rattle.yasir_io.specs.Output.{GotPrefix}
use Rattle.yasir_io.specs.declared.Failed.{Failed}
use Rattle.yasir_io.specs.declared.sink.Sink.{Ghosts as Sink}
use Rattle.yasir_ticks.specs.CanonicalText.{canonical_text}
use Rattle.yasir_ticks.specs.declared.tick.Tick.{Tick}
use Rattle.tick_drive.specs.Input.{max_ticks}
use Rattle.line_texts.specs.Adding.{TextHasRoom}
use Rattle.line_texts.specs.Sending.{LineAndNotes, SinkTexts, SendsTexts, HasSentFronts}
use Rattle.line_texts.specs.Texts.{Writing, waiting_in, texts_held, Writes}
use Rattle.line_stamps.specs.declared.capture.CaptureByte.{CaptureByte}
use Rattle.line_stamps.specs.declared.placer.Placer.{Placer}
use Rattle.line_stamps.specs.declared.placer.Unplaced.TheVariants.{Early, Late}
use Rattle.line_stamps.specs.declared.timing.Timing.{Timing}
use Rattle.line_stamps.specs.Places.{Spot, spot_of, line_of_places, last_spot}
use Rattle.line_stamps.specs.Placing.{PlacingHasTaken, timing_of, answer_at, NoneRefused, overlap_count}
use Rattle.line_capture.specs.declared.placing.LineEnd.{LineEnd}
use Rattle.line_capture.specs.declared.placing.LineStop.{LineStop}
use Rattle.line_capture.specs.declared.placing.LineStop.TheVariants.{AllPlaced, Unplaced, TooLong}

-- the line itself, and no notes
abbrev pub plain : LineAndNotes
plain = record { other_line = λ line. line; note_lines = λ line. [] }

-- Holds if the bytes begin with this front, each byte of it is placed, and its line has no more
-- ticks than are written.
pub record PlacedIsFront (t : Timing) (cs front rest : List CaptureByte) : Type 0 where
  pub is : cs ≡ front ++ rest
  pub placed : NoneRefused t None front
  pub few : length (line_of_places t front) ≤ max_ticks

-- Holds if there is a next byte, and this holds for it.
abbrev pub NextIs : List CaptureByte → (CaptureByte → Type 0) → Type 0
NextIs [] Holds = ⊥
NextIs (c ∷ rest) Holds = Holds c

-- Holds if this is why no byte after the front is placed.
abbrev pub PlacedStopsAt : Timing → List CaptureByte → List CaptureByte → LineStop → Type 0
PlacedStopsAt t front rest AllPlaced = rest ≡ []
PlacedStopsAt t front rest (Unplaced why) = NextIs rest (λ c. answer_at t (last_spot t front) c ≡ Err why)
PlacedStopsAt t front rest (TooLong count) =
    NextIs rest (λ c. (count ≡ length (line_of_places t (front ++ c ∷ []))) × (max_ticks < count))

-- Holds if a line was written, up to the first byte that isn't placed.
pub record WrittenLine (t : Timing) (cs : List CaptureByte) (before now : Option (List ℕ))
    (end : LineEnd) : Type 0 where
  pub front : List CaptureByte
  pub rest : List CaptureByte
  pub is_front : PlacedIsFront t cs front rest
  pub stop : PlacedStopsAt t front rest end.stop
  pub placed : end.placed ≡ length front
  pub text : now ≡ append_known before (canonical_text (line_of_places t front))

-- Holds if a write failed, and a front of the text of some first ticks was written.
pub record WrittenPart (t : Timing) (cs : List CaptureByte) (before now : Option (List ℕ))
    : Type 0 where
  pub front : List CaptureByte
  pub rest : List CaptureByte
  pub is_front : PlacedIsFront t cs front rest
  pub ticks : List Tick
  pub later : List Tick
  pub are : line_of_places t front ≡ ticks ++ later
  pub got : GotPrefix before now (canonical_text ticks)

-- What a call that writes the line of a way leaves in the output, by its result.
abbrev pub WritesLine : Timing → List CaptureByte → Option (List ℕ) → Option (List ℕ)
    → Result LineEnd Failed → Type 0
WritesLine t cs before now (Ok end) = WrittenLine t cs before now end
WritesLine t cs before now (Err failed) = WrittenPart t cs before now

-- Holds if none of these bytes is early or late, given where the byte before them is, if there is
-- one.
abbrev pub AllInTime : Timing → Option Spot → List CaptureByte → Type 0
AllInTime t last [] = Unit {0}
AllInTime t last (c ∷ cs) = (answer_at t last c ≡ Err Early → ⊥) × (answer_at t last c ≡ Err Late → ⊥)
    × AllInTime t (Some (spot_of t last c)) cs

-- Holds if this many bytes overlap the one before them, of those up to the first byte that is early
-- or late. The count stops at 2^64 - 1.
pub record CountsOverlaps (t : Timing) (cs : List CaptureByte) (count : ℕ) : Type 0 where
  pub front : List CaptureByte
  pub rest : List CaptureByte
  pub is : cs ≡ front ++ rest
  pub in_time : AllInTime t None front
  pub stop : (rest ≡ []) ⊎ NextIs rest (λ c.
      (answer_at t (last_spot t front) c ≡ Err Early)
      ⊎ (answer_at t (last_spot t front) c ≡ Err Late))
  pub count_is : count ≡ min (overlap_count t front) (2 ^ 64 - 1)

-- Holds if a byte was counted and is neither early nor late, or if it wasn't and is early or late.
abbrev pub CountsNext : Placer → Placer → List CaptureByte → CaptureByte → Bool → Type 0
CountsNext placer placed cs c true =
    PlacingHasTaken placed (cs ++ c ∷ []) × (timing_of placed ≡ timing_of placer)
    × (answer_at (timing_of placer) (last_spot (timing_of placer) cs) c ≡ Err Early → ⊥)
    × (answer_at (timing_of placer) (last_spot (timing_of placer) cs) c ≡ Err Late → ⊥)
CountsNext placer placed cs c false = (placed ≡ placer)
    × ((answer_at (timing_of placer) (last_spot (timing_of placer) cs) c ≡ Err Early)
    ⊎ (answer_at (timing_of placer) (last_spot (timing_of placer) cs) c ≡ Err Late))

-- Holds if a byte is placed after others, and adds these ticks to the line.
pub record PlacesByte (t : Timing) (cs : List CaptureByte) (c : CaptureByte) (more : List Tick)
    : Type 0 where
  pub silence : ℕ
  pub answer : answer_at t (last_spot t cs) c ≡ Ok silence
  pub line : line_of_places t (cs ++ c ∷ []) ≡ line_of_places t cs ++ more
  pub few : length (line_of_places t (cs ++ c ∷ [])) ≤ max_ticks

-- Holds if the sinks have got a front of the texts of some first ticks of a line.
pub record SendsFront (before now : SinkTexts) (line : List Tick) : Type 0 where
  pub ticks : List Tick
  pub later : List Tick
  pub is : line ≡ ticks ++ later
  pub sent : HasSentFronts plain before now ticks

module _ {O L : Type 0} (o : Sink O) (l : Sink L) where
  -- Holds if the sinks have got the text of a line, apart from what still waits to be written.
  abbrev pub PlacedSends : SinkTexts → Writing O L → List Tick → Type 0
  PlacedSends start at line = SendsTexts plain (waiting_in at.texts) start (texts_held o l at) line

  -- Holds if these ticks were added and there is room for more, or a write failed at one of them.
  pub record PushesLine (old new : Writing O L) (more : List Tick)
      (result : Result (Unit {0}) Failed) : Type 0 where
    pub goes : OnOk result ((start : SinkTexts) (line : List Tick) → PlacedSends start old line
        → PlacedSends start new (line ++ more))
    pub stops : OnErr result ((start : SinkTexts) (line : List Tick) → PlacedSends start old line
        → SendsFront start (texts_held o l new) (line ++ more))
    pub room : OnOk result (TextHasRoom new.texts)
    pub writes : Writes o l old new result

  -- Holds if a byte is placed, and its ticks were added or a write failed.
  pub record PlacesOne (placer : Placer) (cs : List CaptureByte) (c : CaptureByte)
      (old new : Writing O L) (result : Result (Unit {0}) Failed) : Type 0 where
    pub more : List Tick
    pub places : PlacesByte (timing_of placer) cs c more
    pub pushes : PushesLine old new more result

  -- Holds if a byte was placed, its ticks were added, and the placer has taken it.
  pub record TakesOne (placer placed : Placer) (cs : List CaptureByte) (c : CaptureByte)
      (old new : Writing O L) : Type 0 where
    pub one : PlacesOne placer cs c old new (Ok tt)
    pub taken : PlacingHasTaken placed (cs ++ c ∷ [])
    pub timing : timing_of placed ≡ timing_of placer

  -- Holds if the next byte isn't placed, and nothing was added.
  pub record StopsBefore (t : Timing) (cs : List CaptureByte) (c : CaptureByte)
      (old new : Writing O L) (stop : LineStop) : Type 0 where
    pub why : PlacedStopsAt t cs (c ∷ []) stop
    pub same : new ≡ old

  -- What the next byte leads to, by the result for it: `AllPlaced` says that it was placed.
  abbrev pub PlacesNext : Placer → Placer → List CaptureByte → CaptureByte → Writing O L
      → Writing O L → Result LineStop Failed → Type 0
  PlacesNext placer placed cs c old new (Ok AllPlaced) = TakesOne placer placed cs c old new
  PlacesNext placer placed cs c old new (Ok (Unplaced why)) =
      StopsBefore (timing_of placer) cs c old new (Unplaced why)
  PlacesNext placer placed cs c old new (Ok (TooLong count)) =
      StopsBefore (timing_of placer) cs c old new (TooLong count)
  PlacesNext placer placed cs c old new (Err failed) =
      PlacesOne placer cs c old new (Err failed)

  -- Holds if the bytes of a way were placed and added, up to the first one that isn't placed.
  pub record PlacesAll (t : Timing) (cs : List CaptureByte) (old new : Writing O L)
      (end : LineEnd) : Type 0 where
    pub front : List CaptureByte
    pub rest : List CaptureByte
    pub is_front : PlacedIsFront t cs front rest
    pub stop : PlacedStopsAt t front rest end.stop
    pub placed : end.placed ≡ length front
    pub goes : (start : SinkTexts) → PlacedSends start old [] → PlacedSends start new (line_of_places t front)
    pub writes : Writes o l old new (Ok tt)

  -- Holds if a write failed at one of the bytes of a way.
  pub record PlacesPart (t : Timing) (cs : List CaptureByte) (old new : Writing O L)
      (failed : Failed) : Type 0 where
    pub front : List CaptureByte
    pub rest : List CaptureByte
    pub is_front : PlacedIsFront t cs front rest
    pub stops : (start : SinkTexts) → PlacedSends start old []
        → SendsFront start (texts_held o l new) (line_of_places t front)
    pub writes : Writes o l old new (Err failed)

  -- What a call that places the bytes of a way leads to, by its result.
  abbrev pub PlacesBytes : Timing → List CaptureByte → Writing O L → Writing O L
      → Result LineEnd Failed → Type 0
  PlacesBytes t cs old new (Ok end) = PlacesAll t cs old new end
  PlacesBytes t cs old new (Err failed) = PlacesPart t cs old new failed
