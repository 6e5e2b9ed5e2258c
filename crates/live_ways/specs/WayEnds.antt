-- How the reading of a live line of two ways ends, and what of its stream was taken then.
-- `Heard lines` holds if the ways have taken all ticks of these lines, and `Halts way stop lines`
-- holds if a way was stopped at one of them.
use Rattle.std.specs.Prelude.{◌≡◌, ◌≢◌, ℕ, ◌<◌, ◌≤◌, ◌⊎◌, List, [], ◌∷◌, ◌++◌, length}
use Rattle.yasir_ticks.specs.Ticks.{silent}
use Rattle.yasir_ticks.specs.TickText.{BeginsTickText, IsRefusedAfter}
use Rattle.yasir_ticks.specs.TickText.{line_after, fault_after, lines_of}
use Rattle.yasir_ticks.specs.declared.fault.BadTicks.{BadTicks}
use Rattle.yasir_ticks.specs.declared.tick.Tick.{Tick}
use Rattle.tick_drive.specs.declared.consumer.Stop.{Stop}
use Rattle.tick_drive.specs.declared.end.TooMuch.TheVariants as much
use Rattle.line_commands.specs.Counted.{capped}
use Rattle.line_commands.specs.Lines.{EndsNoLine}
use Rattle.live_commands.specs.declared.live_box.TheConstants.{MAX_LIVE_TICKS, MAX_LIVE_BYTES}
use Rattle.live_line.specs.BothWays.{lines_in}
use Rattle.live_line.specs.WayText.{text_on, letter_of, IsLettered, AreLettered}
use Rattle.live_line.specs.declared.ways.Way.{Way}
use Rattle.live_ways.specs.declared.way_end.WayEnd.{WayEnd}
use Rattle.live_ways.specs.declared.way_end.WayEnd.TheVariants.{Whole, Refused, NoWay, TooLong}
use Rattle.live_ways.specs.declared.way_end.WayEnd.TheVariants.{TooManyBytes, ReadFault, Stopped}

-- Holds if a right stream may begin with these bytes: each line begins with the letter of a way,
-- and a right text begins with the text of each way.
pub record BeginsStream (stream : List ℕ) : Type 0 where
  pub lettered : AreLettered (lines_of stream).ended
  pub last : ((lines_of stream).last ≡ []) ⊎ IsLettered (lines_of stream).last
  pub begins : (way : Way) → BeginsTickText 0 (text_on way stream)

-- Holds if this is a right stream: all its lines have ended, and a right stream begins with them.
pub record IsStream (stream : List ℕ) : Type 0 where
  pub ended : (lines_of stream).last ≡ []
  pub begins : BeginsStream stream

-- a stream of which the last line is this, with an LF that ends it if it hasn't ended
abbrev pub ended_by : List ℕ → List ℕ → List ℕ
ended_by [] stream = stream
ended_by (c ∷ last) stream = stream ++ 10 ∷ []

-- a stream with an LF that ends its last line, if that line hasn't ended
abbrev pub closed : List ℕ → List ℕ
closed stream = ended_by (lines_of stream).last stream

module _ (Heard : (Way → List Tick) → Type 0) (Halts : Way → Stop → (Way → List Tick) → Type 0)
  where
    -- Holds if the next byte is one of the text of a way, and no right text begins with that text
    -- and this byte. The line is counted in the stream, and the cause is that of the way's text.
    -- The lines that ended before were taken.
    pub record RefusesNext (way : Way) (bad : BadTicks) (front later : List ℕ) : Type 0 where
      pub byte : ℕ
      pub rest : List ℕ
      pub is : later ≡ byte ∷ rest
      pub own : text_on way (front ++ byte ∷ []) ≡ text_on way front ++ byte ∷ []
      pub refused : IsRefusedAfter 0 (text_on way front) byte
      pub line : bad.line ≡ capped (line_after front)
      pub why : bad.why ≡ fault_after (text_on way front) byte
      pub heard : Heard (lines_in front)

    -- Holds if a line of the stream, which has this number, begins with the next byte, and that is
    -- the letter of no way. The lines that ended before were taken.
    pub record RefusesLetter (line : ℕ) (front later : List ℕ) : Type 0 where
      pub byte : ℕ
      pub rest : List ℕ
      pub is : later ≡ byte ∷ rest
      pub begins : (lines_of front).last ≡ []
      pub is_no_letter : (way : Way) → byte ≢ letter_of way
      pub line_is : line ≡ capped (line_after front)
      pub heard : Heard (lines_in front)

    -- Holds if the next byte ends a line of a way that brings the count of its ticks above the most
    -- that may be taken. The lines that ended before were taken.
    pub record HasTooManyTicks (way : Way) (count : ℕ) (front later : List ℕ) : Type 0 where
      pub byte : ℕ
      pub rest : List ℕ
      pub is : later ≡ byte ∷ rest
      pub sum : count ≡ length (lines_in (front ++ byte ∷ []) way)
      pub above : MAX_LIVE_TICKS < count
      pub heard : Heard (lines_in front)

    -- Holds if too many bytes in a row of the text of a way end no line with ticks. The lines that
    -- ended before were taken.
    pub record HasLongLine (way : Way) (count : ℕ) (front : List ℕ) : Type 0 where
      pub above : 2147483648 < count
      pub none : EndsNoLine (text_on way front) count
      pub heard : Heard (lines_in front)

    -- Holds if so many bytes were read in all that nothing more is read. The lines that ended in
    -- them were taken.
    pub record HasTooManyBytes (count : ℕ) (front : List ℕ) : Type 0 where
      pub above : MAX_LIVE_BYTES ≤ count
      pub sum : count ≤ length front
      pub heard : Heard (lines_in front)

    -- what an end says that comes after the first bytes of a stream
    abbrev pub EndsBehind : WayEnd → List ℕ → List ℕ → Type 0
    EndsBehind (Refused way bad) front later = RefusesNext way bad front later
    EndsBehind (NoWay line) front later = RefusesLetter line front later
    EndsBehind (TooLong way much.Ticks count) front later = HasTooManyTicks way count front later
    EndsBehind (TooLong way much.Bytes count) front later = HasLongLine way count front
    EndsBehind (TooManyBytes count) front later = HasTooManyBytes count front
    EndsBehind (Stopped way stop) front later = Halts way stop (lines_in front)
    EndsBehind end front later = ⊥

    -- Holds if an end came inside a stream, after bytes with which a right stream may begin.
    pub record EndsWithin (end : WayEnd) (stream : List ℕ) : Type 0 where
      pub front : List ℕ
      pub later : List ℕ
      pub is : stream ≡ front ++ later
      pub begins : BeginsStream front
      pub ends : EndsBehind end front later

    -- Holds if a read failed after these bytes, with which a right stream may begin. The lines that
    -- ended in them were taken.
    pub record FailsAfter (stream : List ℕ) : Type 0 where
      pub begins : BeginsStream stream
      pub heard : Heard (lines_in stream)

    -- Holds if the stream is right, and `Of` holds of the ticks of each way with the silent ticks
    -- that follow them.
    pub record IsRightWith (rest : Way → ℕ) (stream : List ℕ) (Of : (Way → List Tick) → Type 0) :
        Type 0 where
      pub right : IsStream stream
      pub holds : Of (λ way. lines_in stream way ++ silent (rest way))

    -- What an end says that comes where the input ended, or in the silent ticks after it. The last
    -- line of the stream is one that an LF ended.
    abbrev pub EndsAtLast : (Way → ℕ) → WayEnd → List ℕ → Type 0
    EndsAtLast rest Whole stream = IsRightWith rest stream Heard
    EndsAtLast rest (Stopped way stop) stream =
        EndsWithin (Stopped way stop) stream ⊎ IsRightWith rest stream (Halts way stop)
    EndsAtLast rest end stream = EndsWithin end stream

    -- What an end says of all that was read: a read failed after it, or the end came inside it, or
    -- the end came after it where the input ended. Where it ended, a last line without an LF is
    -- taken as if it had one.
    abbrev pub EndsReading : (Way → ℕ) → Type 0 → WayEnd → List ℕ → Type 0
    EndsReading rest at_end ReadFault stream = FailsAfter stream
    EndsReading rest at_end end stream =
        EndsWithin end stream ⊎ (at_end × EndsAtLast rest end (closed stream))
