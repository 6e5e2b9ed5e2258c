-- Both ways of a live line with the port that they are read from and written to, and the disks of
-- their journals: what they have taken of a stream, and how calls end.
use Rattle.std.specs.Prelude.{◌≡◌, ◌⊎◌, ℕ, ◌+◌, ◌≤◌, List, ◌++◌, IfSome, Result, Ok, Err}
use Rattle.std.specs.Prelude.{true, false, OnOk, IfErr}
use Rattle.std.specs.Io.KnownBytes.{prepend_known, IsAtEnd}
use Rattle.yasir_io.specs.Causes.{Rose}
use Rattle.yasir_io.specs.declared.disk.SlotDisk.{Ghosts as SlotDisk}
use Rattle.yasir_ticks.specs.declared.tick.Tick.{Tick}
use Rattle.link_format.specs.Setup.{Setup}
use Rattle.sequence_journal.specs.Ahead.{ahead_link, ahead_floor, ahead_by}
use Rattle.sequence_journal.specs.Late.{HasFloorBetween}
use Rattle.sequence_journal.specs.declared.ahead.AheadJournal.{AheadJournal}
use Rattle.tick_drive.specs.Consumers.{IsDiskCause}
use Rattle.tick_drive.specs.Input.{IsReadCause}
use Rattle.tick_drive.specs.declared.consumer.Stop.{Stop}
use Rattle.tick_drive.specs.declared.consumer.Stop.TheVariants.{WriteFault, JournalFault, NoMemory}
use Rattle.line_texts.specs.Sending.{LineAndNotes}
use Rattle.line_commands.specs.History.{History}
use Rattle.line_commands.specs.declared.port.Output.{Output}
use Rattle.line_commands.specs.declared.port.Port.{Ghosts as Port}
use Rattle.live_line.specs.BothWays.{HandedBoth, HandedBothFronts, lines_in}
use Rattle.live_line.specs.WayLines.{HasTakenOn, KeepsImages, kept_in, way_in}
use Rattle.live_line.specs.WayRuns.{IsAbleWay}
use Rattle.live_line.specs.WayText.{HasParted, text_on}
use Rattle.live_line.specs.declared.way_box.WayBox.{Ghosts as WayBox}
use Rattle.live_line.specs.declared.way_lines.WayLines.{WayLines}
use Rattle.live_line.specs.declared.ways.Way.{Way}
use Rattle.live_line.specs.declared.ways.Way.TheVariants.{Outgoing, Incoming}
use Rattle.live_ways.specs.BothDisks.{disk_on}
use Rattle.live_ways.specs.Ends.{is_disk_end, is_read_end, is_write_end, is_stopped_end, end_in}
use Rattle.live_ways.specs.WayEnds.{EndsWithin}
use Rattle.live_ways.specs.WayReading.{WayHas, IsReadyWay, way_at}
use Rattle.live_ways.specs.declared.both_disks.BothDisks.{BothDisks}
use Rattle.live_ways.specs.declared.both_ways.LiveLine.{LiveLine}
use Rattle.live_ways.specs.declared.way_end.WayEnd.{WayEnd}
use Rattle.live_ways.specs.declared.way_end.WayEnd.TheVariants.{Whole, ReadFault, Stopped}
use Rattle.live_ways.specs.declared.way_reader.WayReader.{WayReader}

-- both ways, the port and the disks
pub record LineAt (X Y P D : Type 0) : Type 0 where
  pub line : LiveLine X Y
  pub port : P
  pub disks : BothDisks D

-- the record with these
abbrev pub line_at : {X Y P D : Type 0} → LiveLine X Y → P → BothDisks D → LineAt X Y P D
line_at line port disks = record { line = line; port = port; disks = disks }

-- the type of the box of a way
abbrev pub BoxOn : Type 0 → Type 0 → Way → Type 0
BoxOn X Y Outgoing = X
BoxOn X Y Incoming = Y

-- the reader of a way
abbrev pub reader_on : {X Y : Type 0} → LiveLine X Y → (way : Way) → WayReader (BoxOn X Y way)
reader_on line Outgoing = line.outgoing
reader_on line Incoming = line.incoming

-- what waits of a way
abbrev pub lines_on : {X Y : Type 0} → LiveLine X Y → (way : Way) → WayLines (BoxOn X Y way)
lines_on line way = (reader_on line way).lines

-- the journal of the numbers of a way
abbrev pub kept_on : {X Y : Type 0} → LiveLine X Y → Way → AheadJournal
kept_on line way = kept_in (lines_on line way)

-- how calls ended after which what waits was handed on with this result
abbrev pub after_handing : Result (Unit {0}) WayEnd → Result (Unit {0}) WayEnd
    → Result (Unit {0}) WayEnd
after_handing ended (Ok x) = ended
after_handing ended (Err end) = Err end

-- how the history began, what was read since, and the setup of the box of each way
pub record LineOrigin : Type 0 where
  pub start : History
  pub read : List ℕ
  pub setup : Way → Setup

-- an origin with the same start, and with more bytes read
abbrev pub read_further : LineOrigin → List ℕ → LineOrigin
read_further origin more = record origin { read = origin.read ++ more }

module _ {X Y : Type 0} (x : WayBox X) (y : WayBox Y) where
  -- what is said of the box of a way
  abbrev pub box_on : (way : Way) → WayBox (BoxOn X Y way)
  box_on Outgoing = x
  box_on Incoming = y

  -- what is made of the line of each way
  abbrev pub made_on : (Way → Setup) → Way → LineAndNotes
  made_on setup way = (box_on way).made (setup way)

  -- the last number used for a line of each way
  abbrev pub number_on : (Way → Setup) → Way → List Tick → ℕ
  number_on setup way line = (box_on way).number_for (setup way) line

module _ {X Y P D : Type 0} (x : WayBox X) (y : WayBox Y) (p : Port P) (d : SlotDisk D) where
  -- This stream was read, and the boxes of both ways have taken the ticks of the lines that ended
  -- in it. What they make of the first of them is handed on.
  pub record LineStands (at : LineAt X Y P D) (origin : LineOrigin) (stream : List ℕ) : Type 0
    where
      pub parted : HasParted at.line.ways stream
      pub early : Way → List Tick
      pub handed : HandedBoth (made_on x y origin.setup) origin.start (p.history at.port) origin.read
          early
      pub reads : (way : Way) → WayHas (box_on x y way) (reader_on at.line way) (origin.setup way)
          (early way) (text_on way stream)

  -- The boxes have taken these lines. What they make of the first ticks, `early`, is handed on.
  pub record HeardAt (at : LineAt X Y P D) (origin : LineOrigin) (lines : Way → List Tick) : Type 0
    where
      pub early : Way → List Tick
      pub handed : HandedBoth (made_on x y origin.setup) origin.start (p.history at.port) origin.read
          early
      pub taken : (way : Way) → HasTakenOn (box_on x y way) (lines_on at.line way)
          (origin.setup way) (early way) (lines way)

  -- The same, and nothing waits.
  pub record HandedAt (at : LineAt X Y P D) (origin : LineOrigin) (lines : Way → List Tick) : Type 0
    where
      pub heard : HeardAt at origin lines
      pub all : (way : Way) → heard.early way ≡ lines way

  -- The disk of a way failed in a settle. What the boxes make of `early` was handed on before, and
  -- they had taken `later` after it.
  pub record SettleFails (at : LineAt X Y P D) (origin : LineOrigin) (lines : Way → List Tick) :
      Type 0 where
    pub early : Way → List Tick
    pub later : Way → List Tick
    pub more : Way → List Tick
    pub all : (way : Way) → (early way ++ later way) ++ more way ≡ lines way
    pub handed : HandedBoth (made_on x y origin.setup) origin.start (p.history at.port) origin.read
        early
    pub reached : (way : Way) → number_on x y origin.setup way (early way)
        ≤ ahead_floor (kept_on at.line way)
    pub floors : (way : Way) → IfSome (d.told (disk_on at.disks way))
        (HasFloorBetween (ahead_link (kept_on at.line way))
        (number_on x y origin.setup way (early way))
        (number_on x y origin.setup way (early way ++ later way)
        + ahead_by (kept_on at.line way)))

  -- A write or a flush failed. Fronts of what the boxes make of the lines `heard` are written.
  pub record WriteFails (at : LineAt X Y P D) (origin : LineOrigin) (lines : Way → List Tick) :
      Type 0 where
    pub heard : Way → List Tick
    pub more : Way → List Tick
    pub all : (way : Way) → heard way ++ more way ≡ lines way
    pub fronts : HandedBothFronts (made_on x y origin.setup) origin.start (p.history at.port)
        origin.read heard
    pub reached : (way : Way) → number_on x y origin.setup way (heard way)
        ≤ ahead_floor (kept_on at.line way)
    pub floors : (way : Way) → IfSome (d.told (disk_on at.disks way))
        (HasFloorBetween (ahead_link (kept_on at.line way))
        (number_on x y origin.setup way (heard way))
        (number_on x y origin.setup way (heard way) + ahead_by (kept_on at.line way)))

  -- why a way was stopped at one of these ticks
  abbrev pub HaltsAt : LineAt X Y P D → LineOrigin → Way → Stop → (Way → List Tick) → Type 0
  HaltsAt at origin way JournalFault lines = SettleFails at origin lines
  HaltsAt at origin way WriteFault lines = WriteFails at origin lines
  HaltsAt at origin way NoMemory lines = ⊥

  -- Both ways may take more.
  abbrev pub IsReadyLine : LineAt X Y P D → Type 0
  IsReadyLine at = (way : Way) → IsReadyWay (box_on x y way) p d way (reader_on at.line way) at.port
      (disk_on at.disks way)

  -- What waits of both ways may be handed on, and both may take more ticks.
  abbrev pub IsAbleLine : LineAt X Y P D → Type 0
  IsAbleLine at = (way : Way) → IsAbleWay (box_on x y way) p d way
      (way_at (reader_on at.line way) at.port (disk_on at.disks way))

  -- What holds after calls that ended in this way: the images of the disks are kept, and each fault
  -- has its cause.
  pub record LineGoes (old new : LineAt X Y P D) (end : WayEnd) : Type 0 where
    pub images : (way : Way) → KeepsImages d (kept_on old.line way) (kept_on new.line way)
        (disk_on old.disks way) (disk_on new.disks way)
    pub disks : (way : Way) → IsDiskCause (d.faults (disk_on old.disks way))
        (d.faults (disk_on new.disks way)) (is_disk_end way end)
    pub reads : IsReadCause (p.read_faults old.port) (p.read_faults new.port) (is_read_end end)
    pub same : is_write_end end ≡ false
        → (to : Output) → p.write_faults new.port to ≡ p.write_faults old.port to
    pub failed : is_write_end end ≡ true
        → (to : Output) × Rose (p.write_faults old.port to) (p.write_faults new.port to)

  -- an end that came inside a stream, of which the boxes have taken the lines before
  abbrev pub EndsAt : LineAt X Y P D → WayEnd → LineOrigin → List ℕ → Type 0
  EndsAt at end origin = EndsWithin (HeardAt at origin) (HaltsAt at origin) end

  -- the same, and all that they make of these is handed on
  abbrev pub EndsHanded : LineAt X Y P D → WayEnd → LineOrigin → List ℕ → Type 0
  EndsHanded at end origin = EndsWithin (HandedAt at origin) (HaltsAt at origin) end

  -- Calls that read nothing took these bytes.
  pub record TakesBytes (old new : LineAt X Y P D) (bytes : List ℕ) : Type 0 where
    pub ready : IsReadyLine new
    pub goes : LineGoes old new Whole
    pub left : p.left new.port ≡ p.left old.port
    pub takes : (origin : LineOrigin) (stream : List ℕ) → LineStands old origin stream
        → LineStands new origin (stream ++ bytes)

  -- Calls that read nothing ended in this way within these bytes.
  pub record EndsInBytes (old new : LineAt X Y P D) (end : WayEnd) (bytes : List ℕ) : Type 0 where
    pub goes : LineGoes old new end
    pub left : p.left new.port ≡ p.left old.port
    pub no_read : is_read_end end ≡ false
    pub ready : is_stopped_end end ≡ false → IsReadyLine new
    pub ends : (origin : LineOrigin) (stream : List ℕ) → LineStands old origin stream
        → EndsAt new end origin (stream ++ bytes)

  -- what each result says of taking bytes
  abbrev pub BytesAnswer : LineAt X Y P D → LineAt X Y P D → List ℕ → Result (Unit {0}) WayEnd
      → Type 0
  BytesAnswer old new bytes (Ok x) = TakesBytes old new bytes
  BytesAnswer old new bytes (Err end) = EndsInBytes old new end bytes

  -- What waited of one way or of both was handed on, or a way was stopped. No tick was taken, and
  -- nothing was read. Unless a way was stopped, `Handed` holds of what was heard before.
  pub record HandsSo (Handed : LineOrigin → (Way → List Tick) → Type 0) (old new : LineAt X Y P D)
      (result : Result (Unit {0}) WayEnd) : Type 0 where
    pub goes : LineGoes old new (end_in result)
    pub left : p.left new.port ≡ p.left old.port
    pub parted : new.line.ways ≡ old.line.ways
    pub same : (way : Way) → (reader_on new.line way).reader ≡ (reader_on old.line way).reader
    pub ticks : (way : Way) → (reader_on new.line way).ticks ≡ (reader_on old.line way).ticks
    pub able : OnOk result (IsAbleLine new)
    pub counted : OnOk result ((way : Way) → (box_on x y way).taken (way_in (lines_on new.line way))
        ≡ (box_on x y way).taken (way_in (lines_on old.line way)))
    pub handed : OnOk result ((origin : LineOrigin) (lines : Way → List Tick)
        → HeardAt old origin lines → Handed origin lines)
    pub stopped : IfErr result (λ end. (way : Way) × ((stop : Stop) × ((end ≡ Stopped way stop)
        × ((origin : LineOrigin) (lines : Way → List Tick) → HeardAt old origin lines
        → HaltsAt new origin way stop lines))))

  -- All that waited of both ways was handed on, or a way was stopped.
  abbrev pub HandsBoth : LineAt X Y P D → LineAt X Y P D → Result (Unit {0}) WayEnd → Type 0
  HandsBoth old new result = HandsSo (HandedAt new) old new result

  -- What waited after calls that ended in this way was handed on.
  pub record HandsAfter (old new : LineAt X Y P D) (ended result : Result (Unit {0}) WayEnd) :
      Type 0 where
    pub goes_on : is_stopped_end (end_in ended) ≡ false
    pub answer : Result (Unit {0}) WayEnd
    pub hands : HandsBoth old new answer
    pub is : result ≡ after_handing ended answer

  -- What waited after calls that ended in this way was handed on, or these calls stopped a way and
  -- nothing was done.
  abbrev pub HandsBehind : LineAt X Y P D → LineAt X Y P D → Result (Unit {0}) WayEnd
      → Result (Unit {0}) WayEnd → Type 0
  HandsBehind old new ended result =
      ((is_stopped_end (end_in ended) ≡ true) × (new ≡ old) × (result ≡ ended))
      ⊎ HandsAfter old new ended result

  -- This stream was read, and all that the boxes make of the lines that ended in it is handed on.
  pub record StandsClear (at : LineAt X Y P D) (origin : LineOrigin) (stream : List ℕ) : Type 0
    where
      pub stands : LineStands at origin stream
      pub all : (way : Way) → stands.early way ≡ lines_in stream way

  -- Calls that read nothing took these bytes, and what the boxes make of their lines is handed on.
  pub record TakesPiece (old new : LineAt X Y P D) (bytes : List ℕ) : Type 0 where
    pub ready : IsReadyLine new
    pub goes : LineGoes old new Whole
    pub left : p.left new.port ≡ p.left old.port
    pub takes : (origin : LineOrigin) (stream : List ℕ) → LineStands old origin stream
        → StandsClear new origin (stream ++ bytes)

  -- Calls that read nothing ended in this way within these bytes, and, unless a way was stopped,
  -- what the boxes make of the lines before is handed on.
  pub record EndsPiece (old new : LineAt X Y P D) (end : WayEnd) (bytes : List ℕ) : Type 0 where
    pub goes : LineGoes old new end
    pub left : p.left new.port ≡ p.left old.port
    pub no_read : is_read_end end ≡ false
    pub ready : is_stopped_end end ≡ false → IsReadyLine new
    pub ends : (origin : LineOrigin) (stream : List ℕ) → LineStands old origin stream
        → EndsHanded new end origin (stream ++ bytes)

  -- what each result says of taking bytes, and handing on what the boxes make of them
  abbrev pub PieceAnswer : LineAt X Y P D → LineAt X Y P D → List ℕ → Result (Unit {0}) WayEnd
      → Type 0
  PieceAnswer old new bytes (Ok x) = TakesPiece old new bytes
  PieceAnswer old new bytes (Err end) = EndsPiece old new end bytes

  -- These bytes were read after those that were read before, and what the boxes make of their lines
  -- is handed on.
  pub record Hears (old new : LineAt X Y P D) (end : WayEnd) (more : List ℕ) : Type 0 where
    pub goes : LineGoes old new end
    pub came : p.left old.port ≡ prepend_known more (p.left new.port)
    pub hears : (origin : LineOrigin) → StandsClear old origin origin.read
        → StandsClear new (read_further origin more) (origin.read ++ more)

  -- Some bytes were read, and the input ended after them.
  pub record HearsAll (old new : LineAt X Y P D) : Type 0 where
    pub more : List ℕ
    pub heard : Hears old new Whole more
    pub ready : IsReadyLine new
    pub at_end : IsAtEnd (p.left new.port)

  -- Some bytes were read, and the read after them failed.
  pub record FailsToHear (old new : LineAt X Y P D) : Type 0 where
    pub more : List ℕ
    pub heard : Hears old new ReadFault more
    pub ready : IsReadyLine new

  -- The calls ended in this way within the bytes that were read.
  pub record EndsHearing (old new : LineAt X Y P D) (end : WayEnd) : Type 0 where
    pub more : List ℕ
    pub goes : LineGoes old new end
    pub came : p.left old.port ≡ prepend_known more (p.left new.port)
    pub ready : is_stopped_end end ≡ false → IsReadyLine new
    pub ends : (origin : LineOrigin) → StandsClear old origin origin.read
        → EndsHanded new end (read_further origin more) (origin.read ++ more)

  -- what each result says of reading the input to its end
  abbrev pub HearAnswer : LineAt X Y P D → LineAt X Y P D → Result (Unit {0}) WayEnd → Type 0
  HearAnswer old new (Ok x) = HearsAll old new
  HearAnswer old new (Err end) = ((end ≡ ReadFault) × FailsToHear old new)
      ⊎ ((is_read_end end ≡ false) × EndsHearing old new end)
