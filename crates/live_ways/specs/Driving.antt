-- How a stream of both ways of a live line is driven to its end.
use Rattle.std.specs.Prelude.{◌≡◌, ◌≢◌, ◌⊎◌, ℕ, ◌++◌, List, [], Result, Ok, Err, OnOk, IfErr}
use Rattle.std.specs.Prelude.{true, false}
use Rattle.std.specs.Io.KnownBytes.{prepend_known, IsAtEnd}
use Rattle.yasir_io.specs.declared.disk.SlotDisk.{Ghosts as SlotDisk}
use Rattle.yasir_ticks.specs.declared.tick.Tick.{Tick}
use Rattle.sequence_journal.specs.Ahead.{ahead_floor, ahead_number}
use Rattle.sequence_journal.specs.declared.journal.JournalFault.{JournalFault as Fault}
use Rattle.tick_drive.specs.declared.consumer.Stop.{Stop}
use Rattle.tick_drive.specs.declared.consumer.Stop.TheVariants.{JournalFault}
use Rattle.line_commands.specs.Lines.{HasRead}
use Rattle.line_commands.specs.declared.port.Port.{Ghosts as Port}
use Rattle.live_line.specs.WayLines.{Lowers, IsAhead, StandsOver}
use Rattle.live_line.specs.WayText.{HasParted}
use Rattle.live_line.specs.declared.way_box.WayBox.{Ghosts as WayBox}
use Rattle.live_line.specs.declared.way_lines.WayLines.{WayLines}
use Rattle.live_line.specs.declared.ways.Way.{Way}
use Rattle.live_ways.specs.BothDisks.{disk_on}
use Rattle.live_ways.specs.Ends.{is_read_end, is_stopped_end, is_lowered_end, end_in}
use Rattle.live_ways.specs.LiveLine.{LineAt, LineOrigin, LineGoes, LineStands, HeardAt, HandedAt}
use Rattle.live_ways.specs.LiveLine.{HaltsAt, StandsClear, IsReadyLine, IsAbleLine, EndsAt}
use Rattle.live_ways.specs.LiveLine.{lines_on, reader_on, kept_on, read_further}
use Rattle.live_ways.specs.WayEnds.{EndsAtLast, EndsReading, closed}
use Rattle.live_ways.specs.declared.both_disks.BothDisks.{BothDisks}
use Rattle.live_ways.specs.declared.both_ways.LiveLine.{LiveLine}
use Rattle.live_ways.specs.declared.way_end.WayEnd.{WayEnd}
use Rattle.live_ways.specs.declared.way_end.WayEnd.TheVariants.{Whole, Stopped}

-- Nothing was read of a stream.
pub record HasReadNothing {X Y : Type 0} (line : LiveLine X Y) : Type 0 where
  pub parted : HasParted line.ways []
  pub reads : (way : Way) → HasRead (reader_on line way).reader []
  pub count : (way : Way) → (reader_on line way).ticks ≡ 0

-- The disk of each way holds the number for which it was settled.
abbrev pub IsLevel : {X Y : Type 0} → LiveLine X Y → Type 0
IsLevel line = (way : Way) → ahead_floor (kept_on line way) ≡ ahead_number (kept_on line way)

-- The floor of a way's disk may be brought down: it is from the number for which it was settled to
-- the most that may be above it, and the disk is as the journal knows it.
pub record MayLower {X D : Type 0} (d : SlotDisk D) (lines : WayLines X) (disk : D) : Type 0 where
  pub ahead : IsAhead lines
  pub stands : StandsOver lines (d.told disk)

module _ {X Y D : Type 0} (d : SlotDisk D) (old new : LiveLine X Y) (before now : BothDisks D) where
  -- The floor of a way's disk was brought down to the last number for which it was settled, or the
  -- disk failed on the way.
  abbrev pub LowersOn : (way : Way) → Result (Unit {0}) Fault → Type 0
  LowersOn way = Lowers d (lines_on old way) (lines_on new way) (disk_on before way)
      (disk_on now way)

  -- Nothing of a way has changed.
  pub record IsSameOn (way : Way) : Type 0 where
    pub lines : lines_on new way ≡ lines_on old way
    pub disk : disk_on now way ≡ disk_on before way

  -- The disk of a way failed while its floor was brought down. The floor of the other way's disk
  -- was brought down before, or nothing of that way has changed.
  pub record FailsToLower (way : Way) : Type 0 where
    pub fault : Fault
    pub lowers : LowersOn way (Err fault)
    pub others : (other : Way) → other ≢ way → LowersOn other (Ok tt) ⊎ IsSameOn other

  -- The floors of both disks were brought down behind a stream that ended in this way, or a disk
  -- failed on the way.
  pub record LowersAfter (end result : WayEnd) : Type 0 where
    pub goes_on : is_lowered_end end ≡ true
    pub answer : ((result ≡ end) × ((way : Way) → LowersOn way (Ok tt)))
        ⊎ ((way : Way) × ((result ≡ Stopped way JournalFault) × FailsToLower way))

  -- The same; or a fault had ended the stream, and nothing was done.
  abbrev pub LowersBehind : WayEnd → WayEnd → Type 0
  LowersBehind end result =
      ((is_lowered_end end ≡ false) × (new ≡ old) × (now ≡ before) × (result ≡ end))
      ⊎ LowersAfter end result

module _ {X Y P D : Type 0} (x : WayBox X) (y : WayBox Y) (p : Port P) (d : SlotDisk D) where
  -- Calls that read nothing ended a last line that hadn't ended.
  pub record Closes (old new : LineAt X Y P D) : Type 0 where
    pub ready : IsReadyLine x y p d new
    pub goes : LineGoes x y p d old new Whole
    pub left : p.left new.port ≡ p.left old.port
    pub takes : (origin : LineOrigin) (stream : List ℕ) → LineStands x y p d old origin stream
        → LineStands x y p d new origin (closed stream)

  -- Calls that read nothing ended in this way where a last line was to be ended.
  pub record EndsClosing (old new : LineAt X Y P D) (end : WayEnd) : Type 0 where
    pub goes : LineGoes x y p d old new end
    pub left : p.left new.port ≡ p.left old.port
    pub no_read : is_read_end end ≡ false
    pub ready : is_stopped_end end ≡ false → IsReadyLine x y p d new
    pub ends : (origin : LineOrigin) (stream : List ℕ) → LineStands x y p d old origin stream
        → EndsAt x y p d new end origin (closed stream)

  -- what each result says of ending a last line
  abbrev pub CloseAnswer : LineAt X Y P D → LineAt X Y P D → Result (Unit {0}) WayEnd → Type 0
  CloseAnswer old new (Ok x) = Closes old new
  CloseAnswer old new (Err end) = EndsClosing old new end

  -- Both ways have taken these ticks more, or a way was stopped at one of them. Nothing was read.
  pub record TakesMore (extra : Way → List Tick) (old new : LineAt X Y P D)
      (result : Result (Unit {0}) WayEnd) : Type 0 where
    pub goes : LineGoes x y p d old new (end_in result)
    pub left : p.left new.port ≡ p.left old.port
    pub able : OnOk result (IsAbleLine x y p d new)
    pub taken : OnOk result ((origin : LineOrigin) (lines : Way → List Tick)
        → HeardAt x y p d old origin lines
        → HeardAt x y p d new origin (λ way. lines way ++ extra way))
    pub stopped : IfErr result (λ end. (way : Way) × ((stop : Stop) × ((end ≡ Stopped way stop)
        × ((origin : LineOrigin) (lines : Way → List Tick) → HeardAt x y p d old origin lines
        → HaltsAt x y p d new origin way stop (λ way. lines way ++ extra way)))))

  -- Calls that read nothing took the end of the stream and then the silent ticks that follow the
  -- texts of both ways, and ended in this way. `Heard` holds of the lines that were taken.
  pub record TakesEnd (rest : Way → ℕ) (Heard : LineOrigin → (Way → List Tick) → Type 0)
      (old new : LineAt X Y P D) (end : WayEnd) : Type 0 where
    pub goes : LineGoes x y p d old new end
    pub left : p.left new.port ≡ p.left old.port
    pub no_read : is_read_end end ≡ false
    pub able : is_stopped_end end ≡ false → IsAbleLine x y p d new
    pub ends : (origin : LineOrigin) (stream : List ℕ) → LineStands x y p d old origin stream
        → EndsAtLast (Heard origin) (HaltsAt x y p d new origin) rest end (closed stream)

  -- A stream was read, and what the boxes make of its lines is handed on, unless a way was stopped.
  -- It ended in this way.
  pub record HearsStream (rest : Way → ℕ) (old new : LineAt X Y P D) (end : WayEnd) : Type 0 where
    pub stream : List ℕ
    pub goes : LineGoes x y p d old new end
    pub came : p.left old.port ≡ prepend_known stream (p.left new.port)
    pub able : is_stopped_end end ≡ false → IsAbleLine x y p d new
    pub ends : (origin : LineOrigin) → origin.read ≡ [] → StandsClear x y p d old origin []
        → EndsReading (HandedAt x y p d new (read_further origin stream))
        (HaltsAt x y p d new (read_further origin stream)) rest (IsAtEnd (p.left new.port)) end
        stream

  -- The same. Unless a fault ended the stream, the disk of each way then holds the last number for
  -- which it was settled.
  pub record Drives (rest : Way → ℕ) (old new : LineAt X Y P D) (end : WayEnd) : Type 0 where
    pub heard : HearsStream rest old new end
    pub lowered : is_lowered_end end ≡ true → IsLevel new.line
