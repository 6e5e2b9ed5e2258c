-- One way of a live line with the reader of its text: what it has taken, and what a byte does.
use Rattle.std.specs.Prelude.{◌≡◌, ℕ, ◌<◌, ◌≤◌, List, [], ◌∷◌, ◌++◌, length, Result, Ok, Err}
use Rattle.yasir_io.specs.declared.disk.SlotDisk.{Ghosts as SlotDisk}
use Rattle.yasir_ticks.specs.Ticks.{ticks_in}
use Rattle.yasir_ticks.specs.TickText.{ended_items, IsRefusedAfter, fault_after}
use Rattle.yasir_ticks.specs.declared.tick.Tick.{Tick}
use Rattle.link_format.specs.Setup.{Setup}
use Rattle.tick_drive.specs.declared.consumer.Stop.{Stop}
use Rattle.tick_drive.specs.declared.end.TooMuch.TheVariants.{Ticks, Bytes}
use Rattle.line_commands.specs.Lines.{HasRead, EndsNoLine}
use Rattle.line_commands.specs.declared.port.Port.{Ghosts as Port}
use Rattle.live_commands.specs.declared.live_box.TheConstants.{MAX_LIVE_TICKS}
use Rattle.live_line.specs.WayLines.{WayOutside, way_outside, HasTakenOn, way_in}
use Rattle.live_line.specs.WayRuns.{WayOrigin, WayStands, WayStops, IsAbleWay, WayWent}
use Rattle.live_line.specs.declared.way_box.WayBox.{Ghosts as WayBox}
use Rattle.live_line.specs.declared.ways.Way.{Way}
use Rattle.live_ways.specs.declared.way_end.WayFault.{WayFault}
use Rattle.live_ways.specs.declared.way_end.WayFault.TheVariants as fault
use Rattle.live_ways.specs.declared.way_reader.WayReader.{WayReader}

-- One way with the port and the disk of its journal.
abbrev pub way_at : {X P D : Type 0} → WayReader X → P → D → WayOutside X P D
way_at reader port disk = way_outside reader.lines port disk

module _ {X : Type 0} (x : WayBox X) where
  -- The reader has read this text of a way, and the box has taken the ticks of the lines that ended
  -- in it. What it makes of the first of them, `early`, is handed on.
  pub record WayHas (reader : WayReader X) (setup : Setup) (early : List Tick) (text : List ℕ) :
      Type 0 where
    pub has_read : HasRead reader.reader text
    pub taken : HasTakenOn x reader.lines setup early (ticks_in (ended_items text))
    pub count : reader.ticks ≡ length (ticks_in (ended_items text))

module _ {X P D : Type 0} (x : WayBox X) (p : Port P) (d : SlotDisk D) (way : Way) where
  -- The same, beside the other way.
  pub record WayReads (reader : WayReader X) (port : P) (disk : D) (origin : WayOrigin)
      (text : List ℕ) : Type 0 where
    pub has_read : HasRead reader.reader text
    pub stands : WayStands x p d way (way_at reader port disk) origin (ticks_in (ended_items text))
    pub count : reader.ticks ≡ length (ticks_in (ended_items text))

  -- It has counted its ticks, and may take more.
  pub record IsReadyWay (reader : WayReader X) (port : P) (disk : D) : Type 0 where
    pub able : IsAbleWay x p d way (way_at reader port disk)
    pub counted : x.taken (way_in reader.lines) ≡ reader.ticks
    pub few : reader.ticks ≤ MAX_LIVE_TICKS

  -- One more byte of the text of a way was taken.
  pub record TakesByte (old new : WayReader X) (old_port new_port : P) (old_disk new_disk : D)
      (byte : ℕ) : Type 0 where
    pub ready : IsReadyWay new new_port new_disk
    pub went : WayWent x p d way (way_at old old_port old_disk) (way_at new new_port new_disk)
        (Ok tt)
    pub takes : (origin : WayOrigin) (text : List ℕ) → WayReads old old_port old_disk origin text
        → WayReads new new_port new_disk origin (text ++ byte ∷ [])

  -- The text of a way ended the calls, and nothing else than the reader has changed. `Says` holds of
  -- each text that was read before.
  pub record EndsUnchanged (old new : WayReader X) (old_port new_port : P) (old_disk new_disk : D)
      (Says : List ℕ → Type 0) : Type 0 where
    pub lines : new.lines ≡ old.lines
    pub ticks : new.ticks ≡ old.ticks
    pub port : new_port ≡ old_port
    pub disk : new_disk ≡ old_disk
    pub says : (text : List ℕ) → HasRead old.reader text
        → old.ticks ≡ length (ticks_in (ended_items text)) → Says text

  -- Holds if a way was stopped at a tick of a line.
  pub record StopsWithin (reader : WayReader X) (port : P) (disk : D) (origin : WayOrigin)
      (stop : Stop) (line : List Tick) : Type 0 where
    pub taken : List Tick
    pub more : List Tick
    pub all : taken ++ more ≡ line
    pub stops : WayStops x p d way (way_at reader port disk) stop origin taken

  -- The way was stopped at a tick of the line that the byte ended.
  pub record StopsAtByte (old new : WayReader X) (old_port new_port : P) (old_disk new_disk : D)
      (byte : ℕ) (stop : Stop) : Type 0 where
    pub went : WayWent x p d way (way_at old old_port old_disk) (way_at new new_port new_disk)
        (Err stop)
    pub reads : (text : List ℕ) → HasRead old.reader text
        → HasRead new.reader (text ++ byte ∷ [])
    pub stops : (origin : WayOrigin) (text : List ℕ) → WayReads old old_port old_disk origin text
        → StopsWithin new new_port new_disk origin stop (ticks_in (ended_items (text ++ byte ∷ [])))

  -- what each fault says of a byte that was to be taken
  abbrev pub FaultsAtByte : WayReader X → WayReader X → P → P → D → D → ℕ → WayFault → Type 0
  FaultsAtByte old new old_port new_port old_disk new_disk byte (fault.Refused why) =
      EndsUnchanged old new old_port new_port old_disk new_disk (λ text.
      IsRefusedAfter 0 text byte × (why ≡ fault_after text byte))
  FaultsAtByte old new old_port new_port old_disk new_disk byte (fault.TooLong Ticks count) =
      EndsUnchanged old new old_port new_port old_disk new_disk (λ text.
      (MAX_LIVE_TICKS < count) × (count ≡ length (ticks_in (ended_items (text ++ byte ∷ [])))))
  FaultsAtByte old new old_port new_port old_disk new_disk byte (fault.TooLong Bytes count) =
      EndsUnchanged old new old_port new_port old_disk new_disk (λ text.
      (2147483648 < count) × EndsNoLine text count)
  FaultsAtByte old new old_port new_port old_disk new_disk byte (fault.Stopped stop) =
      StopsAtByte old new old_port new_port old_disk new_disk byte stop

  -- what each result says of a byte
  abbrev pub ByteAnswer : WayReader X → WayReader X → P → P → D → D → ℕ
      → Result (Unit {0}) WayFault → Type 0
  ByteAnswer old new old_port new_port old_disk new_disk byte (Ok x) =
      TakesByte old new old_port new_port old_disk new_disk byte
  ByteAnswer old new old_port new_port old_disk new_disk byte (Err found) =
      FaultsAtByte old new old_port new_port old_disk new_disk byte found
