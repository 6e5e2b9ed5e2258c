-- A live line that is driven into a filter: what was read of it, and what was handed on.
use Rattle.std.specs.Prelude.{◌≡◌, ℕ, ◌+◌, ◌<◌, ◌≤◌, List, [], ◌++◌, length, take, Option}
use Rattle.std.specs.Prelude.{Result, Ok, Err, Bool, true, false, ◌⊎◌}
use Rattle.std.specs.Io.KnownBytes.{prepend_known, IsAtEnd}
use Rattle.yasir_io.specs.Disks.{Slots}
use Rattle.yasir_io.specs.declared.disk.SlotDisk.{Ghosts as SlotDisk}
use Rattle.yasir_ticks.specs.Ticks.{Item, ticks_in}
use Rattle.yasir_ticks.specs.TickText.{ended_items}
use Rattle.yasir_ticks.specs.declared.tick.Tick.{Tick}
use Rattle.sequence_journal.specs.declared.journal.JournalFault.{JournalFault}
use Rattle.link_box.specs.declared.box_trait.LinkBox.{Ghosts as LinkBox}
use Rattle.tick_drive.specs.Consumers.{Gives, IsDiskCause, is_journal_fault, is_write_fault}
use Rattle.tick_drive.specs.Drive.{drive_answer_of}
use Rattle.tick_drive.specs.Input.{IsReadCause, is_read_fault}
use Rattle.tick_drive.specs.declared.consumer.Stop.{Stop, TheVariants.JournalFault as JournalStop}
use Rattle.tick_drive.specs.declared.end.End.{End}
use Rattle.tick_drive.specs.declared.end.End.TheVariants.{Whole, Refused, TooLong, ReadFault}
use Rattle.tick_drive.specs.declared.end.End.TheVariants.{Stopped}
use Rattle.tick_drive.specs.declared.end.TooMuch.TheVariants.{Ticks}
use Rattle.line_commands.specs.History.{History}
use Rattle.line_commands.specs.Lines.{HasRead}
use Rattle.line_commands.specs.declared.lines.LineReader.{LineReader}
use Rattle.line_commands.specs.declared.port.Port.{Ghosts as Port}
use Rattle.live_commands.specs.Filtering.{Outside, outside, LiveOrigin, Filters, StopsFilter, IsClear}
use Rattle.live_commands.specs.Filtering.{KeepsImages, OutputCause, HandsOn, filtering}
use Rattle.live_commands.specs.AheadLines.{MayDrive, Lowers, box_in, floor_in, number_in}
use Rattle.line_commands.specs.ReplaysBox.{has_stopped}
use Rattle.live_commands.specs.declared.ahead_lines.AheadLines.{AheadLines}
use Rattle.live_commands.specs.declared.live_box.LiveBox.{LiveBox}
use Rattle.live_commands.specs.declared.live_box.TheConstants.{MAX_LIVE_TICKS}
use Rattle.live_commands.specs.TextEnds.{EndsWithin, EndsAtLast, EndsText}

-- a box that counts its ticks, the port that it reads from and writes to, and the disk
pub record Live (B P D : Type 0) : Type 0 where
  pub live_box : LiveBox B
  pub port : P
  pub disk : D

-- the record with this box, port and disk
abbrev pub live_of : {B P D : Type 0} → LiveBox B → P → D → Live B P D
live_of live_box port disk = record { live_box = live_box; port = port; disk = disk }

-- the box without its count, with the port and the disk
abbrev pub outside_of : {B P D : Type 0} → Live B P D → Outside B P D
outside_of at = outside at.live_box.lines at.port at.disk

-- whether calls that ended in this way stopped the box
abbrev pub has_stopped_in : Result (Unit {0}) End → Bool
has_stopped_in (Ok x) = false
has_stopped_in (Err end) = has_stopped end

-- how calls ended after which what waits was handed on with this result
abbrev pub after_handing : Result (Unit {0}) End → Result (Unit {0}) Stop → Result (Unit {0}) End
after_handing ended (Ok x) = ended
after_handing ended (Err stop) = Err (Stopped stop)

-- whether the floor of the disk is brought down behind a line that ended in this way
abbrev pub is_lowered_at : End → Bool
is_lowered_at Whole = true
is_lowered_at (Refused bad) = true
is_lowered_at (TooLong what count) = true
is_lowered_at ReadFault = false
is_lowered_at (Stopped stop) = false

-- how a line ended if this came of bringing the floor of the disk down behind it
abbrev pub after_lowering : End → Result (Unit {0}) JournalFault → End
after_lowering end (Ok x) = end
after_lowering end (Err fault) = Stopped JournalStop

-- an origin with the same start, and with more bytes read
abbrev pub read_further : LiveOrigin → List ℕ → LiveOrigin
read_further origin more = record origin { read = origin.read ++ more }

-- What a box has heard of a line.
module _ {B N : Type 0} (b : LinkBox B N) (line_of : N → List ℕ) where
  -- Holds if the box has taken these ticks, and what it makes of them is handed on or waits.
  pub record HasHeard (lines : AheadLines B) (history : History) (slots : Option Slots)
      (origin : LiveOrigin) (line : List Tick) : Type 0 where
    pub items : List Item
    pub are : ticks_in items ≡ line
    pub filters : Filters b line_of lines history slots origin items

  -- Holds if the box was stopped at one of these ticks.
  pub record StopsHearing (lines : AheadLines B) (history : History) (slots : Option Slots)
      (stop : Stop) (origin : LiveOrigin) (line : List Tick) : Type 0 where
    pub items : List Item
    pub more : List Tick
    pub are : ticks_in items ++ more ≡ line
    pub stops : StopsFilter b line_of lines history slots stop origin items

  -- Holds if the reader has read this text, and the box has heard the lines that ended in it.
  pub record HasTaken (lines : LineReader) (live_box : LiveBox B) (history : History)
      (slots : Option Slots) (origin : LiveOrigin) (text : List ℕ) : Type 0 where
    pub has_read : HasRead lines text
    pub heard : HasHeard live_box.lines history slots origin (ticks_in (ended_items text))
    pub count : live_box.ticks ≡ length (ticks_in (ended_items text))

module _ {B N D : Type 0} (b : LinkBox B N) (line_of : N → List ℕ) (d : SlotDisk D) where
  -- Holds if the box may take more: it has counted its ticks, its journal is that of its link, and
  -- there is room for what the next ticks complete.
  pub record IsReady (live_box : LiveBox B) (disk : D) : Type 0 where
    pub counted : b.taken (box_in live_box.lines) ≡ live_box.ticks
    pub few : live_box.ticks ≤ MAX_LIVE_TICKS
    pub able : MayDrive b line_of live_box.lines (d.told disk)

module _ {B N D : Type 0} (b : LinkBox B N) (line_of : N → List ℕ) (d : SlotDisk D) where
  -- Holds if the floor of the disk was brought down behind a line that ended in this way.
  pub record LowersAfter (old new : LiveBox B) (before now : D) (end result : End) : Type 0 where
    pub goes_on : is_lowered_at end ≡ true
    pub ticks : new.ticks ≡ old.ticks
    pub answer : Result (Unit {0}) JournalFault
    pub lowers : Lowers b line_of d old.lines new.lines before now answer
    pub is : result ≡ after_lowering end answer

  -- Holds if the floor of the disk was brought down behind a line that ended in this way, or if a
  -- fault ended the line and nothing was done.
  abbrev pub LowersBehind : LiveBox B → LiveBox B → D → D → End → End → Type 0
  LowersBehind old new before now end result =
      ((is_lowered_at end ≡ false) × (new ≡ old) × (now ≡ before) × (result ≡ end))
      ⊎ LowersAfter old new before now end result

module _ {B P D : Type 0} (p : Port P) (d : SlotDisk D) where
  -- What holds after calls that ended in this way: the disk's images are kept, and each fault has
  -- its cause.
  pub record LiveGoes (old new : Live B P D) (end : End) : Type 0 where
    pub images : KeepsImages p d (outside_of old) (outside_of new)
    pub disk : IsDiskCause (d.faults old.disk) (d.faults new.disk) (is_journal_fault (drive_answer_of end))
    pub reads : IsReadCause (p.read_faults old.port) (p.read_faults new.port) (is_read_fault end)
    pub outputs : OutputCause p old.port new.port (is_write_fault (drive_answer_of end))

module _ {B N P D : Type 0} (b : LinkBox B N) (line_of : N → List ℕ) (p : Port P) (d : SlotDisk D)
  where
    -- `HasHeard`, with the port's history and the slots that the disk tells
    abbrev pub HeardAt : Live B P D → LiveOrigin → List Tick → Type 0
    HeardAt at = HasHeard b line_of at.live_box.lines (p.history at.port) (d.told at.disk)

    -- `HasTaken`, with the port's history and the slots that the disk tells
    abbrev pub TakenAt : LineReader → Live B P D → LiveOrigin → List ℕ → Type 0
    TakenAt lines at = HasTaken b line_of lines at.live_box (p.history at.port) (d.told at.disk)

    -- `StopsHearing`, with the port's history and the slots that the disk tells
    abbrev pub HaltsAt : Live B P D → LiveOrigin → Stop → List Tick → Type 0
    HaltsAt at origin stop = StopsHearing b line_of at.live_box.lines (p.history at.port)
        (d.told at.disk) stop origin

    -- Holds if this end came inside the text (`EndsWithin`).
    abbrev pub EndsAt : Live B P D → End → LiveOrigin → List ℕ → Type 0
    EndsAt at end origin = EndsWithin (HeardAt at origin) (HaltsAt at origin) end

    -- Holds if this end came at the end of the text or in the `rest` silent ticks after it
    -- (`EndsAtLast`).
    abbrev pub LastAt : ℕ → Live B P D → End → LiveOrigin → List ℕ → Type 0
    LastAt rest at end origin = EndsAtLast (HeardAt at origin) (HaltsAt at origin) rest end

    -- Holds if a run was given to the box.
    pub record Given (old new : Live B P D) (items : List Item) : Type 0 where
      pub gives : Gives (filtering b line_of p d) (outside_of old) (outside_of new) items (Ok tt)
      pub ready : IsReady b line_of d new.live_box new.disk
      pub count : new.live_box.ticks ≡ old.live_box.ticks + length (ticks_in items)

    -- Holds if the ticks of a run together with those before are too many, and nothing was done.
    pub record HoldsBack (old new : Live B P D) (items : List Item) (count : ℕ) : Type 0 where
      pub same : new ≡ old
      pub sum : count ≡ old.live_box.ticks + length (ticks_in items)
      pub above : MAX_LIVE_TICKS < count

    -- what each result says of giving a run to the box
    abbrev pub GiveAnswer : Live B P D → Live B P D → List Item → Result (Unit {0}) End → Type 0
    GiveAnswer old new items (Ok x) = Given old new items
    GiveAnswer old new items (Err (TooLong Ticks count)) = HoldsBack old new items count
    GiveAnswer old new items (Err (Stopped stop)) =
        Gives (filtering b line_of p d) (outside_of old) (outside_of new) items (Err stop)
    GiveAnswer old new items (Err end) = ⊥

    -- Holds if calls that read nothing took these bytes. Whatever text was taken before, now that
    -- text followed by these bytes is taken.
    pub record TakesBytes (old_lines new_lines : LineReader) (old new : Live B P D)
        (bytes : List ℕ) : Type 0 where
      pub ready : IsReady b line_of d new.live_box new.disk
      pub goes : LiveGoes p d old new Whole
      pub left : p.left new.port ≡ p.left old.port
      pub takes : (origin : LiveOrigin) (text : List ℕ) → TakenAt old_lines old origin text
          → TakenAt new_lines new origin (text ++ bytes)

    -- Holds if calls that read nothing ended in this way within these bytes.
    pub record EndsInBytes (old_lines : LineReader) (old new : Live B P D) (end : End)
        (bytes : List ℕ) : Type 0 where
      pub goes : LiveGoes p d old new end
      pub left : p.left new.port ≡ p.left old.port
      pub no_read : is_read_fault end ≡ false
      pub able : has_stopped end ≡ false
          → MayDrive b line_of new.live_box.lines (d.told new.disk)
      pub ends : (origin : LiveOrigin) (text : List ℕ) → TakenAt old_lines old origin text
          → EndsAt new end origin (text ++ bytes)

    -- Holds if the first `taken` of these bytes were taken, and at least one.
    pub record TakesFirst (old_lines new_lines : LineReader) (old new : Live B P D)
        (bytes : List ℕ) (taken : ℕ) : Type 0 where
      pub some : 0 < taken
      pub within : taken ≤ length bytes
      pub takes : TakesBytes old_lines new_lines old new (take taken bytes)

    -- what each result says of taking these bytes up to the end of a line, or all of them if no
    -- line ends in them
    abbrev pub LineAnswer : LineReader → LineReader → Live B P D → Live B P D → List ℕ
        → Result ℕ End → Type 0
    LineAnswer old_lines new_lines old new bytes (Ok taken) =
        TakesFirst old_lines new_lines old new bytes taken
    LineAnswer old_lines new_lines old new bytes (Err end) =
        EndsInBytes old_lines old new end bytes

    -- what each result says of taking all of these bytes
    abbrev pub LinesAnswer : LineReader → LineReader → Live B P D → Live B P D → List ℕ
        → Result (Unit {0}) End → Type 0
    LinesAnswer old_lines new_lines old new bytes (Ok x) =
        TakesBytes old_lines new_lines old new bytes
    LinesAnswer old_lines new_lines old new bytes (Err end) =
        EndsInBytes old_lines old new end bytes

    -- Holds if what waited after calls that ended in this way was handed on.
    pub record HandsAfter (old new : Live B P D) (ended result : Result (Unit {0}) End) : Type 0 where
      pub goes_on : has_stopped_in ended ≡ false
      pub ticks : new.live_box.ticks ≡ old.live_box.ticks
      pub answer : Result (Unit {0}) Stop
      pub hands : HandsOn b line_of p d (outside_of old) (outside_of new) answer
      pub is : result ≡ after_handing ended answer

    -- Holds if what waited after calls that ended in this way was handed on, or if these calls
    -- stopped the box and nothing was done.
    abbrev pub HandsBehind : Live B P D → Live B P D → Result (Unit {0}) End
        → Result (Unit {0}) End → Type 0
    HandsBehind old new ended result =
        ((has_stopped_in ended ≡ true) × (new ≡ old) × (result ≡ ended))
        ⊎ HandsAfter old new ended result

    -- Holds if these bytes were taken, and what the box makes of their lines is handed on.
    pub record TakesPiece (old_lines new_lines : LineReader) (old new : Live B P D)
        (bytes : List ℕ) : Type 0 where
      pub takes : TakesBytes old_lines new_lines old new bytes
      pub clear : IsClear new.live_box.lines (d.told new.disk)

    -- Holds if calls ended in this way within these bytes, and, unless the box was stopped, what it
    -- makes of the lines before is handed on.
    pub record EndsPiece (old_lines : LineReader) (old new : Live B P D) (end : End)
        (bytes : List ℕ) : Type 0 where
      pub ends : EndsInBytes old_lines old new end bytes
      pub clear : has_stopped end ≡ false → IsClear new.live_box.lines (d.told new.disk)

    -- what each result says of taking all of these bytes, and handing on what the box makes of them
    abbrev pub PieceAnswer : LineReader → LineReader → Live B P D → Live B P D → List ℕ
        → Result (Unit {0}) End → Type 0
    PieceAnswer old_lines new_lines old new bytes (Ok x) =
        TakesPiece old_lines new_lines old new bytes
    PieceAnswer old_lines new_lines old new bytes (Err end) =
        EndsPiece old_lines old new end bytes

    -- Holds if these bytes were read after those that were read before, and the box has heard their
    -- lines.
    pub record Hears (old_lines new_lines : LineReader) (old new : Live B P D) (end : End)
        (more : List ℕ) : Type 0 where
      pub goes : LiveGoes p d old new end
      pub came : p.left old.port ≡ prepend_known more (p.left new.port)
      pub hears : (origin : LiveOrigin) → TakenAt old_lines old origin origin.read
          → TakenAt new_lines new (read_further origin more) (origin.read ++ more)

    -- Holds if some bytes were read, and the input ended after them.
    pub record HearsAll (old_lines new_lines : LineReader) (old new : Live B P D) : Type 0 where
      pub more : List ℕ
      pub heard : Hears old_lines new_lines old new Whole more
      pub ready : IsReady b line_of d new.live_box new.disk
      pub clear : IsClear new.live_box.lines (d.told new.disk)
      pub at_end : IsAtEnd (p.left new.port)

    -- Holds if some bytes were read, and the read after them failed.
    pub record FailsToHear (old_lines new_lines : LineReader) (old new : Live B P D) : Type 0 where
      pub more : List ℕ
      pub heard : Hears old_lines new_lines old new ReadFault more
      pub clear : IsClear new.live_box.lines (d.told new.disk)

    -- Holds if the calls ended in this way within the bytes that were read.
    pub record EndsHearing (old_lines : LineReader) (old new : Live B P D) (end : End) :
        Type 0 where
      pub more : List ℕ
      pub goes : LiveGoes p d old new end
      pub came : p.left old.port ≡ prepend_known more (p.left new.port)
      pub ends : (origin : LiveOrigin) → TakenAt old_lines old origin origin.read
          → EndsAt new end (read_further origin more) (origin.read ++ more)
      pub clear : has_stopped end ≡ false → IsClear new.live_box.lines (d.told new.disk)

    -- what each result says of reading the input to its end
    abbrev pub HearAnswer : LineReader → LineReader → Live B P D → Live B P D
        → Result (Unit {0}) End → Type 0
    HearAnswer old_lines new_lines old new (Ok x) = HearsAll old_lines new_lines old new
    HearAnswer old_lines new_lines old new (Err ReadFault) =
        FailsToHear old_lines new_lines old new
    HearAnswer old_lines new_lines old new (Err end) = EndsHearing old_lines old new end

    -- Holds if the calls that take the end of the text and then `rest` silent ticks ended in this
    -- way.
    pub record TakesLast (lines : LineReader) (rest : ℕ) (old new : Live B P D) (end : End) :
        Type 0 where
      pub goes : LiveGoes p d old new end
      pub left : p.left new.port ≡ p.left old.port
      pub no_read : is_read_fault end ≡ false
      pub able : has_stopped end ≡ false
          → MayDrive b line_of new.live_box.lines (d.told new.disk)
      pub ends : (origin : LiveOrigin) (text : List ℕ) → TakenAt lines old origin text
          → LastAt rest new end origin text

    -- what each result says of taking the end of the text and then `rest` silent ticks
    abbrev pub TakeLastAnswer : LineReader → ℕ → Live B P D → Live B P D → Result (Unit {0}) End
        → Type 0
    TakeLastAnswer lines rest old new (Ok x) = TakesLast lines rest old new Whole
    TakeLastAnswer lines rest old new (Err end) = TakesLast lines rest old new end

    -- Holds if the calls that take the end of the text and then `rest` silent ticks, and hand on
    -- what waits, ended in this way. If the last line isn't right, the box may be stopped behind the
    -- lines before it.
    pub record Finishes (lines : LineReader) (rest : ℕ) (old new : Live B P D) (end : End) :
        Type 0 where
      pub goes : LiveGoes p d old new end
      pub left : p.left new.port ≡ p.left old.port
      pub no_read : is_read_fault end ≡ false
      pub clear : has_stopped end ≡ false → IsClear new.live_box.lines (d.told new.disk)
      pub ends : (origin : LiveOrigin) (text : List ℕ) → TakenAt lines old origin text
          → EndsAt new end origin text ⊎ LastAt rest new end origin text

    -- what each result says of taking the end of the text and then `rest` silent ticks, and handing
    -- on what waits
    abbrev pub FinishAnswer : LineReader → ℕ → Live B P D → Live B P D → Result (Unit {0}) End
        → Type 0
    FinishAnswer lines rest old new (Ok x) = Finishes lines rest old new Whole
    FinishAnswer lines rest old new (Err end) = Finishes lines rest old new end

    -- Holds if a live line was heard by a box that had taken no tick, and this is what was read of
    -- the line and how that ended. Unless the box was stopped, all is handed on.
    pub record HearsLine (rest : ℕ) (old new : Live B P D) (end : End) : Type 0 where
      pub text : List ℕ
      pub came : p.left old.port ≡ prepend_known text (p.left new.port)
      pub goes : LiveGoes p d old new end
      pub clear : has_stopped end ≡ false → IsClear new.live_box.lines (d.told new.disk)
      pub ends : (origin : LiveOrigin) → old.live_box.ticks ≡ 0 → origin.read ≡ []
          → HeardAt old origin []
          → EndsText (HeardAt new (read_further origin text)) (HaltsAt new (read_further origin text))
          rest (IsAtEnd (p.left new.port)) end text

    -- Holds if a live line was driven into a box that had taken no tick, and this is what was read
    -- of the line and how that ended. Unless the box was stopped, all is handed on. Unless a fault
    -- ended the line, the disk's floor is the last number used.
    pub record Drives (rest : ℕ) (old new : Live B P D) (end : End) : Type 0 where
      pub heard : HearsLine rest old new end
      pub lowered : is_lowered_at end ≡ true
          → floor_in new.live_box.lines ≡ number_in new.live_box.lines
