-- What a run of a live line of two ways says, from how its stream was driven.
use Rattle.line_commands.proofs.Floors.{told_before, keeps_floor, keeps_from_load, keeps_throughout}
use Rattle.line_commands.specs.BoxLines.{ToldFloor}
use Rattle.line_commands.specs.BoxLinesLaws.{floor_from_less}
use Rattle.line_commands.specs.Boxes.{Boxed}
use Rattle.line_commands.specs.ReplaysBox.{KeepsFloor, LeavesUptime, KeepsFloorThroughout}
use Rattle.line_commands.specs.ReplaysBox.{KeepsFloorFromLoad}
use Rattle.line_commands.specs.Sending.{made_by}
use Rattle.line_commands.specs.Streams.{stream_faults, stream_history}
use Rattle.line_commands.specs.declared.port.Port.{Ghosts as Port}
use Rattle.line_commands.specs.declared.streams.Streams.{Streams}
use Rattle.live_commands.specs.LineEnds.{LineEnds, ends_port}
use Rattle.live_line.specs.WayLines.{disk_in, settled_in, most_in, KeepsImages}
use Rattle.live_line.specs.declared.way_box.WayBox.{Ghosts as WayBox}
use Rattle.live_line.specs.declared.ways.Way.{Way}
use Rattle.live_ways.proofs.CommandEnds.{reading_by}
use Rattle.live_ways.proofs.CommandMade.{handed_alike, fronts_alike}
use Rattle.live_ways.proofs.HandedAs.{handed_as}
use Rattle.live_ways.proofs.WayFaults.{told_between}
use Rattle.live_ways.specs.BothDisks.{disk_on}
use Rattle.live_ways.specs.Driving.{Drives}
use Rattle.live_ways.specs.Ends.{is_stopped_end, is_read_end, is_lowered_end}
use Rattle.live_ways.specs.LineBegins.{BeginsBoth}
use Rattle.live_ways.specs.LiveLine.{LineAt, LineOrigin, HandedAt, HaltsAt, StandsClear}
use Rattle.live_ways.specs.LiveLine.{lines_on, kept_on, made_on, number_on, read_further}
use Rattle.live_ways.specs.WayCommand.{Around, around, Carries, HaltsWay, EndsStream, RunsLine}
use Rattle.live_ways.specs.WayCommand.{left_ahead, status_of_end, way_of_end}
use Rattle.live_ways.specs.WayLoads.{LoadsBoth, journal_on}
use Rattle.live_ways.specs.WayStreams.{ends_of}
use Rattle.live_ways.specs.declared.both_disks.BothDisks.{BothDisks}
use Rattle.live_ways.specs.declared.loads.BothJournals.{BothJournals}
use Rattle.live_ways.specs.declared.way_end.WayEnd.{WayEnd}
use Rattle.live_ways.specs.declared.way_end.WayEnd.TheVariants.{NoWay}
use Rattle.live_ways.specs.declared.way_end.WayEnd.TheVariants.{ReadFault, Stopped}
use Rattle.sequence_journal.specs.Journal.{journal_link, journal_floor, HasFloorAtLeast}
use Rattle.sequence_journal.specs.Late.{HasFloorBetween}
use Rattle.sequence_journal.specs.Uptimes.{RiseFrom, last_from}
use Rattle.sequence_journal.specs.declared.journal.Journal.{Journal}
use Rattle.sequence_journal.specs.declared.link.LinkId.{LinkId}
use Rattle.std.proofs.Common.{◌≡◌, ◌∙◌, ℕ, ◌+◌, ◌≤◌, List, [], ◌++◌, Option, IfSome, true, false}
use Rattle.std.proofs.Common.{refl, sym, ap, subst, arith, inl, inr}
use Rattle.std.specs.Io.KnownBytes.{IsAtEnd}
use Rattle.tick_drive.specs.declared.consumer.Stop.{Stop}
use Rattle.tick_drive.specs.declared.consumer.Stop.TheVariants as stops
use Rattle.yasir_io.specs.Causes.{Rose}
use Rattle.yasir_io.specs.Disks.{Slots}
use Rattle.yasir_io.specs.declared.disk.SlotDisk.{Ghosts as SlotDisk}
use Rattle.yasir_io.specs.declared.sink.Sink.{Ghosts as Sink}
use Rattle.yasir_io.specs.declared.source.Source.{Ghosts as Source}
use Rattle.yasir_ticks.specs.declared.tick.Tick.{Tick}
use Rattle.link_format.specs.Setup.{Setup}

-- the streams of a run as a port
abbrev pub streams_port : {S O L : Type 0} → Source S → Sink O → Sink L → Port (Streams S O L)
streams_port s o l = record {
  history = λ streams. stream_history o l streams;
  left = λ streams. s.left streams.input;
  read_faults = λ streams. s.faults streams.input;
  write_faults = λ streams to. stream_faults o l streams to;
}

-- The numbers that a box uses rise from its floor to its number.
pub record HasRisingNumbers (box : Boxed) (floor : ℕ) : Type 0 where
  pub rising : (line : List Tick) → RiseFrom floor (box.numbers line)
  pub last_is : (line : List Tick) → last_from floor (box.numbers line) ≡ box.number line

-- What an end says of the stream is what its status says of the run.
runs_of : {P D : Type 0} (p : Port P) (d : SlotDisk D) (link : Way → LinkId) (box : Way → ℕ → Boxed)
    (rest ahead : Way → ℕ) (before after : Around P D) (end : WayEnd)
    → EndsStream p d link box rest ahead before after end
    → (is_read_end end ≡ true → Rose (p.read_faults before.port) (p.read_faults after.port))
    → RunsLine p d link box rest ahead before after (way_of_end end) (status_of_end end)
runs_of p d link box rest ahead before after ReadFault ends rose = (ends, rose refl)
runs_of p d link box rest ahead before after (NoWay line) ends rose = (ends, refl)
runs_of p d link box rest ahead before after (Stopped way stops.JournalFault) ends rose = inl ends
runs_of p d link box rest ahead before after (Stopped way stops.NoMemory) ends rose =
    elim ends.ends [
      | inl within ↦ within.ends
      | inr last ↦ elim last.1 [
        | inl within ↦ within.ends
        | inr right ↦ right.holds
      ]
    ]
runs_of p d link box rest ahead before after end ends rose = ends

module _ {X Y S O L D : Type 0} (x : WayBox X) (y : WayBox Y) (s : Source S) (o : Sink O)
    (l : Sink L) (d : SlotDisk D) (link : Way → LinkId) (rest ahead : Way → ℕ) (setup : Way → Setup)
    (boxes : Way → ℕ → Boxed) (journals : BothJournals) (before : BothDisks D)
    (old new : LineAt X Y (Streams S O L) D)
    (made_is : (way : Way) → made_on x y setup way
    ≡ made_by (boxes way (journal_floor (journal_on journals way))))
    (number_is : (way : Way) (line : List Tick) → number_on x y setup way line
    ≡ (boxes way (journal_floor (journal_on journals way))).number line)
    (laws : (way : Way) → HasRisingNumbers (boxes way (journal_floor (journal_on journals way)))
    (journal_floor (journal_on journals way)))
    (loads : LoadsBoth d link before old.disks journals)
    (begins : BeginsBoth x y old.line journals ahead setup)
    (end : WayEnd) (drives : Drives x y (streams_port s o l) d rest old new end)
    (clear : StandsClear x y (streams_port s o l) d old (record {
      start = (streams_port s o l).history old.port;
      read = [];
      setup = setup;
    }) []) where
  abbrev p : Port (Streams S O L)
  p = streams_port s o l

  abbrev q : Port (LineEnds S O L)
  q = ends_port s o l

  abbrev floor : Way → ℕ
  floor way = journal_floor (journal_on journals way)

  abbrev box : Way → Boxed
  box way = boxes way (floor way)

  abbrev stream : List ℕ
  stream = drives.heard.stream

  abbrev origin : LineOrigin
  origin = record { start = p.history old.port; read = []; setup = setup }

  abbrev heard_of : LineOrigin
  heard_of = read_further origin stream

  abbrev at_first : Around (LineEnds S O L) D
  at_first = around (ends_of old.port) before

  abbrev at_last : Around (LineEnds S O L) D
  at_last = around (ends_of new.port) new.disks

  module _ (way : Way) where
    -- the journal of the way as its disk holds it at the end
    abbrev last : Journal
    last = disk_in (lines_on new.line way)

    abbrev told : Option Slots
    told = d.told (disk_on new.disks way)

    kept : KeepsImages d (kept_on old.line way) (kept_on new.line way) (disk_on old.disks way)
        (disk_on new.disks way)
    kept = drives.heard.goes.images way

    link_last : journal_link last ≡ link way
    link_last = kept.link ∙ (ap journal_link (begins.journal way) ∙ (loads way).loaded.link_is)

    most_last : most_in (lines_on new.line way) ≡ ahead way
    most_last = kept.most ∙ begins.most way

    keeps : (n : ℕ) → n ≤ journal_floor last
        → KeepsFloor d (link way) n (disk_on before way) (disk_on new.disks way)
    keeps n is one c left = floor_from_less (link way) n (journal_floor last) is c
        (keeps_floor d (link way) (journal_on journals way) (disk_on before way)
        (disk_on old.disks way) (loads way).loaded (loads way).safe (disk_in (lines_on old.line way))
        last (disk_on new.disks way) (begins.journal way) kept.is_kept link_last one c left)

    floor_before : ToldFloor (link way) (floor way) (d.told (disk_on before way))
    floor_before = told_before d (link way) (journal_on journals way) (disk_on before way)
        (disk_on old.disks way) (loads way).loaded (loads way).safe

    -- Each image that the disk may leave makes an uptime with the numbers of the line.
    uptime_to : (line : List Tick) → (box way).number line ≤ journal_floor last
        → LeavesUptime d (link way) ((box way).numbers line) (disk_on before way)
        (disk_on new.disks way)
    uptime_to line is one starts begun image left = record {
      floor = floor way;
      loads = subst (ToldFloor (link way) (floor way)) begun floor_before;
      rise = (laws way).rising line;
      leaves = subst (λ n. HasFloorAtLeast (link way) n image) (sym ((laws way).last_is line))
          (keeps _ is one image left);
    }

    from_load : KeepsFloorFromLoad d (link way) (floor way) (disk_on before way)
        (disk_on new.disks way)
    from_load = keeps_from_load d (link way) (journal_on journals way) (disk_on before way)
        (disk_on old.disks way) (loads way).loaded (loads way).safe (disk_in (lines_on old.line way))
        (disk_on new.disks way) (begins.journal way) kept.any_moment

    pub throughout : KeepsFloorThroughout d (link way) (disk_on before way) (disk_on old.disks way)
        → KeepsFloorThroughout d (link way) (disk_on before way) (disk_on new.disks way)
    throughout loading = keeps_throughout d (link way) (journal_on journals way) (disk_on before way)
        (disk_on old.disks way) (loads way).loaded (loads way).safe (disk_in (lines_on old.line way))
        (disk_on new.disks way) (begins.journal way)
        (λ slots floor is one has. loading one slots floor is has) kept.any_moment

    -- the slots have the floor of the journal, as far as the disk tells
    told_floor : is_stopped_end end ≡ false → ToldFloor (link way) (journal_floor last) told
    told_floor goes_on = subst (λ id. ToldFloor id (journal_floor last) told) link_last
        (drives.heard.able goes_on way).stands.fits.floor

    -- A floor from a number to one above it, as the slots tell it.
    floor_between : (at : WayEnd) → at ≡ end → is_stopped_end at ≡ false → (n : ℕ)
        → settled_in (lines_on new.line way) ≡ n → n ≤ journal_floor last
        → journal_floor last ≤ n + ahead way → ToldFloor (link way) (journal_floor last) told
        → IfSome told (HasFloorBetween (link way) n (n + left_ahead ahead at way))
    floor_between ReadFault is goes_on n settled low high has =
        told_between (link way) n (n + ahead way) (journal_floor last) low high told has
    floor_between (Stopped of stop) is goes_on n settled low high has = cc
    floor_between at is goes_on n settled low high has =
        let level : journal_floor last ≡ settled_in (lines_on new.line way) =
        drives.lowered (subst (λ e. is_lowered_end e ≡ true) is refl) way in
        told_between (link way) n (n + 0) (journal_floor last) low (omega (arith, level, settled))
        told has

  carries : is_stopped_end end ≡ false → (lines : Way → List Tick)
      → HandedAt x y p d new heard_of lines
      → Carries q d link (left_ahead ahead end) box at_first at_last stream lines
  carries goes_on lines handed =
      let settled : (way : Way) → settled_in (lines_on new.line way) ≡ (box way).number (lines way) =
      λ way. (handed.heard.taken way).settled
      ∙ (ap (number_on x y setup way) (handed.all way) ∙ number_is way (lines way)) in
      let low : (way : Way) → (box way).number (lines way) ≤ journal_floor (last way) =
      λ way. omega (arith, settled way, (drives.heard.able goes_on way).ahead.covers) in
      record {
        handed = handed_alike (made_on x y setup) (λ way. made_by (box way)) made_is lines
            (p.history old.port) (p.history new.port) stream
            (handed_as (made_on x y setup) handed.heard.early lines handed.all (p.history old.port)
            (p.history new.port) stream handed.heard.handed);
        images = λ way. keeps way _ (low way);
        uptimes = λ way. uptime_to way (lines way) (low way);
        floors = λ way. floor_between way end refl goes_on _ (settled way) (low way)
            (omega (arith, settled way, (drives.heard.able goes_on way).ahead.within, most_last way))
            (told_floor way goes_on);
      }

  -- A floor between numbers of a way, in the words of the command.
  floors_as : (way : Way) (n m k : ℕ) (line : List Tick) → n ≡ (box way).number line → m ≡ k
      → IfSome (told way) (HasFloorBetween (journal_link (last way)) n m)
      → IfSome (told way) (HasFloorBetween (link way) ((box way).number line) k)
  floors_as way n m k line low high has =
      subst (λ a. IfSome (told way) (HasFloorBetween (link way) a k)) low
      (subst (λ b. IfSome (told way) (HasFloorBetween (link way) n b)) high
      (subst (λ id. IfSome (told way) (HasFloorBetween id n m)) (link_last way) has))

  halts : (of : Way) (stop : Stop) (lines : Way → List Tick)
      → HaltsAt x y p d new heard_of of stop lines
      → HaltsWay q d link ahead box at_first at_last stream of stop lines
  halts of stops.JournalFault lines halted =
      let low : (way : Way) → (box way).number (halted.early way) ≤ journal_floor (last way) =
      λ way. omega (arith, number_is way (halted.early way), halted.reached way) in
      record {
        early = halted.early;
        later = halted.later;
        more = halted.more;
        all = halted.all;
        handed = handed_alike (made_on x y setup) (λ way. made_by (box way)) made_is halted.early
            (p.history old.port) (p.history new.port) stream halted.handed;
        images = λ way. keeps way _ (low way);
        uptimes = λ way. uptime_to way (halted.early way) (low way);
        floors = λ way. let all : List Tick = halted.early way ++ halted.later way in floors_as way
            (number_on x y setup way (halted.early way))
            (number_on x y setup way all + most_in (lines_on new.line way))
            ((box way).number all + ahead way) (halted.early way)
            (number_is way (halted.early way)) (omega (arith, number_is way all, most_last way))
            (halted.floors way);
      }
  halts of stops.WriteFault lines halted =
      let low : (way : Way) → (box way).number (halted.heard way) ≤ journal_floor (last way) =
      λ way. omega (arith, number_is way (halted.heard way), halted.reached way) in
      record {
        lines = halted.heard;
        more = halted.more;
        all = halted.all;
        fronts = fronts_alike (made_on x y setup) (λ way. made_by (box way)) made_is halted.heard
            (p.history old.port) (p.history new.port) stream halted.fronts;
        images = λ way. keeps way _ (low way);
        uptimes = λ way. uptime_to way (halted.heard way) (low way);
        floors = λ way. floors_as way (number_on x y setup way (halted.heard way))
            (number_on x y setup way (halted.heard way) + most_in (lines_on new.line way))
            ((box way).number (halted.heard way) + ahead way) (halted.heard way)
            (number_is way (halted.heard way))
            (omega (arith, number_is way (halted.heard way), most_last way)) (halted.floors way);
      }
  halts of stops.NoMemory lines halted = halted

  ends_stream : EndsStream q d link boxes rest ahead at_first at_last end
  ends_stream = record {
    floor = floor;
    stream = stream;
    floor_before = floor_before;
    came = drives.heard.came;
    ends = reading_by (HandedAt x y p d new heard_of)
        (Carries q d link (left_ahead ahead end) box at_first at_last stream)
        (HaltsAt x y p d new heard_of) (HaltsWay q d link ahead box at_first at_last stream) halts
        rest (IsAtEnd (p.left new.port)) end carries stream (drives.heard.ends origin refl clear);
    from_load = from_load;
  }

  pub runs_line : RunsLine q d link boxes rest ahead at_first at_last (way_of_end end)
      (status_of_end end)
  runs_line = runs_of q d link boxes rest ahead at_first at_last end ends_stream
      drives.heard.goes.reads.failed
