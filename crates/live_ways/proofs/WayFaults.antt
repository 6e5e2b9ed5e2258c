-- What one byte of a stream of both ways does, if its way takes no more.
use Rattle.line_commands.proofs.Reading.{read_begins}
use Rattle.line_commands.specs.Counted.{capped}
use Rattle.line_commands.specs.declared.port.Port.{Ghosts as Port}
use Rattle.live_line.proofs.HandingBoth.{same_way}
use Rattle.live_line.specs.BothWays.{lines_in}
use Rattle.live_line.specs.WayLines.{HasTakenOn, kept_in, way_in}
use Rattle.live_line.specs.WayRuns.{StopsAtSettle, StopsAtWrite, IsAbleWay}
use Rattle.live_line.specs.WayText.{HasParted, AddsByte, text_on}
use Rattle.live_line.specs.declared.way_box.WayBox.{Ghosts as WayBox}
use Rattle.live_line.specs.declared.ways.Way.{Way}
use Rattle.live_line.specs.declared.ways.Way.TheVariants.{Outgoing, Incoming}
use Rattle.live_ways.proofs.BothTaken.{last_of, stream_begins, stands_heard, goes_same, heard_same}
use Rattle.live_ways.proofs.BothTaken.{ready_same, goes_on_way, origin_by, reads_on, IsOfStream}
use Rattle.live_ways.specs.BothDisks.{disk_on}
use Rattle.live_ways.specs.Ends.{end_of}
use Rattle.live_ways.specs.LiveLine.{LineAt, line_at, LineOrigin, LineStands, HaltsAt, EndsInBytes}
use Rattle.live_ways.specs.LiveLine.{HeardAt, SettleFails, WriteFails}
use Rattle.live_ways.specs.LiveLine.{IsReadyLine, IsAbleLine, box_on, reader_on, lines_on, BoxOn}
use Rattle.live_ways.specs.LiveLine.{number_on, kept_on}
use Rattle.live_ways.specs.WayEnds.{BeginsStream, EndsBehind}
use Rattle.live_ways.specs.WayReading.{FaultsAtByte, EndsUnchanged, StopsAtByte}
use Rattle.live_ways.specs.WayReading.{StopsWithin, way_at}
use Rattle.live_ways.specs.declared.both_disks.BothDisks.{BothDisks}
use Rattle.live_ways.specs.declared.both_ways.LiveLine.{LiveLine}
use Rattle.live_ways.specs.declared.way_end.WayEnd.{WayEnd}
use Rattle.live_ways.specs.declared.way_end.WayEnd.TheVariants.{Refused, TooLong}
use Rattle.live_ways.specs.declared.way_end.WayFault.{WayFault}
use Rattle.live_ways.specs.declared.way_end.WayFault.TheVariants as fault
use Rattle.live_ways.specs.declared.way_reader.WayReader.{WayReader}
use Rattle.link_format.specs.Setup.{Setup}
use Rattle.sequence_journal.proofs.SlotLemmas.{if_some_weaker}
use Rattle.sequence_journal.specs.Ahead.{ahead_floor, ahead_by, ahead_link, ahead_number}
use Rattle.sequence_journal.specs.Late.{HasFloorBetween}
use Rattle.sequence_journal.specs.Slots.{floor_of}
use Rattle.sequence_journal.specs.declared.{link.LinkId.LinkId}
use Rattle.std.proofs.Common.{◌≡◌, ◌≢◌, ◌∙◌, ℕ, ◌+◌, ◌≤◌, List, [], ◌∷◌, ◌++◌, Err, Some, IfSome}
use Rattle.std.proofs.Common.{refl, ap, sym, subst, arith, inl, inr, append-nil, length}
use Rattle.std.proofs.Common.{Option, IsSomeAnd}
use Rattle.tick_drive.specs.declared.consumer.Stop.{Stop}
use Rattle.tick_drive.specs.declared.consumer.Stop.TheVariants.{WriteFault, JournalFault, NoMemory}
use Rattle.tick_drive.specs.declared.end.TooMuch.TheVariants.{Ticks, Bytes}
use Rattle.yasir_io.specs.Disks.{Slots}
use Rattle.yasir_io.specs.declared.disk.SlotDisk.{Ghosts as SlotDisk}
use Rattle.yasir_ticks.specs.TickText.{ended_items, lines_of, line_after, BeginsTickText}
use Rattle.yasir_ticks.specs.Ticks.{ticks_in}
use Rattle.yasir_ticks.specs.declared.tick.Tick.{Tick}

-- slots with a floor have one between numbers that it isn't beyond
between_at : (low high n : ℕ) → low ≤ n → n ≤ high → (floor : Option ℕ) → floor ≡ Some n
    → IsSomeAnd floor (λ f. (low ≤ f) × (f ≤ high))
between_at low high n below above floor is =
    subst (λ f. IsSomeAnd f (λ f. (low ≤ f) × (f ≤ high))) (sym is) (below, above)

pub told_between : (link : LinkId) (low high n : ℕ) → low ≤ n → n ≤ high → (told : Option Slots)
    → IfSome told (λ slots. floor_of link slots ≡ Some n) → IfSome told (HasFloorBetween link low high)
told_between link low high n below above told has = if_some_weaker
    (λ slots. floor_of link slots ≡ Some n) (HasFloorBetween link low high) told
    (λ slots is. between_at low high n below above (floor_of link slots) is) has

-- ---- a way that isn't the one that was stopped

module _ {Z P D : Type 0} (z : WayBox Z) (p : Port P) (d : SlotDisk D) (way : Way)
    (number_is : (value : Z) (setup : Setup) (line : List Tick) → z.stands value setup line
    → z.number value ≡ z.number_for setup line)
    (reader : WayReader Z) (port : P) (disk : D)
    (able : IsAbleWay z p d way (way_at reader port disk))
    (setup : Setup) (early line : List Tick) (taken : HasTakenOn z reader.lines setup early line)
  where
    -- how it stands with its disk: the floor isn't below the last number of what was handed on
    pub beside_reached : z.number_for setup early ≤ ahead_floor (kept_in reader.lines)
    beside_reached = omega (arith, taken.settled, able.ahead.covers)

    used : z.number_for setup early ≤ z.number_for setup line
    used = omega (
      arith,
      taken.settled,
      able.may.level,
      number_is (way_in reader.lines) setup line taken.stood,
    )

    pub beside_floors : IfSome (d.told disk) (HasFloorBetween (ahead_link (kept_in reader.lines))
        (z.number_for setup early) (z.number_for setup line + ahead_by (kept_in reader.lines)))
    beside_floors = told_between (ahead_link (kept_in reader.lines)) (z.number_for setup early)
        (z.number_for setup line + ahead_by (kept_in reader.lines))
        (ahead_floor (kept_in reader.lines)) beside_reached
        (omega (arith, used, taken.settled, able.ahead.within)) (d.told disk)
        able.stands.fits.floor

    pub beside_early : IfSome (d.told disk) (HasFloorBetween (ahead_link (kept_in reader.lines))
        (z.number_for setup early) (z.number_for setup early + ahead_by (kept_in reader.lines)))
    beside_early = told_between (ahead_link (kept_in reader.lines)) (z.number_for setup early)
        (z.number_for setup early + ahead_by (kept_in reader.lines))
        (ahead_floor (kept_in reader.lines)) beside_reached
        (omega (arith, taken.settled, able.ahead.within)) (d.told disk)
        able.stands.fits.floor

-- ---- a way that was stopped

-- what is handed on, waits and is left of each way, if this way was stopped
abbrev pub for_way : {A : Type 0} → Way → A → (Way → A) → Way → A
for_way Outgoing own others Outgoing = own
for_way Outgoing own others Incoming = others Incoming
for_way Incoming own others Outgoing = others Outgoing
for_way Incoming own others Incoming = own

pub for_own : {A : Type 0} (way : Way) (own : A) (others : Way → A) → for_way way own others way ≡ own
for_own Outgoing own others = refl
for_own Incoming own others = refl

pub for_other : {A : Type 0} (way : Way) (own : A) (others : Way → A) (other : Way) → other ≢ way
    → for_way way own others other ≡ others other
for_other Outgoing own others Outgoing apart = absurd (apart refl)
for_other Outgoing own others Incoming apart = refl
for_other Incoming own others Outgoing apart = refl
for_other Incoming own others Incoming apart = absurd (apart refl)

-- what holds of a way and of each other way holds of each
pub each_way : (w : Way) (Of : Way → Type 0) → Of w → ((way : Way) → way ≢ w → Of way) → (way : Way)
    → Of way
each_way w Of own others way = elim (same_way w way) [
  | inl is ↦ subst Of (sym is) own
  | inr apart ↦ others way apart
]

-- there are only two ways
pub only_two : (w other way : Way) → other ≢ w → way ≢ w → way ≡ other
only_two Outgoing Outgoing way apart beside = absurd (apart refl)
only_two Outgoing Incoming Outgoing apart beside = absurd (beside refl)
only_two Outgoing Incoming Incoming apart beside = refl
only_two Incoming Incoming way apart beside = absurd (apart refl)
only_two Incoming Outgoing Incoming apart beside = absurd (beside refl)
only_two Incoming Outgoing Outgoing apart beside = refl

disks_same : {D : Type 0} (disks disks' : BothDisks D)
    → ((way : Way) → disk_on disks' way ≡ disk_on disks way) → disks' ≡ disks
disks_same disks disks' same = ap (λ d. record { first = d; second = disks'.second }) (same Outgoing)
    ∙ ap (λ d. record { first = disks.first; second = d }) (same Incoming)

-- ---- what is known when a way was stopped

module _ {X Y P D : Type 0} (x : WayBox X) (y : WayBox Y) (p : Port P) (d : SlotDisk D)
    (line next : LiveLine X Y) (port port' : P) (disks disks' : BothDisks D) (w : Way)
    (same : (way : Way) → way ≢ w → reader_on next way ≡ reader_on line way)
    (same_disk : (way : Way) → way ≢ w → disk_on disks' way ≡ disk_on disks way)
    (able : IsAbleLine x y p d (line_at line port disks)) (origin : LineOrigin)
    (early lines grown : Way → List Tick)
    (taken : (way : Way) → HasTakenOn (box_on x y way) (lines_on line way) (origin.setup way)
    (early way) (lines way))
    (goes_on : (way : Way) → way ≢ w → lines way ≡ grown way)
    (own rest : List Tick) (own_line : own ++ rest ≡ grown w) where
  other_line : (way : Way) → way ≢ w → early way ++ (taken way).later ≡ grown way
  other_line way apart = sym (taken way).is ∙ goes_on way apart

  -- what waits of another way
  abbrev waits : Way → List Tick
  waits way = (taken way).later

  -- ---- in a settle

  module _ (at : StopsAtSettle (box_on x y w) p d w (way_at (reader_on next w) port'
      (disk_on disks' w)) (origin_by x y w origin early) own) where
    abbrev later : Way → List Tick
    later = for_way w at.later waits

    abbrev more : Way → List Tick
    more = for_way w rest (λ way. [])

    settle_all : (way : Way) → (at.early way ++ later way) ++ more way ≡ grown way
    settle_all = each_way w (λ way. (at.early way ++ later way) ++ more way ≡ grown way)
        (ap (λ l. (at.early w ++ l) ++ more w) (for_own w at.later waits)
        ∙ (ap (λ l. (at.early w ++ at.later) ++ l) (for_own w rest (λ way. []))
        ∙ (ap (λ l. l ++ rest) (sym at.is) ∙ own_line)))
        (λ way apart. ap (λ l. (at.early way ++ l) ++ more way) (for_other w at.later waits way apart)
        ∙ (ap (λ l. (at.early way ++ waits way) ++ l) (for_other w rest (λ way. []) way apart)
        ∙ (append-nil (at.early way ++ waits way)
        ∙ (ap (λ l. l ++ waits way) (at.others way apart) ∙ other_line way apart))))

    pub settle_fails : SettleFails x y p d (line_at next port' disks') origin grown
    settle_fails = record {
      early = at.early;
      later = later;
      more = more;
      all = settle_all;
      handed = at.handed;
      reached = each_way w (λ way. number_on x y origin.setup way (at.early way)
          ≤ ahead_floor (kept_on next way)) at.reached (λ way apart.
          subst (λ (r : WayReader (BoxOn X Y way)). number_on x y origin.setup way (at.early way)
          ≤ ahead_floor (kept_in r.lines)) (sym (same way apart))
          (subst (λ e. number_on x y origin.setup way e ≤ ahead_floor (kept_on line way))
          (sym (at.others way apart))
          (beside_reached (box_on x y way) p d way (box_on x y way).number_is (reader_on line way)
          port (disk_on disks way) (able way) (origin.setup way) (early way)
          (lines way) (taken way))));
      floors = each_way w (λ way. IfSome (d.told (disk_on disks' way)) (HasFloorBetween
          (ahead_link (kept_on next way)) (number_on x y origin.setup way (at.early way))
          (number_on x y origin.setup way (at.early way ++ later way)
          + ahead_by (kept_on next way))))
          (subst (λ l. IfSome (d.told (disk_on disks' w)) (HasFloorBetween
          (ahead_link (kept_on next w)) (number_on x y origin.setup w (at.early w))
          (number_on x y origin.setup w l + ahead_by (kept_on next w))))
          (at.is ∙ ap (λ l. at.early w ++ l) (sym (for_own w at.later waits))) at.floors)
          (λ way apart. subst (λ disk. IfSome (d.told disk) (HasFloorBetween
          (ahead_link (kept_on next way)) (number_on x y origin.setup way (at.early way))
          (number_on x y origin.setup way (at.early way ++ later way)
          + ahead_by (kept_on next way)))) (sym (same_disk way apart))
          (subst (λ (r : WayReader (BoxOn X Y way)). IfSome (d.told (disk_on disks way))
          (HasFloorBetween (ahead_link (kept_in r.lines))
          (number_on x y origin.setup way (at.early way))
          (number_on x y origin.setup way (at.early way ++ later way)
          + ahead_by (kept_in r.lines)))) (sym (same way apart))
          (subst (λ l. IfSome (d.told (disk_on disks way)) (HasFloorBetween
          (ahead_link (kept_on line way)) (number_on x y origin.setup way (at.early way))
          (number_on x y origin.setup way (at.early way ++ l) + ahead_by (kept_on line way))))
          (sym (for_other w at.later waits way apart))
          (subst (λ e. IfSome (d.told (disk_on disks way)) (HasFloorBetween
          (ahead_link (kept_on line way)) (number_on x y origin.setup way e)
          (number_on x y origin.setup way (e ++ waits way) + ahead_by (kept_on line way))))
          (sym (at.others way apart))
          (subst (λ l. IfSome (d.told (disk_on disks way)) (HasFloorBetween
          (ahead_link (kept_on line way)) (number_on x y origin.setup way (early way))
          (number_on x y origin.setup way l + ahead_by (kept_on line way))))
          (taken way).is
          (beside_floors (box_on x y way) p d way (box_on x y way).number_is (reader_on line way)
          port (disk_on disks way) (able way) (origin.setup way) (early way)
          (lines way) (taken way)))))));
    }

  -- ---- in a write or a flush

  module _ (at : StopsAtWrite (box_on x y w) p d w (way_at (reader_on next w) port'
      (disk_on disks' w)) (origin_by x y w origin early) own) where
    abbrev left : Way → List Tick
    left = for_way w rest waits

    write_all : (way : Way) → at.lines way ++ left way ≡ grown way
    write_all = each_way w (λ way. at.lines way ++ left way ≡ grown way)
        (ap (λ l. at.lines w ++ l) (for_own w rest waits)
        ∙ (ap (λ l. l ++ rest) at.is ∙ own_line))
        (λ way apart. ap (λ l. at.lines way ++ l) (for_other w rest waits way apart)
        ∙ (ap (λ l. l ++ waits way) (at.others way apart) ∙ other_line way apart))

    own_number : number_on x y origin.setup w (at.lines w) ≡ ahead_number (kept_on next w)
    own_number = ap (number_on x y origin.setup w) at.is ∙ sym at.settled

    pub write_fails : WriteFails x y p d (line_at next port' disks') origin grown
    write_fails = record {
      heard = at.lines;
      more = left;
      all = write_all;
      fronts = at.fronts;
      reached = each_way w (λ way. number_on x y origin.setup way (at.lines way)
          ≤ ahead_floor (kept_on next way)) (omega (arith, own_number, at.ahead.covers))
          (λ way apart. subst (λ (r : WayReader (BoxOn X Y way)).
          number_on x y origin.setup way (at.lines way) ≤ ahead_floor (kept_in r.lines))
          (sym (same way apart))
          (subst (λ e. number_on x y origin.setup way e ≤ ahead_floor (kept_on line way))
          (sym (at.others way apart))
          (beside_reached (box_on x y way) p d way (box_on x y way).number_is (reader_on line way)
          port (disk_on disks way) (able way) (origin.setup way) (early way)
          (lines way) (taken way))));
      floors = each_way w (λ way. IfSome (d.told (disk_on disks' way)) (HasFloorBetween
          (ahead_link (kept_on next way)) (number_on x y origin.setup way (at.lines way))
          (number_on x y origin.setup way (at.lines way) + ahead_by (kept_on next way))))
          (told_between (ahead_link (kept_on next w)) (number_on x y origin.setup w (at.lines w))
          (number_on x y origin.setup w (at.lines w) + ahead_by (kept_on next w))
          (ahead_floor (kept_on next w)) (omega (arith, own_number, at.ahead.covers))
          (omega (arith, own_number, at.ahead.within)) (d.told (disk_on disks' w))
          at.stands.fits.floor)
          (λ way apart. subst (λ disk. IfSome (d.told disk) (HasFloorBetween
          (ahead_link (kept_on next way)) (number_on x y origin.setup way (at.lines way))
          (number_on x y origin.setup way (at.lines way) + ahead_by (kept_on next way))))
          (sym (same_disk way apart))
          (subst (λ (r : WayReader (BoxOn X Y way)). IfSome (d.told (disk_on disks way))
          (HasFloorBetween (ahead_link (kept_in r.lines))
          (number_on x y origin.setup way (at.lines way))
          (number_on x y origin.setup way (at.lines way) + ahead_by (kept_in r.lines))))
          (sym (same way apart))
          (subst (λ e. IfSome (d.told (disk_on disks way)) (HasFloorBetween
          (ahead_link (kept_on line way)) (number_on x y origin.setup way e)
          (number_on x y origin.setup way e + ahead_by (kept_on line way))))
          (sym (at.others way apart))
          (beside_early (box_on x y way) p d way (box_on x y way).number_is (reader_on line way)
          port (disk_on disks way) (able way) (origin.setup way) (early way)
          (lines way) (taken way)))));
    }

module _ {X Y P D : Type 0} (x : WayBox X) (y : WayBox Y) (p : Port P) (d : SlotDisk D)
    (only_now : (disk : D) (c : Slots) → d.left_since disk (d.moment disk) c → d.may_leave disk c)
    (line next : LiveLine X Y) (port port' : P) (disks disks' : BothDisks D) (w : Way)
    (same : (way : Way) → way ≢ w → reader_on next way ≡ reader_on line way)
    (same_disk : (way : Way) → way ≢ w → disk_on disks' way ≡ disk_on disks way)
    (byte number : ℕ) (ready : IsReadyLine x y p d (line_at line port disks))
    (adds : (stream : List ℕ) → HasParted line.ways stream → AddsByte next.ways w stream byte)
    (number_at : (stream : List ℕ) → HasParted line.ways stream
    → number ≡ capped (line_after stream)) where
  abbrev before : LineAt X Y P D
  before = line_at line port disks

  abbrev after : LineAt X Y P D
  after = line_at next port' disks'

  -- ---- the text is refused, or too long

  module _ (Says : List ℕ → Type 0) (ends : EndsUnchanged (box_on x y w) p d w (reader_on line w)
      (reader_on next w) port port' (disk_on disks w) (disk_on disks' w) Says) where
    lines_same : (way : Way) → lines_on next way ≡ lines_on line way
    lines_same = each_way w (λ way. lines_on next way ≡ lines_on line way) ends.lines
        (λ way apart. ap (λ (r : WayReader (BoxOn X Y way)). r.lines) (same way apart))

    ticks_same : (way : Way) → (reader_on next way).ticks ≡ (reader_on line way).ticks
    ticks_same = each_way w (λ way. (reader_on next way).ticks ≡ (reader_on line way).ticks) ends.ticks
        (λ way apart. ap (λ (r : WayReader (BoxOn X Y way)). r.ticks) (same way apart))

    both_same : disks' ≡ disks
    both_same = disks_same disks disks' (each_way w (λ way. disk_on disks' way ≡ disk_on disks way)
        ends.disk same_disk)

    text_ends : (end : WayEnd) → IsOfStream end → ((origin : LineOrigin) (stream : List ℕ)
        → LineStands x y p d before origin stream
        → EndsBehind (HeardAt x y p d (line_at next port disks) origin)
        (HaltsAt x y p d (line_at next port disks) origin) end stream (byte ∷ []))
        → EndsInBytes x y p d before after end (byte ∷ [])
    text_ends end calm behind = subst (λ port. EndsInBytes x y p d before (line_at next port disks')
        end (byte ∷ [])) (sym ends.port)
        (subst (λ disks. EndsInBytes x y p d before (line_at next port disks) end (byte ∷ []))
        (sym both_same) (record {
          goes = goes_same x y p d only_now line next port disks lines_same end calm;
          left = refl;
          no_read = calm.no_read;
          ready = λ e. ready_same x y p d only_now line next port disks lines_same ticks_same ready;
          ends = λ origin stream stands. record {
            front = stream;
            later = byte ∷ [];
            is = refl;
            begins = stream_begins x y p d before origin stream stands;
            ends = behind origin stream stands;
          };
        }))

    still_heard : (origin : LineOrigin) (stream : List ℕ) → LineStands x y p d before origin stream
        → HeardAt x y p d (line_at next port disks) origin (lines_in stream)
    still_heard origin stream stands = heard_same x y p d only_now line next port disks lines_same
        origin (lines_in stream) (stands_heard x y p d before origin stream stands)

    says_of : (origin : LineOrigin) (stream : List ℕ) → LineStands x y p d before origin stream
        → Says (text_on w stream)
    says_of origin stream stands =
        ends.says (text_on w stream) (stands.reads w).has_read (stands.reads w).count

  -- ---- the way was stopped

  module _ (stop : Stop) (stops : StopsAtByte (box_on x y w) p d w (reader_on line w)
      (reader_on next w) port port' (disk_on disks w) (disk_on disks' w) byte stop)
      (origin : LineOrigin) (stream : List ℕ) (stands : LineStands x y p d before origin stream)
    where
      pub added : AddsByte next.ways w stream byte
      added = adds stream stands.parted

      pub begins_more : BeginsStream (stream ++ byte ∷ [])
      begins_more = record {
        lettered = added.parted.lettered;
        last = last_of next.ways.within (lines_of (stream ++ byte ∷ [])).last added.parted.within;
        begins = each_way w (λ way. BeginsTickText 0 (text_on way (stream ++ byte ∷ [])))
            (subst (BeginsTickText 0) (sym added.own) (read_begins (reader_on next w).reader
            (text_on w stream ++ byte ∷ []) (stops.reads (text_on w stream) (stands.reads w).has_read)))
            (λ way apart. subst (BeginsTickText 0) (sym (added.others way apart))
            (read_begins (reader_on line way).reader (text_on way stream) (stands.reads way).has_read));
      }

      pub within : StopsWithin (box_on x y w) p d w (reader_on next w) port' (disk_on disks' w)
          (origin_by x y w origin stands.early) stop
          (ticks_in (ended_items (text_on w stream ++ byte ∷ [])))
      within = stops.stops (origin_by x y w origin stands.early) (text_on w stream)
          (reads_on x y p d line port disks w origin stream stands)

      pub own_grown : within.taken ++ within.more ≡ lines_in (stream ++ byte ∷ []) w
      own_grown = within.all ∙ ap (λ l. ticks_in (ended_items l)) (sym added.own)

      pub others_grow : (way : Way) → way ≢ w
          → lines_in stream way ≡ lines_in (stream ++ byte ∷ []) way
      others_grow way apart = ap (λ l. ticks_in (ended_items l)) (sym (added.others way apart))

      pub settled_out : StopsAtSettle (box_on x y w) p d w (way_at (reader_on next w) port'
          (disk_on disks' w)) (origin_by x y w origin stands.early) within.taken
          → SettleFails x y p d after origin (lines_in (stream ++ byte ∷ []))
      settled_out = settle_fails x y p d line next port port' disks disks' w same same_disk
          (λ way. (ready way).able) origin
          stands.early (lines_in stream) (lines_in (stream ++ byte ∷ []))
          (λ way. (stands.reads way).taken) others_grow within.taken within.more own_grown

      pub written_out : StopsAtWrite (box_on x y w) p d w (way_at (reader_on next w) port'
          (disk_on disks' w)) (origin_by x y w origin stands.early) within.taken
          → WriteFails x y p d after origin (lines_in (stream ++ byte ∷ []))
      written_out = write_fails x y p d line next port port' disks disks' w same same_disk
          (λ way. (ready way).able) origin
          stands.early (lines_in stream) (lines_in (stream ++ byte ∷ []))
          (λ way. (stands.reads way).taken) others_grow within.taken within.more own_grown

  -- ---- each fault

  halts_by : (stop : Stop) (stops : StopsAtByte (box_on x y w) p d w (reader_on line w)
      (reader_on next w) port port' (disk_on disks w) (disk_on disks' w) byte stop)
      (origin : LineOrigin) (stream : List ℕ) (stands : LineStands x y p d before origin stream)
      → HaltsAt x y p d after origin w stop (lines_in (stream ++ byte ∷ []))
  halts_by JournalFault stops origin stream stands =
      settled_out JournalFault stops origin stream stands
      (within JournalFault stops origin stream stands).stops
  halts_by WriteFault stops origin stream stands =
      written_out WriteFault stops origin stream stands
      (within WriteFault stops origin stream stands).stops
  halts_by NoMemory stops origin stream stands =
      (within NoMemory stops origin stream stands).stops

  pub way_faulted : (found : WayFault) → FaultsAtByte (box_on x y w) p d w (reader_on line w)
      (reader_on next w) port port' (disk_on disks w) (disk_on disks' w) byte found
      → EndsInBytes x y p d before after (end_of w number found) (byte ∷ [])
  way_faulted (fault.Refused why) ends = text_ends _ ends (Refused w (record {
    line = number;
    why = why;
  })) (record { no_disk = λ way. refl; no_read = refl; no_write = refl })
      (λ origin stream stands.
      let says = says_of _ ends origin stream stands in
      record {
        byte = byte;
        rest = [];
        is = refl;
        own = (adds stream stands.parted).own;
        refused = says.0;
        line = number_at stream stands.parted;
        why = says.1;
        heard = still_heard _ ends origin stream stands;
      })
  way_faulted (fault.TooLong Ticks count) ends = text_ends _ ends (TooLong w Ticks count)
      (record { no_disk = λ way. refl; no_read = refl; no_write = refl })
      (λ origin stream stands.
      let says = says_of _ ends origin stream stands in
      record {
        byte = byte;
        rest = [];
        is = refl;
        sum = says.1 ∙ ap (λ l. length (ticks_in (ended_items l)))
            (sym (adds stream stands.parted).own);
        above = says.0;
        heard = still_heard _ ends origin stream stands;
      })
  way_faulted (fault.TooLong Bytes count) ends = text_ends _ ends (TooLong w Bytes count)
      (record { no_disk = λ way. refl; no_read = refl; no_write = refl })
      (λ origin stream stands.
      let says = says_of _ ends origin stream stands in
      record {
        above = says.0;
        none = says.1;
        heard = still_heard _ ends origin stream stands;
      })
  way_faulted (fault.Stopped stop) stops = record {
    goes = goes_on_way x y p d only_now line next port port' disks disks' w same same_disk
        (Err stop) stops.went;
    left = stops.went.port.left_same;
    no_read = refl;
    ready = λ e. cc;
    ends = λ origin stream stands. record {
      front = stream ++ byte ∷ [];
      later = [];
      is = sym (append-nil (stream ++ byte ∷ []));
      begins = begins_more stop stops origin stream stands;
      ends = halts_by stop stops origin stream stands;
    };
  }
