-- What is handed on of one way, and of both.
use Rattle.line_commands.specs.declared.port.Port.{Ghosts as Port}
use Rattle.live_line.specs.WayLines.{HasTakenOn, way_in, way_outside}
use Rattle.live_line.specs.WayRuns.{HandsAll, WayStands, IsAbleWay}
use Rattle.live_line.specs.declared.way_box.WayBox.{Ghosts as WayBox}
use Rattle.live_line.specs.declared.way_lines.WayLines.{WayLines}
use Rattle.live_line.specs.declared.ways.Way.{Way}
use Rattle.live_line.specs.declared.ways.Way.TheVariants.{Outgoing, Incoming}
use Rattle.live_line.specs.declared.ways.Ways.{Ways}
use Rattle.live_ways.proofs.BothTaken.{goes_on_way, origin_by}
use Rattle.live_ways.proofs.BytesTaken.{goes_then}
use Rattle.live_ways.proofs.WayFaults.{settle_fails, write_fails, each_way, only_two}
use Rattle.live_ways.specs.BothDisks.{disk_on}
use Rattle.live_ways.specs.LiveLine.{LineAt, line_at, LineOrigin, HeardAt, HandedAt, HaltsAt}
use Rattle.live_ways.specs.LiveLine.{IsAbleLine, HandsSo, HandsBoth, box_on, reader_on, lines_on}
use Rattle.live_ways.specs.LiveLine.{BoxOn}
use Rattle.live_ways.specs.WayReading.{way_at}
use Rattle.live_ways.specs.declared.both_disks.BothDisks.{BothDisks}
use Rattle.live_ways.specs.declared.both_ways.LiveLine.{LiveLine}
use Rattle.live_ways.specs.declared.way_end.WayEnd.{WayEnd}
use Rattle.live_ways.specs.declared.way_end.WayEnd.TheVariants.{Whole, Stopped}
use Rattle.live_ways.specs.declared.way_reader.WayReader.{WayReader}
use Rattle.std.proofs.Common.{◌≡◌, ◌≢◌, ◌∙◌, List, [], Ok, Err, Result, refl, ap, sym, subst}
use Rattle.std.proofs.Common.{append-nil}
use Rattle.tick_drive.specs.declared.consumer.Stop.{Stop}
use Rattle.tick_drive.specs.declared.consumer.Stop.TheVariants.{WriteFault, JournalFault, NoMemory}
use Rattle.yasir_io.specs.Disks.{Slots}
use Rattle.yasir_io.specs.declared.disk.SlotDisk.{Ghosts as SlotDisk}
use Rattle.yasir_ticks.specs.declared.tick.Tick.{Tick}

-- another way may take more, as before
pub able_beside : {X Y P D : Type 0} (x : WayBox X) (y : WayBox Y) (p : Port P) (d : SlotDisk D)
    (line next : LiveLine X Y) (port port' : P) (disks disks' : BothDisks D) (w : Way)
    → ((way : Way) → way ≢ w → reader_on next way ≡ reader_on line way)
    → ((way : Way) → way ≢ w → disk_on disks' way ≡ disk_on disks way)
    → IsAbleLine x y p d (line_at line port disks) → (way : Way) → way ≢ w
    → IsAbleWay (box_on x y way) p d way (way_at (reader_on next way) port' (disk_on disks' way))
able_beside x y p d line next port port' disks disks' w same same_disk able way apart =
    let was = able way in
    subst (λ disk. IsAbleWay (box_on x y way) p d way (way_at (reader_on next way) port' disk))
    (sym (same_disk way apart))
    (subst (λ r. IsAbleWay (box_on x y way) p d way (way_at r port' (disk_on disks way)))
    (sym (same way apart)) (record { may = was.may; ahead = was.ahead; stands = was.stands }))

-- Nothing waits of a way.
pub record ClearOn {X Y P D : Type 0} (x : WayBox X) (y : WayBox Y) (p : Port P)
    (at : LineAt X Y P D) (d : SlotDisk D) (w : Way) (origin : LineOrigin) (lines : Way → List Tick) :
    Type 0 where
  pub heard : HeardAt x y p d at origin lines
  pub all : heard.early w ≡ lines w

module _ {X Y P D : Type 0} (x : WayBox X) (y : WayBox Y) (p : Port P) (d : SlotDisk D)
    (only_now : (disk : D) (c : Slots) → d.left_since disk (d.moment disk) c → d.may_leave disk c)
    (line next : LiveLine X Y) (port port' : P) (disks disks' : BothDisks D) (w : Way)
    (same : (way : Way) → way ≢ w → reader_on next way ≡ reader_on line way)
    (same_disk : (way : Way) → way ≢ w → disk_on disks' way ≡ disk_on disks way)
    (parted : next.ways ≡ line.ways)
    (reader : (reader_on next w).reader ≡ (reader_on line w).reader)
    (ticks : (reader_on next w).ticks ≡ (reader_on line w).ticks)
    (able : IsAbleLine x y p d (line_at line port disks)) where
  abbrev before : LineAt X Y P D
  before = line_at line port disks

  abbrev after : LineAt X Y P D
  after = line_at next port' disks'

  -- what a way stands on, if both have heard these lines
  stands_on : (origin : LineOrigin) (lines : Way → List Tick)
      → (heard : HeardAt x y p d before origin lines)
      → WayStands (box_on x y w) p d w (way_at (reader_on line w) port (disk_on disks w))
      (origin_by x y w origin heard.early) (lines w)
  stands_on origin lines heard = record {
    makes = refl;
    early = heard.early;
    others = λ other apart. refl;
    handed = heard.handed;
    taken = heard.taken w;
  }

  module _ (hands : HandsAll (box_on x y w) p d w (way_at (reader_on line w) port (disk_on disks w))
      (way_at (reader_on next w) port' (disk_on disks' w)) (Ok tt)) where
    clear_on : (origin : LineOrigin) (lines : Way → List Tick) → HeardAt x y p d before origin lines
        → ClearOn x y p after d w origin lines
    clear_on origin lines heard =
        let on = hands.handed (origin_by x y w origin heard.early) (lines w)
        (stands_on origin lines heard) in
        record {
          heard = record {
            early = on.stands.early;
            handed = on.stands.handed;
            taken = each_way w (λ way. HasTakenOn (box_on x y way) (lines_on next way)
                (origin.setup way) (on.stands.early way) (lines way)) on.stands.taken
                (λ way apart. subst (λ e. HasTakenOn (box_on x y way) (lines_on next way)
                (origin.setup way) e (lines way)) (sym (on.stands.others way apart))
                (subst (λ (r : WayReader (BoxOn X Y way)). HasTakenOn (box_on x y way) r.lines
                (origin.setup way) (heard.early way) (lines way)) (sym (same way apart))
                (heard.taken way)));
          };
          all = on.all;
        }

    -- what was handed on of another way stays handed on
    pub still_clear : (other : Way) → other ≢ w → (origin : LineOrigin) (lines : Way → List Tick)
        → ClearOn x y p before d other origin lines → HandedAt x y p d after origin lines
    unfolding clear_on
    still_clear other apart origin lines clear =
        let on = hands.handed (origin_by x y w origin clear.heard.early) (lines w)
        (stands_on origin lines clear.heard) in
        let now = clear_on origin lines clear.heard in
        record {
          heard = now.heard;
          all = each_way w (λ way. now.heard.early way ≡ lines way) now.all
              (λ way beside. on.stands.others way beside
              ∙ subst (λ v. clear.heard.early v ≡ lines v) (sym (only_two w other way apart beside))
              clear.all);
        }

    able_on : IsAbleLine x y p d after
    able_on = each_way w (λ way. IsAbleWay (box_on x y way) p d way
        (way_at (reader_on next way) port' (disk_on disks' way))) hands.able
        (able_beside x y p d line next port port' disks disks' w same same_disk able)

    counted_on : (way : Way) → (box_on x y way).taken (way_in (lines_on next way))
        ≡ (box_on x y way).taken (way_in (lines_on line way))
    counted_on = each_way w (λ way. (box_on x y way).taken (way_in (lines_on next way))
        ≡ (box_on x y way).taken (way_in (lines_on line way))) hands.taken
        (λ way apart. ap (λ (r : WayReader (BoxOn X Y way)). (box_on x y way).taken
        (way_in r.lines)) (same way apart))

    pub handed_one : HandsSo x y p d (ClearOn x y p after d w) before after (Ok tt)
    handed_one = record {
      goes = goes_on_way x y p d only_now line next port port' disks disks' w same same_disk (Ok tt)
          hands.went;
      left = hands.went.port.left_same;
      parted = parted;
      same = each_way w (λ way. (reader_on next way).reader ≡ (reader_on line way).reader) reader
          (λ way apart. ap (λ (r : WayReader (BoxOn X Y way)). r.reader) (same way apart));
      ticks = each_way w (λ way. (reader_on next way).ticks ≡ (reader_on line way).ticks) ticks
          (λ way apart. ap (λ (r : WayReader (BoxOn X Y way)). r.ticks) (same way apart));
      able = able_on;
      counted = counted_on;
      handed = clear_on;
      stopped = tt;
    }

  halts_on : (stop : Stop) → HandsAll (box_on x y w) p d w
      (way_at (reader_on line w) port (disk_on disks w))
      (way_at (reader_on next w) port' (disk_on disks' w)) (Err stop) → (origin : LineOrigin)
      (lines : Way → List Tick) → HeardAt x y p d before origin lines
      → HaltsAt x y p d after origin w stop lines
  halts_on JournalFault hands origin lines heard = settle_fails x y p d line next port port' disks
      disks' w same same_disk able origin heard.early lines lines heard.taken (λ way apart. refl)
      (lines w) [] (append-nil (lines w))
      (hands.stopped (origin_by x y w origin heard.early) (lines w) (stands_on origin lines heard))
  halts_on WriteFault hands origin lines heard = write_fails x y p d line next port port' disks disks'
      w same same_disk able origin heard.early lines lines heard.taken (λ way apart. refl) (lines w)
      [] (append-nil (lines w))
      (hands.stopped (origin_by x y w origin heard.early) (lines w) (stands_on origin lines heard))
  halts_on NoMemory hands origin lines heard =
      hands.stopped (origin_by x y w origin heard.early) (lines w) (stands_on origin lines heard)

  pub failed_one : (Handed : LineOrigin → (Way → List Tick) → Type 0) (stop : Stop)
      → HandsAll (box_on x y w) p d w (way_at (reader_on line w) port (disk_on disks w))
      (way_at (reader_on next w) port' (disk_on disks' w)) (Err stop)
      → HandsSo x y p d Handed before after (Err (Stopped w stop))
  failed_one Handed stop hands = record {
    goes = goes_on_way x y p d only_now line next port port' disks disks' w same same_disk (Err stop)
        hands.went;
    left = hands.went.port.left_same;
    parted = parted;
    same = each_way w (λ way. (reader_on next way).reader ≡ (reader_on line way).reader) reader
        (λ way apart. ap (λ (r : WayReader (BoxOn X Y way)). r.reader) (same way apart));
    ticks = each_way w (λ way. (reader_on next way).ticks ≡ (reader_on line way).ticks) ticks
        (λ way apart. ap (λ (r : WayReader (BoxOn X Y way)). r.ticks) (same way apart));
    able = tt;
    counted = tt;
    handed = tt;
    stopped = (w, (stop, (refl, halts_on stop hands)));
  }

module _ {X Y P D : Type 0} (x : WayBox X) (y : WayBox Y) (p : Port P) (d : SlotDisk D)
    (old mid new : LineAt X Y P D) (First Second : LineOrigin → (Way → List Tick) → Type 0) where
  -- What was handed on of one way, and then of the other.
  pub hands_then : HandsSo x y p d First old mid (Ok tt) → HandsSo x y p d Second mid new (Ok tt)
      → ((origin : LineOrigin) (lines : Way → List Tick) → First origin lines
      → HandedAt x y p d new origin lines) → HandsBoth x y p d old new (Ok tt)
  hands_then one two both = record {
    goes = goes_then x y p d old mid new Whole one.goes two.goes;
    left = two.left ∙ one.left;
    parted = two.parted ∙ one.parted;
    same = λ way. two.same way ∙ one.same way;
    ticks = λ way. two.ticks way ∙ one.ticks way;
    able = two.able;
    counted = λ way. two.counted way ∙ one.counted way;
    handed = λ origin lines heard. both origin lines (one.handed origin lines heard);
    stopped = tt;
  }

  pub fails_then : (end : WayEnd) → HandsSo x y p d First old mid (Ok tt)
      → ((origin : LineOrigin) (lines : Way → List Tick) → First origin lines
      → HeardAt x y p d mid origin lines) → HandsSo x y p d Second mid new (Err end)
      → HandsBoth x y p d old new (Err end)
  fails_then end one heard two = let at = two.stopped in record {
    goes = goes_then x y p d old mid new end one.goes two.goes;
    left = two.left ∙ one.left;
    parted = two.parted ∙ one.parted;
    same = λ way. two.same way ∙ one.same way;
    ticks = λ way. two.ticks way ∙ one.ticks way;
    able = tt;
    counted = tt;
    handed = tt;
    stopped = (
      at.0,
      (
        at.1.0,
        (
          at.1.1.0,
          λ origin lines was.
              at.1.1.1 origin lines (heard origin lines (one.handed origin lines was)),
        ),
      ),
    );
  }

-- ---- what stays the same of one way while the other is handed on

pub same_out : {X Y : Type 0} (line : LiveLine X Y) (ways : Ways) (o : WayReader X) (way : Way)
    → way ≢ Outgoing
    → reader_on (record line { ways = ways; outgoing = o }) way ≡ reader_on line way
same_out line ways o Outgoing apart = absurd (apart refl)
same_out line ways o Incoming apart = refl

pub same_in : {X Y : Type 0} (line : LiveLine X Y) (ways : Ways) (i : WayReader Y) (way : Way)
    → way ≢ Incoming
    → reader_on (record line { ways = ways; incoming = i }) way ≡ reader_on line way
same_in line ways i Outgoing apart = refl
same_in line ways i Incoming apart = absurd (apart refl)

pub disk_out : {D : Type 0} (disks : BothDisks D) (sent : D) (way : Way) → way ≢ Outgoing
    → disk_on (record disks { first = sent }) way ≡ disk_on disks way
disk_out disks sent Outgoing apart = absurd (apart refl)
disk_out disks sent Incoming apart = refl

pub disk_in : {D : Type 0} (disks : BothDisks D) (got : D) (way : Way) → way ≢ Incoming
    → disk_on (record disks { second = got }) way ≡ disk_on disks way
disk_in disks got Outgoing apart = refl
disk_in disks got Incoming apart = absurd (apart refl)

-- ---- what was handed on of the outgoing way, and then of the other

module _ {X Y P D : Type 0} (x : WayBox X) (y : WayBox Y) (p : Port P) (d : SlotDisk D)
    (only_now : (disk : D) (c : Slots) → d.left_since disk (d.moment disk) c → d.may_leave disk c)
    (line : LiveLine X Y) (out : WayLines X) (port mid : P) (disks : BothDisks D) (sent : D)
    (able : IsAbleLine x y p d (line_at line port disks)) where
  abbrev out_reader : WayReader X
  out_reader = record line.outgoing { lines = out }

  abbrev out_line : LiveLine X Y
  out_line = record line { outgoing = out_reader }

  abbrev out_disks : BothDisks D
  out_disks = record disks { first = sent }

  abbrev at_first : LineAt X Y P D
  at_first = line_at line port disks

  abbrev at_out : LineAt X Y P D
  at_out = line_at out_line mid out_disks

  abbrev OutHands : Result (Unit {0}) Stop → Type 0
  OutHands = HandsAll x p d Outgoing (way_outside line.outgoing.lines port disks.first)
      (way_outside out mid sent)

  pub out_fails : (stop : Stop) → OutHands (Err stop)
      → HandsBoth x y p d at_first at_out (Err (Stopped Outgoing stop))
  out_fails stop hands = failed_one x y p d only_now line out_line port mid disks out_disks Outgoing
      (same_out line line.ways out_reader) (disk_out disks sent) refl refl refl able
      (HandedAt x y p d at_out) stop hands

  module _ (into : WayLines Y) (port' : P) (got : D) (one : OutHands (Ok tt)) where
    abbrev in_reader : WayReader Y
    in_reader = record line.incoming { lines = into }

    abbrev both_line : LiveLine X Y
    both_line = record out_line { incoming = in_reader }

    abbrev both_disks : BothDisks D
    both_disks = record out_disks { second = got }

    abbrev at_both : LineAt X Y P D
    at_both = line_at both_line port' both_disks

    abbrev InHands : Result (Unit {0}) Stop → Type 0
    InHands = HandsAll y p d Incoming (way_outside line.incoming.lines mid disks.second)
        (way_outside into port' got)

    out_handed : HandsSo x y p d (ClearOn x y p at_out d Outgoing) at_first at_out (Ok tt)
    out_handed = handed_one x y p d only_now line out_line port mid disks out_disks Outgoing
        (same_out line line.ways out_reader) (disk_out disks sent) refl refl refl able one

    pub in_able : IsAbleLine x y p d at_out
    in_able = out_handed.able

    pub both_handed : InHands (Ok tt) → HandsBoth x y p d at_first at_both (Ok tt)
    both_handed two = hands_then x y p d at_first at_out at_both
        (ClearOn x y p at_out d Outgoing) (ClearOn x y p at_both d Incoming) out_handed
        (handed_one x y p d only_now out_line both_line mid port' out_disks both_disks Incoming
        (same_in out_line line.ways in_reader) (disk_in out_disks got) refl refl refl in_able two)
        (still_clear x y p d only_now out_line both_line mid port' out_disks both_disks Incoming
        (same_in out_line line.ways in_reader) (disk_in out_disks got) refl refl refl in_able two
        Outgoing (λ e. cc))

    pub in_fails : (stop : Stop) → InHands (Err stop)
        → HandsBoth x y p d at_first at_both (Err (Stopped Incoming stop))
    in_fails stop two = fails_then x y p d at_first at_out at_both
        (ClearOn x y p at_out d Outgoing) (HandedAt x y p d at_both) (Stopped Incoming stop)
        out_handed (λ origin lines clear. clear.heard)
        (failed_one x y p d only_now out_line both_line mid port' out_disks both_disks Incoming
        (same_in out_line line.ways in_reader) (disk_in out_disks got) refl refl refl in_able
        (HandedAt x y p d at_both) stop two)
