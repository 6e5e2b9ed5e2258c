-- What both ways make of ticks that were read from no text.
use Rattle.line_commands.specs.declared.port.Port.{Ghosts as Port}
use Rattle.live_line.specs.WayLines.{HasTakenOn, way_outside}
use Rattle.live_line.specs.WayRuns.{WayStands, WayStops, IsAbleWay, way_filtering}
use Rattle.live_line.specs.declared.way_box.WayBox.{Ghosts as WayBox}
use Rattle.live_line.specs.declared.way_lines.WayLines.{WayLines}
use Rattle.live_line.specs.declared.ways.Way.{Way}
use Rattle.live_line.specs.declared.ways.Way.TheVariants.{Outgoing, Incoming}
use Rattle.live_ways.proofs.BothTaken.{goes_on_way, origin_by}
use Rattle.live_ways.proofs.BytesTaken.{goes_then}
use Rattle.live_ways.proofs.HandingOn.{able_beside, same_out, same_in, disk_out, disk_in}
use Rattle.live_ways.proofs.WayFaults.{settle_fails, write_fails, each_way, for_way, for_own}
use Rattle.live_ways.proofs.WayFaults.{for_other}
use Rattle.live_ways.specs.BothDisks.{disk_on}
use Rattle.live_ways.specs.Driving.{TakesMore}
use Rattle.live_ways.specs.LiveLine.{LineAt, line_at, LineOrigin, HeardAt, HaltsAt}
use Rattle.live_ways.specs.LiveLine.{IsAbleLine, IsReadyLine, box_on, reader_on}
use Rattle.live_ways.specs.LiveLine.{lines_on, BoxOn}
use Rattle.live_ways.specs.WayReading.{IsReadyWay, way_at}
use Rattle.live_ways.specs.declared.both_disks.BothDisks.{BothDisks}
use Rattle.live_ways.specs.declared.both_ways.LiveLine.{LiveLine}
use Rattle.live_ways.specs.declared.way_end.WayEnd.{WayEnd}
use Rattle.live_ways.specs.declared.way_end.WayEnd.TheVariants.{Whole, Stopped}
use Rattle.live_ways.specs.declared.way_reader.WayReader.{WayReader}
use Rattle.std.proofs.Common.{◌≡◌, ◌≢◌, ◌∙◌, ℕ, ◌+◌, ◌≤◌, List, [], ◌++◌, Ok, Err, Result, refl, ap}
use Rattle.std.proofs.Common.{sym}
use Rattle.std.proofs.Common.{subst, append-nil, append_assoc, arith, map, take, drop}
use Rattle.std.proofs.Common.{take-append-drop}
use Rattle.tick_drive.proofs.ItemLaws.{ticks_in-append, length-ticks_in-silence}
use Rattle.tick_drive.specs.Consumers.{Gives, MayTake}
use Rattle.tick_drive.specs.declared.consumer.Stop.{Stop}
use Rattle.tick_drive.specs.declared.consumer.Stop.TheVariants.{WriteFault, JournalFault, NoMemory}
use Rattle.yasir_io.specs.Disks.{Slots}
use Rattle.yasir_io.specs.declared.disk.SlotDisk.{Ghosts as SlotDisk}
use Rattle.yasir_ticks.proofs.TickRuns.{ticks_in-ticks, ticks_in-run}
use Rattle.yasir_ticks.specs.TickRun.{run_items}
use Rattle.yasir_ticks.specs.Ticks.{Item, ticks_in, silent}
use Rattle.yasir_ticks.specs.Ticks.Item.{tick}
use Rattle.yasir_ticks.specs.declared.tick.Tick.{Tick}
use Rattle.yasir_ticks.specs.declared.tick_run.TickRun.{TheVariants.Silence}

-- ---- one way

module _ {X Y P D : Type 0} (x : WayBox X) (y : WayBox Y) (p : Port P) (d : SlotDisk D)
    (only_now : (disk : D) (c : Slots) → d.left_since disk (d.moment disk) c → d.may_leave disk c)
    (line next : LiveLine X Y) (port port' : P) (disks disks' : BothDisks D) (w : Way)
    (same : (way : Way) → way ≢ w → reader_on next way ≡ reader_on line way)
    (same_disk : (way : Way) → way ≢ w → disk_on disks' way ≡ disk_on disks way)
    (able : IsAbleLine x y p d (line_at line port disks)) (items : List Item) where
  abbrev before : LineAt X Y P D
  before = line_at line port disks

  abbrev after : LineAt X Y P D
  after = line_at next port' disks'

  -- the ticks that each way has taken
  abbrev pub extra_on : Way → List Tick
  extra_on = for_way w (ticks_in items) (λ way. [])

  -- a way stands on items of which these are the ticks
  stands_on : (origin : LineOrigin) (lines : Way → List Tick)
      → (heard : HeardAt x y p d before origin lines)
      → WayStands (box_on x y w) p d w (way_at (reader_on line w) port (disk_on disks w))
      (origin_by x y w origin heard.early) (ticks_in (map tick (lines w)))
  stands_on origin lines heard = subst (WayStands (box_on x y w) p d w
      (way_at (reader_on line w) port (disk_on disks w)) (origin_by x y w origin heard.early))
      (sym (ticks_in-ticks (lines w))) (record {
        makes = refl;
        early = heard.early;
        others = λ other apart. refl;
        handed = heard.handed;
        taken = heard.taken w;
      })

  own_line : (lines : Way → List Tick)
      → ticks_in (map tick (lines w) ++ items) ≡ lines w ++ extra_on w
  own_line lines = ticks_in-append (map tick (lines w)) items
      ∙ (ap (λ l. l ++ ticks_in items) (ticks_in-ticks (lines w))
      ∙ ap (λ l. lines w ++ l) (sym (for_own w (ticks_in items) (λ way. []))))

  other_line : (lines : Way → List Tick) (way : Way) → way ≢ w → lines way ≡ lines way ++ extra_on way
  other_line lines way apart = sym (append-nil (lines way))
      ∙ ap (λ l. lines way ++ l) (sym (for_other w (ticks_in items) (λ way. []) way apart))

  module _ (gives : Gives (way_filtering (box_on x y w) p d w)
      (way_at (reader_on line w) port (disk_on disks w))
      (way_at (reader_on next w) port' (disk_on disks' w)) items (Ok tt)) where
    heard_on : (origin : LineOrigin) (lines : Way → List Tick) → HeardAt x y p d before origin lines
        → HeardAt x y p d after origin (λ way. lines way ++ extra_on way)
    heard_on origin lines heard =
        let on : WayStands (box_on x y w) p d w
        (way_at (reader_on next w) port' (disk_on disks' w)) (origin_by x y w origin heard.early)
        (ticks_in (map tick (lines w) ++ items)) =
        gives.moved (origin_by x y w origin heard.early) (map tick (lines w))
        (stands_on origin lines heard) in
        record {
          early = on.early;
          handed = on.handed;
          taken = each_way w (λ way. HasTakenOn (box_on x y way) (lines_on next way)
              (origin.setup way) (on.early way) (lines way ++ extra_on way))
              (subst (HasTakenOn (box_on x y w) (lines_on next w) (origin.setup w) (on.early w))
              (own_line lines) on.taken)
              (λ way apart. subst (HasTakenOn (box_on x y way) (lines_on next way)
              (origin.setup way) (on.early way)) (other_line lines way apart)
              (subst (λ e. HasTakenOn (box_on x y way) (lines_on next way) (origin.setup way) e
              (lines way)) (sym (on.others way apart))
              (subst (λ (r : WayReader (BoxOn X Y way)). HasTakenOn (box_on x y way) r.lines
              (origin.setup way) (heard.early way) (lines way)) (sym (same way apart))
              (heard.taken way))));
        }

    pub more_taken : TakesMore x y p d extra_on before after (Ok tt)
    more_taken = record {
      goes = goes_on_way x y p d only_now line next port port' disks disks' w same same_disk (Ok tt)
          gives.went;
      left = gives.went.port.left_same;
      able = each_way w (λ way. IsAbleWay (box_on x y way) p d way
          (way_at (reader_on next way) port' (disk_on disks' way))) gives.is_able
          (able_beside x y p d line next port port' disks disks' w same same_disk able);
      taken = heard_on;
      stopped = tt;
    }

  module _ (stop : Stop) (gives : Gives (way_filtering (box_on x y w) p d w)
      (way_at (reader_on line w) port (disk_on disks w))
      (way_at (reader_on next w) port' (disk_on disks' w)) items (Err stop)) where
    abbrev count : ℕ
    count = gives.stopped.place + 1

    -- the ticks that the way had taken when it was stopped, and those behind them
    abbrev own : (Way → List Tick) → List Tick
    own lines = ticks_in (map tick (lines w) ++ take count items)

    own_all : (lines : Way → List Tick)
        → own lines ++ ticks_in (drop count items) ≡ lines w ++ extra_on w
    own_all lines = sym (ticks_in-append (map tick (lines w) ++ take count items) (drop count items))
        ∙ (ap ticks_in (append_assoc (map tick (lines w)) (take count items) (drop count items)
        ∙ ap (λ l. map tick (lines w) ++ l) (take-append-drop count items)) ∙ own_line lines)

    stopped_on : (origin : LineOrigin) (lines : Way → List Tick)
        → (heard : HeardAt x y p d before origin lines)
        → WayStops (box_on x y w) p d w (way_at (reader_on next w) port' (disk_on disks' w)) stop
        (origin_by x y w origin heard.early) (own lines)
    stopped_on origin lines heard = gives.stopped.at (origin_by x y w origin heard.early)
        (map tick (lines w)) (stands_on origin lines heard)

  halts_on : (stop : Stop) → Gives (way_filtering (box_on x y w) p d w)
      (way_at (reader_on line w) port (disk_on disks w))
      (way_at (reader_on next w) port' (disk_on disks' w)) items (Err stop) → (origin : LineOrigin)
      (lines : Way → List Tick) → HeardAt x y p d before origin lines
      → HaltsAt x y p d after origin w stop (λ way. lines way ++ extra_on way)
  halts_on JournalFault gives origin lines heard = settle_fails x y p d line next port port' disks
      disks' w same same_disk able origin heard.early lines (λ way. lines way ++ extra_on way)
      heard.taken (other_line lines) (own JournalFault gives lines)
      (ticks_in (drop (count JournalFault gives) items)) (own_all JournalFault gives lines)
      (stopped_on JournalFault gives origin lines heard)
  halts_on WriteFault gives origin lines heard = write_fails x y p d line next port port' disks disks'
      w same same_disk able origin heard.early lines (λ way. lines way ++ extra_on way) heard.taken
      (other_line lines) (own WriteFault gives lines)
      (ticks_in (drop (count WriteFault gives) items)) (own_all WriteFault gives lines)
      (stopped_on WriteFault gives origin lines heard)
  halts_on NoMemory gives origin lines heard = stopped_on NoMemory gives origin lines heard

  pub more_stopped : (stop : Stop) → Gives (way_filtering (box_on x y w) p d w)
      (way_at (reader_on line w) port (disk_on disks w))
      (way_at (reader_on next w) port' (disk_on disks' w)) items (Err stop)
      → TakesMore x y p d extra_on before after (Err (Stopped w stop))
  more_stopped stop gives = record {
    goes = goes_on_way x y p d only_now line next port port' disks disks' w same same_disk (Err stop)
        gives.went;
    left = gives.went.port.left_same;
    able = tt;
    taken = tt;
    stopped = (w, (stop, (refl, halts_on stop gives)));
  }

-- ---- one way, and then the other

module _ {X Y P D : Type 0} (x : WayBox X) (y : WayBox Y) (p : Port P) (d : SlotDisk D) where
  -- what both ways have heard of lines that are the same tick by tick
  heard_as : (at : LineAt X Y P D) (origin : LineOrigin) (lines other : Way → List Tick)
      → ((way : Way) → lines way ≡ other way) → HeardAt x y p d at origin lines
      → HeardAt x y p d at origin other
  heard_as at origin lines other same heard = record {
    early = heard.early;
    handed = heard.handed;
    taken = λ way. subst (HasTakenOn (box_on x y way) (lines_on at.line way) (origin.setup way)
        (heard.early way)) (same way) (heard.taken way);
  }

  -- where a way was stopped at a tick of lines, it was at one of longer lines
  halts_further : (at : LineAt X Y P D) (origin : LineOrigin) (w : Way) (stop : Stop)
      (lines more all : Way → List Tick) → ((way : Way) → lines way ++ more way ≡ all way)
      → HaltsAt x y p d at origin w stop lines → HaltsAt x y p d at origin w stop all
  halts_further at origin w JournalFault lines more all is fails = record {
    early = fails.early;
    later = fails.later;
    more = λ way. fails.more way ++ more way;
    all = λ way. sym (append_assoc (fails.early way ++ fails.later way) (fails.more way) (more way))
        ∙ (ap (λ l. l ++ more way) (fails.all way) ∙ is way);
    handed = fails.handed;
    reached = fails.reached;
    floors = fails.floors;
  }
  halts_further at origin w WriteFault lines more all is fails = record {
    heard = fails.heard;
    more = λ way. fails.more way ++ more way;
    all = λ way. sym (append_assoc (fails.heard way) (fails.more way) (more way))
        ∙ (ap (λ l. l ++ more way) (fails.all way) ∙ is way);
    fronts = fails.fronts;
    reached = fails.reached;
    floors = fails.floors;
  }
  halts_further at origin w NoMemory lines more all is fails = fails

  module _ (old mid new : LineAt X Y P D) (first then all : Way → List Tick)
      (is : (way : Way) → first way ++ then way ≡ all way) where
    longer : (lines : Way → List Tick) (way : Way)
        → (lines way ++ first way) ++ then way ≡ lines way ++ all way
    longer lines way = append_assoc (lines way) (first way) (then way)
        ∙ ap (λ l. lines way ++ l) (is way)

    pub more_then : TakesMore x y p d first old mid (Ok tt) → TakesMore x y p d then mid new (Ok tt)
        → TakesMore x y p d all old new (Ok tt)
    more_then one two = record {
      goes = goes_then x y p d old mid new Whole one.goes two.goes;
      left = two.left ∙ one.left;
      able = two.able;
      taken = λ origin lines heard. heard_as new origin
          (λ way. (lines way ++ first way) ++ then way) (λ way. lines way ++ all way) (longer lines)
          (two.taken origin (λ way. lines way ++ first way) (one.taken origin lines heard));
      stopped = tt;
    }

    pub more_fails : (end : WayEnd) → TakesMore x y p d first old mid (Ok tt)
        → TakesMore x y p d then mid new (Err end) → TakesMore x y p d all old new (Err end)
    more_fails end one two = let at = two.stopped in record {
      goes = goes_then x y p d old mid new end one.goes two.goes;
      left = two.left ∙ one.left;
      able = tt;
      taken = tt;
      stopped = (
        at.0,
        (
          at.1.0,
          (
            at.1.1.0,
            λ origin lines heard. halts_further new origin at.0 at.1.0
                (λ way. (lines way ++ first way) ++ then way) (λ way. []) (λ way. lines way ++ all way)
                (λ way. append-nil ((lines way ++ first way) ++ then way) ∙ longer lines way)
                (at.1.1.1 origin (λ way. lines way ++ first way) (one.taken origin lines heard)),
          ),
        ),
      );
    }

    pub first_fails : (end : WayEnd) → TakesMore x y p d first old new (Err end)
        → TakesMore x y p d all old new (Err end)
    first_fails end one = let at = one.stopped in record {
      goes = one.goes;
      left = one.left;
      able = tt;
      taken = tt;
      stopped = (
        at.0,
        (
          at.1.0,
          (
            at.1.1.0,
            λ origin lines heard. halts_further new origin at.0 at.1.0
                (λ way. lines way ++ first way) then (λ way. lines way ++ all way) (longer lines)
                (at.1.1.1 origin lines heard),
          ),
        ),
      );
    }

-- ---- the silent ticks behind both texts

-- ticks of silence that one way takes
abbrev pub extra_by : Way → ℕ → Way → List Tick
extra_by w n = for_way w (ticks_in (run_items (Silence n))) (λ way. [])

-- First those of the outgoing way come, and then those of the other.
pub rests_are : (rest : Way → ℕ) (way : Way)
    → extra_by Outgoing (rest Outgoing) way ++ extra_by Incoming (rest Incoming) way
    ≡ silent (rest way)
rests_are rest Outgoing = append-nil (ticks_in (run_items (Silence (rest Outgoing))))
    ∙ ticks_in-run (Silence (rest Outgoing))
rests_are rest Incoming = ticks_in-run (Silence (rest Incoming))

-- A way that has counted the ticks of its text may take those of a rest.
pub rest_fits : {X P D : Type 0} (x : WayBox X) (p : Port P) (d : SlotDisk D) (w : Way)
    (reader : WayReader X) (port : P) (disk : D) (n : ℕ) → n ≤ 4294967295
    → IsReadyWay x p d w reader port disk → (at : P) (now : D)
    → IsAbleWay x p d w (way_at reader at now)
    → MayTake (way_filtering x p d w) (way_at reader at now) (run_items (Silence n))
rest_fits x p d w reader port disk n few ready at now able = record {
  room = omega (arith, ready.counted, ready.few, few, length-ticks_in-silence n);
  able = able;
}

-- ---- the ticks that the outgoing way takes, and then the other

module _ {X Y P D : Type 0} (x : WayBox X) (y : WayBox Y) (p : Port P) (d : SlotDisk D)
    (only_now : (disk : D) (c : Slots) → d.left_since disk (d.moment disk) c → d.may_leave disk c)
    (line : LiveLine X Y) (out : WayLines X) (port mid : P) (disks : BothDisks D) (sent : D)
    (able : IsAbleLine x y p d (line_at line port disks)) (rest : Way → ℕ) where
  abbrev out_reader : WayReader X
  out_reader = record line.outgoing { lines = out }

  abbrev out_line : LiveLine X Y
  out_line = record line { outgoing = out_reader }

  abbrev out_disks : BothDisks D
  out_disks = record disks { first = sent }

  abbrev at_first : LineAt X Y P D
  at_first = line_at line port disks

  abbrev at_out : LineAt X Y P D
  at_out = line_at out_line mid out_disks

  -- what the outgoing way was given
  abbrev OutGives : Result (Unit {0}) Stop → Type 0
  OutGives = Gives (way_filtering x p d Outgoing)
      (way_outside line.outgoing.lines port disks.first) (way_outside out mid sent)
      (run_items (Silence (rest Outgoing)))

  -- the ticks of both ways
  abbrev rests : Way → List Tick
  rests way = silent (rest way)

  pub out_stopped : (stop : Stop) → OutGives (Err stop)
      → TakesMore x y p d rests at_first at_out (Err (Stopped Outgoing stop))
  out_stopped stop gives = first_fails x y p d at_first at_out at_out
      (extra_by Outgoing (rest Outgoing)) (extra_by Incoming (rest Incoming)) rests (rests_are rest)
      (Stopped Outgoing stop) (more_stopped x y p d only_now line out_line port mid disks out_disks
      Outgoing (same_out line line.ways out_reader) (disk_out disks sent) able
      (run_items (Silence (rest Outgoing))) stop gives)

  module _ (one : OutGives (Ok tt)) where
    out_taken : TakesMore x y p d (extra_by Outgoing (rest Outgoing)) at_first at_out (Ok tt)
    out_taken = more_taken x y p d only_now line out_line port mid disks out_disks Outgoing
        (same_out line line.ways out_reader) (disk_out disks sent) able
        (run_items (Silence (rest Outgoing))) one

    -- The incoming way may take its rest once the outgoing one has.
    pub in_may : IsReadyLine x y p d at_first → rest Incoming ≤ 4294967295
        → MayTake (way_filtering y p d Incoming)
        (way_outside line.incoming.lines mid disks.second) (run_items (Silence (rest Incoming)))
    in_may ready few = rest_fits y p d Incoming line.incoming port disks.second (rest Incoming) few
        (ready Incoming) mid disks.second (out_taken.able Incoming)

    module _ (into : WayLines Y) (port' : P) (got : D) where
      abbrev in_reader : WayReader Y
      in_reader = record line.incoming { lines = into }

      abbrev both_line : LiveLine X Y
      both_line = record out_line { incoming = in_reader }

      abbrev both_disks : BothDisks D
      both_disks = record out_disks { second = got }

      abbrev at_both : LineAt X Y P D
      at_both = line_at both_line port' both_disks

      -- what the incoming way was given then
      abbrev InGives : Result (Unit {0}) Stop → Type 0
      InGives = Gives (way_filtering y p d Incoming)
          (way_outside line.incoming.lines mid disks.second) (way_outside into port' got)
          (run_items (Silence (rest Incoming)))

      pub both_taken : InGives (Ok tt) → TakesMore x y p d rests at_first at_both (Ok tt)
      both_taken two = more_then x y p d at_first at_out at_both
          (extra_by Outgoing (rest Outgoing)) (extra_by Incoming (rest Incoming)) rests
          (rests_are rest) out_taken
          (more_taken x y p d only_now out_line both_line mid port' out_disks both_disks Incoming
          (same_in out_line line.ways in_reader) (disk_in out_disks got) out_taken.able
          (run_items (Silence (rest Incoming))) two)

      pub in_stopped : (stop : Stop) → InGives (Err stop)
          → TakesMore x y p d rests at_first at_both (Err (Stopped Incoming stop))
      in_stopped stop two = more_fails x y p d at_first at_out at_both
          (extra_by Outgoing (rest Outgoing)) (extra_by Incoming (rest Incoming)) rests
          (rests_are rest) (Stopped Incoming stop) out_taken
          (more_stopped x y p d only_now out_line both_line mid port' out_disks both_disks Incoming
          (same_in out_line line.ways in_reader) (disk_in out_disks got) out_taken.able
          (run_items (Silence (rest Incoming))) stop two)
