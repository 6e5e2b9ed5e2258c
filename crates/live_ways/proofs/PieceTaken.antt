-- What is left of calls that took a piece of a stream once what waited was handed on.
use Rattle.line_commands.specs.Lines.{HasRead}
use Rattle.line_commands.specs.declared.port.Port.{Ghosts as Port}
use Rattle.live_commands.specs.declared.live_box.TheConstants.{MAX_LIVE_TICKS}
use Rattle.live_line.specs.BothWays.{lines_in}
use Rattle.live_line.specs.WayText.{HasParted, text_on}
use Rattle.live_line.specs.declared.way_box.WayBox.{Ghosts as WayBox}
use Rattle.live_line.specs.declared.ways.Way.{Way}
use Rattle.live_ways.proofs.BothTaken.{stream_begins, stands_heard, no_true, IsOfStream}
use Rattle.live_ways.proofs.BytesTaken.{goes_then}
use Rattle.live_ways.specs.Ends.{end_in, is_stopped_end, is_read_end}
use Rattle.live_ways.specs.LiveLine.{LineAt, HeardAt, HandedAt, HaltsAt, LineGoes}
use Rattle.live_ways.specs.LiveLine.{TakesBytes, EndsInBytes, BytesAnswer, HandsBoth, HandsBehind}
use Rattle.live_ways.specs.LiveLine.{TakesPiece, EndsPiece, PieceAnswer}
use Rattle.live_ways.specs.LiveLine.{after_handing, IsReadyLine, IsAbleLine}
use Rattle.live_ways.specs.WayEnds.{EndsBehind}
use Rattle.live_ways.specs.declared.way_end.WayEnd.{WayEnd}
use Rattle.live_ways.specs.declared.way_end.WayEnd.TheVariants.{Whole, Refused, NoWay, TooLong}
use Rattle.live_ways.specs.declared.way_end.WayEnd.TheVariants.{TooManyBytes, ReadFault, Stopped}
use Rattle.std.proofs.Common.{◌≡◌, ◌∙◌, ◌≤◌, ℕ, List, [], ◌++◌, Ok, Err, Result, true, false, refl}
use Rattle.std.proofs.Common.{sym}
use Rattle.std.proofs.Common.{subst, inl, inr, append-nil}
use Rattle.tick_drive.specs.declared.consumer.Stop.{Stop}
use Rattle.tick_drive.specs.declared.end.TooMuch.TheVariants.{Ticks, Bytes}
use Rattle.yasir_io.specs.declared.disk.SlotDisk.{Ghosts as SlotDisk}
use Rattle.yasir_ticks.specs.declared.tick.Tick.{Tick}

-- ---- ends

pub of_stream : (end : WayEnd) → is_stopped_end end ≡ false → is_read_end end ≡ false
    → IsOfStream end
of_stream Whole calm read = record { no_disk = λ way. refl; no_read = refl; no_write = refl }
of_stream (Refused way bad) calm read =
    record { no_disk = λ way. refl; no_read = refl; no_write = refl }
of_stream (NoWay line) calm read = record { no_disk = λ way. refl; no_read = refl; no_write = refl }
of_stream (TooLong way what count) calm read =
    record { no_disk = λ way. refl; no_read = refl; no_write = refl }
of_stream (TooManyBytes count) calm read =
    record { no_disk = λ way. refl; no_read = refl; no_write = refl }
of_stream ReadFault calm read = cc
of_stream (Stopped way stop) calm read = cc

-- Unless a way was stopped, the lines that ended before were heard.
pub heard_of : (Heard : (Way → List Tick) → Type 0)
    (Halts : Way → Stop → (Way → List Tick) → Type 0) (end : WayEnd) (front later : List ℕ)
    → is_stopped_end end ≡ false → EndsBehind Heard Halts end front later → Heard (lines_in front)
heard_of Heard Halts (Refused way bad) front later calm ends = ends.heard
heard_of Heard Halts (NoWay line) front later calm ends = ends.heard
heard_of Heard Halts (TooLong way Ticks count) front later calm ends = ends.heard
heard_of Heard Halts (TooLong way Bytes count) front later calm ends = ends.heard
heard_of Heard Halts (TooManyBytes count) front later calm ends = ends.heard
heard_of Heard Halts (Stopped way stop) front later calm ends = cc
heard_of Heard Halts Whole front later calm ends = absurd ends
heard_of Heard Halts ReadFault front later calm ends = absurd ends

-- Unless a way was stopped, an end says the same of whatever follows from what was heard.
pub behind_by : (Heard Then : (Way → List Tick) → Type 0)
    (Halts Stops : Way → Stop → (Way → List Tick) → Type 0) (end : WayEnd) (front later : List ℕ)
    → is_stopped_end end ≡ false → ((lines : Way → List Tick) → Heard lines → Then lines)
    → EndsBehind Heard Halts end front later → EndsBehind Then Stops end front later
behind_by Heard Then Halts Stops (Refused way bad) front later calm then ends = record {
  byte = ends.byte;
  rest = ends.rest;
  is = ends.is;
  own = ends.own;
  refused = ends.refused;
  line = ends.line;
  why = ends.why;
  heard = then (lines_in front) ends.heard;
}
behind_by Heard Then Halts Stops (NoWay line) front later calm then ends = record {
  byte = ends.byte;
  rest = ends.rest;
  is = ends.is;
  begins = ends.begins;
  is_no_letter = ends.is_no_letter;
  line_is = ends.line_is;
  heard = then (lines_in front) ends.heard;
}
behind_by Heard Then Halts Stops (TooLong way Ticks count) front later calm then ends = record {
  byte = ends.byte;
  rest = ends.rest;
  is = ends.is;
  sum = ends.sum;
  above = ends.above;
  heard = then (lines_in front) ends.heard;
}
behind_by Heard Then Halts Stops (TooLong way Bytes count) front later calm then ends = record {
  above = ends.above;
  none = ends.none;
  heard = then (lines_in front) ends.heard;
}
behind_by Heard Then Halts Stops (TooManyBytes count) front later calm then ends = record {
  above = ends.above;
  sum = ends.sum;
  heard = then (lines_in front) ends.heard;
}
behind_by Heard Then Halts Stops (Stopped way stop) front later calm then ends = cc
behind_by Heard Then Halts Stops Whole front later calm then ends = absurd ends
behind_by Heard Then Halts Stops ReadFault front later calm then ends = absurd ends

-- If a way was stopped, it makes no difference what was heard.
stopped_as : (Heard Then : (Way → List Tick) → Type 0)
    (Halts : Way → Stop → (Way → List Tick) → Type 0) (end : WayEnd) (front later : List ℕ)
    → is_stopped_end end ≡ true → EndsBehind Heard Halts end front later
    → EndsBehind Then Halts end front later
stopped_as Heard Then Halts (Stopped way stop) front later is ends = ends
stopped_as Heard Then Halts Whole front later is ends = cc
stopped_as Heard Then Halts (Refused way bad) front later is ends = cc
stopped_as Heard Then Halts (NoWay line) front later is ends = cc
stopped_as Heard Then Halts (TooLong way what count) front later is ends = cc
stopped_as Heard Then Halts (TooManyBytes count) front later is ends = cc
stopped_as Heard Then Halts ReadFault front later is ends = cc

-- ---- what calls leave

module _ {X Y P D : Type 0} (x : WayBox X) (y : WayBox Y) (p : Port P) (d : SlotDisk D) where
  -- An end that only the stream has caused is no fault.
  pub goes_calm : (a b : LineAt X Y P D) (end other : WayEnd) → IsOfStream end → IsOfStream other
      → LineGoes x y p d a b end → LineGoes x y p d a b other
  goes_calm a b end other calm same goes = record {
    images = goes.images;
    disks = λ way. record {
      never_falls = (goes.disks way).never_falls;
      failed = λ e. absurd (no_true (same.no_disk way) e);
      same = λ e. (goes.disks way).same (calm.no_disk way);
    };
    reads = record {
      never_falls = goes.reads.never_falls;
      failed = λ e. absurd (no_true same.no_read e);
      same = λ e. goes.reads.same calm.no_read;
    };
    same = λ e. goes.same calm.no_write;
    failed = λ e. absurd (no_true same.no_write e);
  }

  -- what waited was handed on: both ways may take more, as before
  pub ready_after : (a b : LineAt X Y P D) → IsReadyLine x y p d a
      → HandsBoth x y p d a b (Ok tt) → IsReadyLine x y p d b
  ready_after a b ready hands way = record {
    able = hands.able way;
    counted = hands.counted way ∙ ((ready way).counted ∙ sym (hands.ticks way));
    few = subst (λ n. n ≤ MAX_LIVE_TICKS) (sym (hands.ticks way)) (ready way).few;
  }

  module _ (old mid new : LineAt X Y P D) (bytes : List ℕ) where
    takes_piece : TakesBytes x y p d old mid bytes → HandsBoth x y p d mid new (Ok tt)
        → TakesPiece x y p d old new bytes
    takes_piece took hands = record {
      ready = ready_after mid new took.ready hands;
      goes = goes_then x y p d old mid new Whole took.goes hands.goes;
      left = hands.left ∙ took.left;
      takes = λ origin stream was.
          let now = took.takes origin stream was in
          let on = hands.handed origin (lines_in (stream ++ bytes))
          (stands_heard x y p d mid origin (stream ++ bytes) now) in
          record {
            stands = record {
              parted = subst (λ ways. HasParted ways (stream ++ bytes)) (sym hands.parted)
                  now.parted;
              early = on.heard.early;
              handed = on.heard.handed;
              reads = λ way. record {
                has_read = subst (λ r. HasRead r (text_on way (stream ++ bytes)))
                    (sym (hands.same way)) (now.reads way).has_read;
                taken = on.heard.taken way;
                count = hands.ticks way ∙ (now.reads way).count;
              };
            };
            all = on.all;
          };
    }

    piece_stopped : (end : WayEnd) → TakesBytes x y p d old mid bytes
        → HandsBoth x y p d mid new (Err end) → EndsPiece x y p d old new end bytes
    piece_stopped end took hands =
        let at = hands.stopped in
        let stop : end ≡ Stopped at.0 at.1.0 = at.1.1.0 in
        subst (λ end. EndsPiece x y p d old new end bytes) (sym stop) (record {
          goes = goes_then x y p d old mid new (Stopped at.0 at.1.0) took.goes
              (subst (LineGoes x y p d mid new) stop hands.goes);
          left = hands.left ∙ took.left;
          no_read = refl;
          ready = λ e. cc;
          ends = λ origin stream was.
              let now = took.takes origin stream was in
              record {
                front = stream ++ bytes;
                later = [];
                is = sym (append-nil (stream ++ bytes));
                begins = stream_begins x y p d mid origin (stream ++ bytes) now;
                ends = at.1.1.1 origin (lines_in (stream ++ bytes))
                    (stands_heard x y p d mid origin (stream ++ bytes) now);
              };
        })

    ends_piece : (end : WayEnd) → is_stopped_end end ≡ false
        → EndsInBytes x y p d old mid end bytes → HandsBoth x y p d mid new (Ok tt)
        → EndsPiece x y p d old new end bytes
    ends_piece end calm ended hands =
        let of = of_stream end calm ended.no_read in
        let whole : IsOfStream Whole = of_stream Whole refl refl in
        record {
          goes = goes_calm old new Whole end whole of (goes_then x y p d old mid new Whole
              (goes_calm old mid end Whole of whole ended.goes) hands.goes);
          left = hands.left ∙ ended.left;
          no_read = ended.no_read;
          ready = λ e. ready_after mid new (ended.ready calm) hands;
          ends = λ origin stream was.
              let at = ended.ends origin stream was in
              record {
                front = at.front;
                later = at.later;
                is = at.is;
                begins = at.begins;
                ends = behind_by (HeardAt x y p d mid origin) (HandedAt x y p d new origin)
                    (HaltsAt x y p d mid origin) (HaltsAt x y p d new origin) end at.front at.later
                    calm (hands.handed origin) at.ends;
              };
        }

    ends_stopped : (end stop : WayEnd) → is_stopped_end end ≡ false
        → EndsInBytes x y p d old mid end bytes → HandsBoth x y p d mid new (Err stop)
        → EndsPiece x y p d old new stop bytes
    ends_stopped end stop calm ended hands =
        let of = of_stream end calm ended.no_read in
        let at = hands.stopped in
        let is : stop ≡ Stopped at.0 at.1.0 = at.1.1.0 in
        subst (λ stop. EndsPiece x y p d old new stop bytes) (sym is) (record {
          goes = goes_then x y p d old mid new (Stopped at.0 at.1.0)
              (goes_calm old mid end Whole of (of_stream Whole refl refl) ended.goes)
              (subst (LineGoes x y p d mid new) is hands.goes);
          left = hands.left ∙ ended.left;
          no_read = refl;
          ready = λ e. cc;
          ends = λ origin stream was.
              let end_at = ended.ends origin stream was in
              record {
                front = end_at.front;
                later = end_at.later;
                is = end_at.is;
                begins = end_at.begins;
                ends = at.1.1.1 origin (lines_in end_at.front)
                    (heard_of (HeardAt x y p d mid origin) (HaltsAt x y p d mid origin) end end_at.front
                    end_at.later calm end_at.ends);
              };
        })

    ended_before : (end : WayEnd) → is_stopped_end end ≡ true
        → EndsInBytes x y p d old mid end bytes → EndsPiece x y p d old mid end bytes
    ended_before end is ended = record {
      goes = ended.goes;
      left = ended.left;
      no_read = ended.no_read;
      ready = ended.ready;
      ends = λ origin stream was. let at = ended.ends origin stream was in record {
        front = at.front;
        later = at.later;
        is = at.is;
        begins = at.begins;
        ends = stopped_as (HeardAt x y p d mid origin) (HandedAt x y p d mid origin)
            (HaltsAt x y p d mid origin) end at.front at.later is at.ends;
      };
    }

    after_by : (ended answer result : Result (Unit {0}) WayEnd) → BytesAnswer x y p d old mid bytes ended
        → is_stopped_end (end_in ended) ≡ false → HandsBoth x y p d mid new answer
        → result ≡ after_handing ended answer → PieceAnswer x y p d old new bytes result
    after_by (Ok a) (Ok b) result took calm hands is =
        subst (PieceAnswer x y p d old new bytes) (sym is) (takes_piece took hands)
    after_by (Ok tt) (Err stop) result took calm hands is =
        subst (PieceAnswer x y p d old new bytes) (sym is) (piece_stopped stop took hands)
    after_by (Err end) (Ok tt) result ended calm hands is =
        subst (PieceAnswer x y p d old new bytes) (sym is) (ends_piece end calm ended hands)
    after_by (Err end) (Err stop) result ended calm hands is =
        subst (PieceAnswer x y p d old new bytes) (sym is) (ends_stopped end stop calm ended hands)

    before_by : (ended result : Result (Unit {0}) WayEnd) → BytesAnswer x y p d old mid bytes ended
        → is_stopped_end (end_in ended) ≡ true → new ≡ mid → result ≡ ended
        → PieceAnswer x y p d old new bytes result
    before_by (Ok tt) result took is same said = cc
    before_by (Err end) result ended is same said = subst (PieceAnswer x y p d old new bytes) (sym said)
        (subst (λ at. EndsPiece x y p d old at end bytes) (sym same) (ended_before end is ended))

    pub piece_answer : (ended result : Result (Unit {0}) WayEnd)
        → BytesAnswer x y p d old mid bytes ended → HandsBehind x y p d mid new ended result
        → PieceAnswer x y p d old new bytes result
    piece_answer ended result took (inl none) =
        before_by ended result took none.0 none.1 none.2
    piece_answer ended result took (inr after) =
        after_by ended after.answer result took after.goes_on after.hands after.is

    -- what waits may be handed on, unless a way was stopped
    pub ready_behind : (ended : Result (Unit {0}) WayEnd) → BytesAnswer x y p d old mid bytes ended
        → is_stopped_end (end_in ended) ≡ false → IsAbleLine x y p d mid
    ready_behind (Ok tt) took calm way = (took.ready way).able
    ready_behind (Err end) ended calm way = (ended.ready calm way).able
