-- What is left of a stream of both ways where the input ends: a last line, and silent ticks.
use Rattle.line_commands.specs.declared.port.Port.{Ghosts as Port}
use Rattle.live_line.specs.BothWays.{lines_in}
use Rattle.live_line.specs.WayText.{HasParted, AreLettered, IsLettered, PartsByte}
use Rattle.live_line.specs.declared.way_box.WayBox.{Ghosts as WayBox}
use Rattle.live_line.specs.declared.ways.Way.{Way}
use Rattle.live_line.specs.declared.ways.Ways.{Ways}
use Rattle.live_ways.proofs.BothTaken.{stream_begins, stands_heard, goes_same}
use Rattle.live_ways.proofs.BytesTaken.{goes_then}
use Rattle.live_ways.specs.Driving.{Closes, EndsClosing, CloseAnswer, TakesMore, TakesEnd}
use Rattle.live_ways.specs.Ends.{end_in}
use Rattle.live_ways.specs.LiveLine.{LineAt, LineStands, HeardAt, HaltsAt, LineGoes}
use Rattle.live_ways.specs.LiveLine.{BytesAnswer, IsReadyLine}
use Rattle.live_ways.specs.WayEnds.{EndsWithin, EndsAtLast, closed, ended_by}
use Rattle.live_ways.specs.declared.way_end.WayEnd.{WayEnd}
use Rattle.live_ways.specs.declared.way_end.WayEnd.TheVariants.{Whole, Refused, NoWay, TooLong}
use Rattle.live_ways.specs.declared.way_end.WayEnd.TheVariants.{TooManyBytes, ReadFault, Stopped}
use Rattle.std.proofs.Common.{◌≡◌, ◌∙◌, ℕ, List, [], ◌∷◌, ◌++◌, Ok, Err, Result, Option, Some, None}
use Rattle.std.proofs.Common.{refl}
use Rattle.std.proofs.Common.{ap, sym, subst, inl, inr}
use Rattle.tick_drive.specs.declared.consumer.Stop.{Stop}
use Rattle.yasir_io.specs.Disks.{Slots}
use Rattle.yasir_io.specs.declared.disk.SlotDisk.{Ghosts as SlotDisk}
use Rattle.yasir_ticks.proofs.Lines.{lines_of-lf}
use Rattle.yasir_ticks.specs.TickText.{lines_of}
use Rattle.yasir_ticks.specs.Ticks.{silent}
use Rattle.yasir_ticks.specs.declared.tick.Tick.{Tick}

-- ---- a last line that hasn't ended

no_letter : IsLettered [] → ⊥
no_letter is = cc

last_lettered : (lines : List (List ℕ)) (line : List ℕ) → AreLettered (lines ++ line ∷ [])
    → IsLettered line
last_lettered [] line are = are.0
last_lettered (l ∷ lines) line are = last_lettered lines line are.1

ended_open : (stream last : List ℕ) → IsLettered last → ended_by last stream ≡ stream ++ 10 ∷ []
ended_open stream [] is = absurd (no_letter is)
ended_open stream (c ∷ last) is = refl

-- If an LF may follow a stream, it ends the last line.
pub closed_open : (stream : List ℕ) → AreLettered (lines_of (stream ++ 10 ∷ [])).ended
    → closed stream ≡ stream ++ 10 ∷ []
closed_open stream are = ended_open stream (lines_of stream).last
    (last_lettered (lines_of stream).ended (lines_of stream).last
    (subst (λ lines. AreLettered lines.ended) (lines_of-lf stream) are))

-- If no line has begun, nothing has to be ended.
pub closed_none : (stream : List ℕ) → (lines_of stream).last ≡ [] → closed stream ≡ stream
closed_none stream is = ap (λ l. ended_by l stream) is

-- All lines of a closed stream have ended.
pub closed_ended : (stream : List ℕ) → (lines_of (closed stream)).last ≡ []
closed_ended stream = by (lines_of stream).last refl
  where
    by : (last : List ℕ) → (lines_of stream).last ≡ last
        → (lines_of (ended_by last stream)).last ≡ []
    by [] is = is
    by (c ∷ last) is = ap (λ lines. lines.last) (lines_of-lf stream)

-- An LF was read after a stream.
pub open_parts : (ways : Ways) (stream : List ℕ) (of : Option Way) → PartsByte ways stream 10 of
    → closed stream ≡ stream ++ 10 ∷ []
open_parts ways stream None parts = closed_open stream parts.parted.lettered
open_parts ways stream (Some way) parts = closed_open stream parts.parted.lettered

-- ---- what ends say where the input ends

pub last_within : (Heard : (Way → List Tick) → Type 0)
    (Halts : Way → Stop → (Way → List Tick) → Type 0) (rest : Way → ℕ) (end : WayEnd)
    (stream : List ℕ) → EndsWithin Heard Halts end stream
    → EndsAtLast Heard Halts rest end stream
last_within Heard Halts rest Whole stream within = absurd within.ends
last_within Heard Halts rest (Refused way bad) stream within = within
last_within Heard Halts rest (NoWay line) stream within = within
last_within Heard Halts rest (TooLong way what count) stream within = within
last_within Heard Halts rest (TooManyBytes count) stream within = within
last_within Heard Halts rest ReadFault stream within = within
last_within Heard Halts rest (Stopped way stop) stream within = inl within

module _ {X Y P D : Type 0} (x : WayBox X) (y : WayBox Y) (p : Port P) (d : SlotDisk D) where
  -- ---- the last line

  pub close_answer : (old new : LineAt X Y P D) (result : Result (Unit {0}) WayEnd)
      → ((stream : List ℕ) → HasParted old.line.ways stream → closed stream ≡ stream ++ 10 ∷ [])
      → BytesAnswer x y p d old new (10 ∷ []) result → CloseAnswer x y p d old new result
  close_answer old new (Ok tt) opens took = record {
    ready = took.ready;
    goes = took.goes;
    left = took.left;
    takes = λ origin stream stands. subst (LineStands x y p d new origin)
        (sym (opens stream stands.parted)) (took.takes origin stream stands);
  }
  close_answer old new (Err end) opens ended = record {
    goes = ended.goes;
    left = ended.left;
    no_read = ended.no_read;
    ready = ended.ready;
    ends = λ origin stream stands. subst (EndsWithin (HeardAt x y p d new origin)
        (HaltsAt x y p d new origin) end) (sym (opens stream stands.parted))
        (ended.ends origin stream stands);
  }

  pub close_none : ((disk : D) (c : Slots) → d.left_since disk (d.moment disk) c
      → d.may_leave disk c) → (at : LineAt X Y P D) → IsReadyLine x y p d at
      → ((stream : List ℕ) → HasParted at.line.ways stream → closed stream ≡ stream)
      → Closes x y p d at at
  close_none only_now at ready ended = record {
    ready = ready;
    goes = goes_same x y p d only_now at.line at.line at.port at.disks (λ way. refl) Whole
        (record { no_disk = λ way. refl; no_read = refl; no_write = refl });
    left = refl;
    takes = λ origin stream stands. subst (LineStands x y p d at origin)
        (sym (ended stream stands.parted)) stands;
  }

  -- ---- the last line and the silent ticks after it

  module _ (rest : Way → ℕ) (old mid new : LineAt X Y P D) where
    takes_end : Closes x y p d old mid
        → TakesMore x y p d (λ way. silent (rest way)) mid new (Ok tt)
        → TakesEnd x y p d rest (HeardAt x y p d new) old new Whole
    takes_end closes more = record {
      goes = goes_then x y p d old mid new Whole closes.goes more.goes;
      left = more.left ∙ closes.left;
      no_read = refl;
      able = λ e. more.able;
      ends = λ origin stream was. let stands = closes.takes origin stream was in record {
        right = record {
          ended = closed_ended stream;
          begins = stream_begins x y p d mid origin (closed stream) stands;
        };
        holds = more.taken origin (lines_in (closed stream))
            (stands_heard x y p d mid origin (closed stream) stands);
      };
    }

    stops_at_end : (end : WayEnd) → Closes x y p d old mid
        → TakesMore x y p d (λ way. silent (rest way)) mid new (Err end)
        → TakesEnd x y p d rest (HeardAt x y p d new) old new end
    stops_at_end end closes more =
        let at = more.stopped in
        let is : end ≡ Stopped at.0 at.1.0 = at.1.1.0 in
        subst (TakesEnd x y p d rest (HeardAt x y p d new) old new) (sym is) (record {
          goes = goes_then x y p d old mid new (Stopped at.0 at.1.0) closes.goes
              (subst (LineGoes x y p d mid new) is more.goes);
          left = more.left ∙ closes.left;
          no_read = refl;
          able = λ e. cc;
          ends = λ origin stream was. let stands = closes.takes origin stream was in inr (record {
            right = record {
              ended = closed_ended stream;
              begins = stream_begins x y p d mid origin (closed stream) stands;
            };
            holds = at.1.1.1 origin (lines_in (closed stream))
                (stands_heard x y p d mid origin (closed stream) stands);
          });
        })

    pub last_taken : (result : Result (Unit {0}) WayEnd) → Closes x y p d old mid
        → TakesMore x y p d (λ way. silent (rest way)) mid new result
        → TakesEnd x y p d rest (HeardAt x y p d new) old new (end_in result)
    last_taken (Ok tt) closes more = takes_end closes more
    last_taken (Err end) closes more = stops_at_end end closes more

    pub last_ended : (end : WayEnd) → EndsClosing x y p d old mid end
        → TakesEnd x y p d rest (HeardAt x y p d mid) old mid end
    last_ended end ends = record {
      goes = ends.goes;
      left = ends.left;
      no_read = ends.no_read;
      able = λ e way. (ends.ready e way).able;
      ends = λ origin stream stands. last_within (HeardAt x y p d mid origin)
          (HaltsAt x y p d mid origin) rest end (closed stream) (ends.ends origin stream stands);
    }
