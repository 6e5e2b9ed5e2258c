-- What holds after calls if what waited was handed on behind them.
use Rattle.line_commands.specs.ReplaysBox.{has_stopped}
use Rattle.live_commands.specs.AheadLines.{MayDrive}
use Rattle.link_box.specs.declared.box_trait.LinkBox.{Ghosts as LinkBox}
use Rattle.live_commands.proofs.Heard.{goes_given, goes_stopped, goes_then}
use Rattle.live_commands.proofs.TextEndsLaws.{no_true, within_by, last_by, within_stopped, last_stopped}
use Rattle.live_commands.specs.Filtering.{LiveOrigin, HandsOn}
use Rattle.live_commands.specs.LiveLine.{Live, outside_of, IsReady, LiveGoes, HeardAt}
use Rattle.live_commands.specs.LiveLine.{HaltsAt, TakesBytes, EndsInBytes}
use Rattle.live_commands.specs.LiveLine.{LinesAnswer, PieceAnswer, HandsBehind, TakesLast}
use Rattle.live_commands.specs.LiveLine.{TakeLastAnswer, Finishes, FinishAnswer, has_stopped_in}
use Rattle.live_commands.specs.LiveLine.{after_handing}
use Rattle.line_commands.proofs.Reading.{read_begins}
use Rattle.line_commands.specs.declared.{lines.LineReader.LineReader, port.Port.Ghosts as Port}
use Rattle.std.proofs.Common.{◌≡◌, ◌∙◌, ℕ, List, [], ◌++◌, Result, Ok, Err, true, false, refl}
use Rattle.std.proofs.Common.{sym, ap, subst, inl, inr, append-nil}
use Rattle.tick_drive.specs.{Input.is_read_fault, declared.consumer.Stop.Stop}
use Rattle.tick_drive.specs.declared.{end.End.End, end.End.TheVariants.Whole}
use Rattle.tick_drive.specs.declared.end.End.TheVariants.{Refused, TooLong, ReadFault, Stopped}
use Rattle.yasir_io.specs.declared.disk.SlotDisk.{Ghosts as SlotDisk}
use Rattle.yasir_ticks.specs.{TickText.ended_items, Ticks.ticks_in, declared.tick.Tick.Tick}

module _ {B P D : Type 0} (p : Port P) (d : SlotDisk D) where
  -- Calls that didn't end at a fault leave the counts of faults as calls do that don't end.
  pub goes_whole : (old new : Live B P D) (end : End) → has_stopped end ≡ false
      → is_read_fault end ≡ false → LiveGoes p d old new end → LiveGoes p d old new Whole
  goes_whole old new Whole goes_on no_read goes = goes
  goes_whole old new ReadFault goes_on no_read goes = absurd (no_true no_read)
  goes_whole old new (Stopped stop) goes_on no_read goes = absurd (no_true goes_on)
  goes_whole old new end goes_on no_read goes = record {
    images = goes.images;
    disk = goes.disk;
    reads = goes.reads;
    outputs = goes.outputs;
  }

  goes_as : (old new : Live B P D) (end : End) → has_stopped end ≡ false
      → is_read_fault end ≡ false → LiveGoes p d old new Whole → LiveGoes p d old new end
  goes_as old new Whole goes_on no_read goes = goes
  goes_as old new ReadFault goes_on no_read goes = absurd (no_true no_read)
  goes_as old new (Stopped stop) goes_on no_read goes = absurd (no_true goes_on)
  goes_as old new end goes_on no_read goes = record {
    images = goes.images;
    disk = goes.disk;
    reads = goes.reads;
    outputs = goes.outputs;
  }

  -- If no calls ended in a fault, more calls that handed on what waits end as these did.
  goes_handed : (old mid new : Live B P D) (end : End) → has_stopped end ≡ false
      → is_read_fault end ≡ false → LiveGoes p d old mid end → LiveGoes p d mid new Whole
      → LiveGoes p d old new end
  goes_handed old mid new end goes_on no_read first then = goes_as old new end goes_on no_read
      (goes_then p d old mid new Whole (goes_whole old mid end goes_on no_read first) then)

module _ {B N P D : Type 0} (b : LinkBox B N) (line_of : N → List ℕ) (p : Port P) (d : SlotDisk D)
    (old mid : Live B P D) where
  abbrev MayGoOn : Result (Unit {0}) End → Type 0
  MayGoOn ended = has_stopped_in ended ≡ false
      → MayDrive b line_of mid.live_box.lines (d.told mid.disk)

  -- If calls didn't stop the box, it may go on.
  pub may_of_lines : (lines0 lines1 : LineReader) (bytes : List ℕ) (ended : Result (Unit {0}) End)
      → LinesAnswer b line_of p d lines0 lines1 old mid bytes ended → MayGoOn ended
  may_of_lines lines0 lines1 bytes (Ok x) takes = λ e. takes.ready.able
  may_of_lines lines0 lines1 bytes (Err end) ends = ends.able

  pub may_of_last : (lines : LineReader) (rest : ℕ) (ended : Result (Unit {0}) End)
      → TakeLastAnswer b line_of p d lines rest old mid ended → MayGoOn ended
  may_of_last lines rest (Ok x) last = last.able
  may_of_last lines rest (Err end) last = last.able

module _ {B N P D : Type 0} (b : LinkBox B N) (line_of : N → List ℕ) (p : Port P) (d : SlotDisk D)
    (old mid new : Live B P D) where
  abbrev Hands : Result (Unit {0}) Stop → Type 0
  Hands answer = HandsOn b line_of p d (outside_of mid) (outside_of new) answer

  -- What the box had taken it still has taken.
  heard_on : Hands (Ok tt) → (origin : LiveOrigin) (line : List Tick)
      → HeardAt b line_of p d mid origin line → HeardAt b line_of p d new origin line
  heard_on hands origin line heard = record {
    items = heard.items;
    are = heard.are;
    filters = hands.filters origin heard.items heard.filters;
  }

  -- The box was stopped behind what it had taken.
  heard_stops : (stop : Stop) → Hands (Err stop) → (origin : LiveOrigin) (line more : List Tick)
      → HeardAt b line_of p d mid origin line → HaltsAt b line_of p d new origin stop (line ++ more)
  heard_stops stop hands origin line more heard = record {
    items = heard.items;
    more = more;
    are = ap (λ l. l ++ more) heard.are;
    stops = hands.stopped origin heard.items heard.filters;
  }

  ready_on : new.live_box.ticks ≡ mid.live_box.ticks → Hands (Ok tt)
      → IsReady b line_of d mid.live_box mid.disk → IsReady b line_of d new.live_box new.disk
  ready_on ticks hands ready = record {
    counted = hands.taken ∙ (ready.counted ∙ sym ticks);
    few = rw ticks ready.few;
    able = hands.able;
  }

  -- ---- a piece

  module _ (lines0 lines1 : LineReader) (bytes : List ℕ) where
    taken_handed : TakesBytes b line_of p d lines0 lines1 old mid bytes
        → new.live_box.ticks ≡ mid.live_box.ticks → (answer : Result (Unit {0}) Stop) → Hands answer
        → PieceAnswer b line_of p d lines0 lines1 old new bytes (after_handing (Ok tt) answer)
    taken_handed takes ticks (Ok x) hands = record {
      takes = record {
        ready = ready_on ticks hands takes.ready;
        goes = goes_then p d old mid new Whole takes.goes (goes_given p d mid new hands.went);
        left = hands.went.port.left_same ∙ takes.left;
        takes = λ origin text has.
            let took = takes.takes origin text has in
            record {
              has_read = took.has_read;
              heard = heard_on hands origin _ took.heard;
              count = ticks ∙ took.count;
            };
      };
      clear = hands.clear;
    }
    taken_handed takes ticks (Err stop) hands = record {
      ends = record {
        goes = goes_then p d old mid new (Stopped stop) takes.goes
            (goes_stopped p d mid new stop hands.went);
        left = hands.went.port.left_same ∙ takes.left;
        no_read = refl;
        able = λ e. cc;
        ends = λ origin text has.
            let took = takes.takes origin text has in
            record {
              front = text ++ bytes;
              later = [];
              is = sym (append-nil (text ++ bytes));
              begins = read_begins lines1 (text ++ bytes) took.has_read;
              ends = subst (HaltsAt b line_of p d new origin stop)
                  (append-nil (ticks_in (ended_items (text ++ bytes))))
                  (heard_stops stop hands origin _ [] took.heard);
            };
      };
      clear = λ e. cc;
    }

    ended_handed : (end : End) → has_stopped end ≡ false
        → EndsInBytes b line_of p d lines0 old mid end bytes
        → new.live_box.ticks ≡ mid.live_box.ticks → (answer : Result (Unit {0}) Stop) → Hands answer
        → PieceAnswer b line_of p d lines0 lines1 old new bytes (after_handing (Err end) answer)
    ended_handed end goes_on ended ticks (Ok x) hands = record {
      ends = record {
        goes = goes_handed p d old mid new end goes_on ended.no_read ended.goes
            (goes_given p d mid new hands.went);
        left = hands.went.port.left_same ∙ ended.left;
        no_read = ended.no_read;
        able = λ e. hands.able;
        ends = λ origin text has. within_by (HeardAt b line_of p d mid origin)
            (HeardAt b line_of p d new origin) (HaltsAt b line_of p d mid origin)
            (HaltsAt b line_of p d new origin) end (λ e. heard_on hands origin)
            (λ e. absurd (no_true (sym e ∙ goes_on))) (text ++ bytes) (ended.ends origin text has);
      };
      clear = λ e. hands.clear;
    }
    ended_handed end goes_on ended ticks (Err stop) hands = record {
      ends = record {
        goes = goes_then p d old mid new (Stopped stop)
            (goes_whole p d old mid end goes_on ended.no_read ended.goes)
            (goes_stopped p d mid new stop hands.went);
        left = hands.went.port.left_same ∙ ended.left;
        no_read = refl;
        able = λ e. cc;
        ends = λ origin text has. within_stopped (HeardAt b line_of p d mid origin)
            (HeardAt b line_of p d new origin) (HaltsAt b line_of p d mid origin)
            (HaltsAt b line_of p d new origin) stop (heard_stops stop hands origin) end goes_on
            (text ++ bytes) (ended.ends origin text has);
      };
      clear = λ e. cc;
    }

    pub piece_behind : (ended result : Result (Unit {0}) End)
        → LinesAnswer b line_of p d lines0 lines1 old mid bytes ended
        → HandsBehind b line_of p d mid new ended result
        → PieceAnswer b line_of p d lines0 lines1 old new bytes result
    piece_behind (Ok x) result takes (inl none) = absurd (no_true (sym none.0))
    piece_behind (Err end) result ended (inl none) =
        subst (PieceAnswer b line_of p d lines0 lines1 old new bytes) (sym none.2)
        (record {
          ends = subst (λ at. EndsInBytes b line_of p d lines0 old at end bytes) (sym none.1) ended;
          clear = λ e. absurd (no_true (sym none.0 ∙ e));
        })
    piece_behind (Ok x) result takes (inr after) =
        subst (PieceAnswer b line_of p d lines0 lines1 old new bytes) (sym after.is)
        (taken_handed takes after.ticks after.answer after.hands)
    piece_behind (Err end) result ended (inr after) =
        subst (PieceAnswer b line_of p d lines0 lines1 old new bytes) (sym after.is)
        (ended_handed end after.goes_on ended after.ticks after.answer after.hands)

  -- ---- the last line, and the silence after it

  module _ (lines : LineReader) (rest : ℕ) where
    last_handed : (end : End) → has_stopped end ≡ false → TakesLast b line_of p d lines rest old mid end
        → Hands (Ok tt) → Finishes b line_of p d lines rest old new end
    last_handed end goes_on last hands = record {
      goes = goes_handed p d old mid new end goes_on last.no_read last.goes
          (goes_given p d mid new hands.went);
      left = hands.went.port.left_same ∙ last.left;
      no_read = last.no_read;
      clear = λ e. hands.clear;
      ends = λ origin text has. inr (last_by (HeardAt b line_of p d mid origin)
          (HeardAt b line_of p d new origin) (HaltsAt b line_of p d mid origin)
          (HaltsAt b line_of p d new origin) rest end (λ e. heard_on hands origin)
          (λ e. absurd (no_true (sym e ∙ goes_on))) text (last.ends origin text has));
    }

    last_unhanded : (end : End) → has_stopped end ≡ false
        → TakesLast b line_of p d lines rest old mid end → (stop : Stop) → Hands (Err stop)
        → Finishes b line_of p d lines rest old new (Stopped stop)
    last_unhanded end goes_on last stop hands = record {
      goes = goes_then p d old mid new (Stopped stop)
          (goes_whole p d old mid end goes_on last.no_read last.goes)
          (goes_stopped p d mid new stop hands.went);
      left = hands.went.port.left_same ∙ last.left;
      no_read = refl;
      clear = λ e. cc;
      ends = λ origin text has. last_stopped (HeardAt b line_of p d mid origin)
          (HeardAt b line_of p d new origin) (HaltsAt b line_of p d mid origin)
          (HaltsAt b line_of p d new origin) stop (heard_stops stop hands origin) rest end goes_on
          text (last.ends origin text has);
    }

    last_stopped_before : (end : End) → has_stopped end ≡ true
        → TakesLast b line_of p d lines rest old mid end → new ≡ mid
        → Finishes b line_of p d lines rest old new end
    last_stopped_before end stopped last same =
        subst (λ at. Finishes b line_of p d lines rest old at end) (sym same) (record {
          goes = last.goes;
          left = last.left;
          no_read = last.no_read;
          clear = λ e. absurd (no_true (sym stopped ∙ e));
          ends = λ origin text has. inr (last.ends origin text has);
        })

    handed_last : (ended : Result (Unit {0}) End) → has_stopped_in ended ≡ false
        → TakeLastAnswer b line_of p d lines rest old mid ended
        → (answer : Result (Unit {0}) Stop) → Hands answer
        → FinishAnswer b line_of p d lines rest old new (after_handing ended answer)
    handed_last (Ok x) goes_on last (Ok y) hands = last_handed Whole refl last hands
    handed_last (Ok x) goes_on last (Err stop) hands = last_unhanded Whole refl last stop hands
    handed_last (Err end) goes_on last (Ok y) hands = last_handed end goes_on last hands
    handed_last (Err end) goes_on last (Err stop) hands = last_unhanded end goes_on last stop hands

    pub finish_behind : (ended result : Result (Unit {0}) End)
        → TakeLastAnswer b line_of p d lines rest old mid ended
        → HandsBehind b line_of p d mid new ended result
        → FinishAnswer b line_of p d lines rest old new result
    finish_behind (Ok x) result last (inl none) = absurd (no_true (sym none.0))
    finish_behind (Err end) result last (inl none) =
        subst (FinishAnswer b line_of p d lines rest old new) (sym none.2)
        (last_stopped_before end none.0 last none.1)
    finish_behind ended result last (inr after) =
        subst (FinishAnswer b line_of p d lines rest old new) (sym after.is)
        (handed_last ended after.goes_on last after.answer after.hands)
