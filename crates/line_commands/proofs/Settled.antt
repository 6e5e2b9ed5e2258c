-- The disk is settled, and then what waits is written: what that does to a box as a consumer.
use Rattle.line_commands.specs.BoxLines.{BoxOrigin, DrivesBox, State, StopsAtSettle}
use Rattle.line_commands.specs.BoxLines.{IsSettled, BoxLinesAreReady, outputs_of, state_of_lines}
use Rattle.line_commands.specs.BoxLines.{KeepsImages, BoxLinesGoOn, HandsOn, Finishes}
use Rattle.line_commands.specs.{LinkBoxed.boxed_of, Sending.made_by}
use Rattle.line_texts.proofs.Sending.{fronts_sent, sends_handed, sent_handed}
use Rattle.line_texts.specs.Sending.{SinkTexts, sink_texts, HaveCause, LineAndNotes, SendsTexts}
use Rattle.line_texts.specs.Sending as texts
use Rattle.line_texts.specs.{Texts.writing, Texts.HandsOut, Texts.waiting_in}
use Rattle.line_texts.specs.declared.texts.Texts.{Texts}
use Rattle.link_box.specs.declared.box_trait.LinkBox.{Ghosts as LinkBox}
use Rattle.sequence_journal.specs.Journal.{IsCrashSafe, HasFloorFrom}
use Rattle.sequence_journal.specs.Late.{disk_journal, disk_floor, late_link, late_number, Stands}
use Rattle.sequence_journal.specs.Late.{HasFloorBetween}
use Rattle.sequence_journal.specs.declared.{journal.JournalFault.JournalFault}
use Rattle.sequence_journal.specs.declared.{late.LateJournal.LateJournal, link.LinkId.LinkId}
use Rattle.std.proofs.Common.{◌≡◌, ◌∙◌, ℕ, ◌≤◌, List, [], Result, Ok, Err, IfSome}
use Rattle.std.proofs.Common.{refl, arith, append-nil}
use Rattle.tick_drive.proofs.Causes.{sinks_none}
use Rattle.tick_drive.specs.declared.consumer.Stop.{TheVariants.WriteFault}
use Rattle.tick_drive.specs.declared.consumer.Stop.TheVariants.{JournalFault as JournalStop}
use Rattle.yasir_io.proofs.FlushLaws.{none_flushed}
use Rattle.yasir_io.specs.Causes.{HasCause}
use Rattle.yasir_io.specs.Disks.{LeavesOnly}
use Rattle.yasir_io.specs.Flushed.{NoneFlushed}
use Rattle.yasir_io.specs.declared.{Failed.Failed, disk.SlotDisk.Ghosts as SlotDisk}
use Rattle.yasir_io.specs.declared.sink.Sink.{Ghosts as Sink}
use Rattle.yasir_ticks.specs.Ticks.{Item, ticks_in}
use Rattle.yasir_ticks.specs.declared.tick.Tick.{Tick}

-- A box was settled, which may have failed: `late` and `disk` are what there was then.
module _ {B N O L D : Type 0} (b : LinkBox B N) (line_of : N → List ℕ) (o : Sink O) (l : Sink L)
    (d : SlotDisk D) (old : State B O L D) (ready : BoxLinesAreReady b line_of old.lines)
    (late : LateJournal) (disk : D)
    (link : late_link late ≡ late_link old.lines.late)
    (not_below : disk_floor old.lines.late ≤ disk_floor late)
    (is_kept : IsCrashSafe (disk_journal old.lines.late) (d.told old.disk) (d.may_leave old.disk)
    → IsCrashSafe (disk_journal late) (d.told disk) (d.may_leave disk))
    (any_moment : IsCrashSafe (disk_journal old.lines.late) (d.told old.disk)
    (d.may_leave old.disk)
    → LeavesOnly d.moment d.left_since old.disk disk (HasFloorFrom (disk_journal old.lines.late)))
  where
    -- what there was when these texts waited, and the sinks were these
    abbrev at : Texts → O → L → State B O L D
    at texts out log =
        state_of_lines (record old.lines { late = late; texts = texts }) out log disk

    abbrev Stood : BoxOrigin → List Item → Type 0
    Stood origin items = DrivesBox b line_of old.lines origin (outputs_of o l d old) items

    images : (texts : Texts) (out : O) (log : L) → KeepsImages o l d old (at texts out log)
    images texts out log = record {
      link = link;
      rises = not_below;
      is_kept = is_kept;
      any_moment = any_moment;
    }

    -- the last number used, by the ticks taken
    number_is : (origin : BoxOrigin) (items : List Item) → Stood origin items
        → late_number old.lines.late
        ≡ (boxed_of b.walking line_of origin.setup).number (ticks_in items)
    number_is origin items stood = ready.level ∙ stood.took.stood.number_is

    -- ---- the settle failed

    module _ (fault : JournalFault)
        (failed : IfSome (d.told disk) (HasFloorBetween (late_link old.lines.late)
        (disk_floor old.lines.late) (late_number old.lines.late)))
        (cause : HasCause {T = Unit {0}} (d.faults old.disk) (d.faults disk) (Err fault)) where
      abbrev Between : LinkId → ℕ → ℕ → Type 0
      Between link low high = IfSome (d.told disk) (HasFloorBetween link low high)

      stopped : (origin : BoxOrigin) (items : List Item) → Stood origin items
          → StopsAtSettle b line_of (at old.lines.texts old.out old.log).lines origin
          (outputs_of o l d (at old.lines.texts old.out old.log)) items
      stopped origin items stood = record {
        early = stood.handed.early;
        later = stood.handed.later;
        is = stood.handed.is;
        sent = stood.handed.sent;
        link_is = link ∙ stood.link_is;
        not_below = omega (arith, not_below, stood.handed.settled);
        floor_told = rw (← stood.link_is, ← stood.handed.settled, ← number_is origin items stood)
            failed;
      }

      went_stopped : BoxLinesGoOn o l d old (at old.lines.texts old.out old.log) (Err JournalStop)
      went_stopped = record {
        images = images old.lines.texts old.out old.log;
        disk = record {
          never_falls = cause.never_falls;
          failed = λ _. cause.failed;
          same = λ e. cc;
        };
        sinks = sinks_none (o.faults old.out) (l.faults old.log);
        flushes = none_flushed o l old.out old.log;
      }

      pub settle_stops : HandsOn b line_of o l d old (at old.lines.texts old.out old.log)
          (Err JournalStop)
      settle_stops = record {
        drives = tt;
        stopped = stopped;
        able = tt;
        taken = refl;
        went = went_stopped;
      }

      pub last_settle_stops : Finishes b line_of o l d old old.out old.log disk (Err JournalStop)
      last_settle_stops = record {
        last = (at old.lines.texts old.out old.log).lines;
        finished = tt;
        stopped = stopped;
        went = went_stopped;
      }

    -- ---- the disk was settled

    module _ (settled : disk_floor late ≡ late_number old.lines.late)
        (number : late_number late ≡ late_number old.lines.late)
        (stands : Stands late (d.told disk))
        (cause : HasCause {T = Unit {0}} {E = JournalFault} (d.faults old.disk) (d.faults disk)
        (Ok tt)) where
      is_settled : (texts : Texts) (origin : BoxOrigin) (items : List Item) → Stood origin items
          → IsSettled b line_of (record old.lines { late = late; texts = texts }) origin
          (d.told disk) (ticks_in items)
      is_settled texts origin items stood =
          let is = settled ∙ number_is origin items stood in record {
            link_is = link ∙ stood.link_is;
            floor = is;
            floor_told = rw (← link ∙ stood.link_is, ← is) stands.fits.floor;
          }

      went_on : (texts : Texts) (out : O) (log : L)
          → HaveCause {T = Unit {0}} {E = Failed} (o.faults old.out) (o.faults out)
          (l.faults old.log) (l.faults log) (Ok tt)
          → NoneFlushed o l old.out out old.log log
          → BoxLinesGoOn o l d old (at texts out log) (Ok tt)
      went_on texts out log sinks flushes = record {
        images = images texts out log;
        disk = record {
          never_falls = cause.never_falls;
          failed = λ e. cc;
          same = λ _. cause.same;
        };
        sinks = record {
          out_never_falls = sinks.out_never_falls;
          log_never_falls = sinks.log_never_falls;
          failed = λ e. cc;
          out_same = λ _. sinks.out_same;
          log_same = λ _. sinks.log_same;
        };
        flushes = flushes;
      }

      write_stopped : (texts : Texts) (out : O) (log : L) (e : Failed)
          → HaveCause {T = Unit {0}} (o.faults old.out) (o.faults out)
          (l.faults old.log) (l.faults log) (Err e)
          → NoneFlushed o l old.out out old.log log
          → BoxLinesGoOn o l d old (at texts out log) (Err WriteFault)
      write_stopped texts out log e sinks flushes = record {
        images = images texts out log;
        disk = record {
          never_falls = cause.never_falls;
          failed = λ e. cc;
          same = λ _. cause.same;
        };
        sinks = record {
          out_never_falls = sinks.out_never_falls;
          log_never_falls = sinks.log_never_falls;
          failed = λ _. sinks.failed;
          out_same = λ e. cc;
          log_same = λ e. cc;
        };
        flushes = flushes;
      }

      -- ---- the notes and the lines that waited were written

      module _ (texts : Texts) (out : O) (log : L) where
        abbrev Wrote : Result (Unit {0}) Failed → Type 0
        Wrote result = HandsOut o l (writing old.lines.texts old.out old.log)
            (writing texts out log) result

        pub hand_out_went : Wrote (Ok tt) → HandsOn b line_of o l d old (at texts out log) (Ok tt)
        hand_out_went hands = record {
          drives = λ origin items stood.
              let made = made_by (boxed_of b.walking line_of origin.setup) in
              let sends = sends_handed o l made (ticks_in items)
              (writing old.lines.texts old.out old.log) (writing texts out log) origin.texts
              stood.took.sends hands in
              record {
                took = record {
                  stood = record {
                    steps = stood.took.stood.steps;
                    number_is = stood.took.stood.number_is;
                  };
                  sends = sends;
                };
                link_is = link ∙ stood.link_is;
                handed = record {
                  early = ticks_in items;
                  later = [];
                  is = append-nil (ticks_in items);
                  sent = fronts_sent made (waiting_in texts) origin.texts
                      (sink_texts (o.held out) (l.held log)) (ticks_in items) sends;
                  settled = settled ∙ number_is origin items stood;
                };
              };
          stopped = tt;
          able = record {
            ready = record {
              serves = ready.serves;
              link_is = link ∙ ready.link_is;
              level = number ∙ ready.level;
              rising = stands.rising;
            };
            room = hands.room;
            fits = stands.fits;
          };
          taken = refl;
          went = went_on texts out log hands.writes.cause hands.writes.flushes;
        }

        pub hand_out_stops : (e : Failed) → Wrote (Err e)
            → HandsOn b line_of o l d old (at texts out log) (Err WriteFault)
        hand_out_stops e hands = record {
          drives = tt;
          stopped = λ origin items stood. record {
            sent = sent_handed o l (made_by (boxed_of b.walking line_of origin.setup))
                (ticks_in items) (writing old.lines.texts old.out old.log) (writing texts out log)
                origin.texts stood.took.sends e hands;
            settled = is_settled texts origin items stood;
          };
          able = tt;
          taken = refl;
          went = write_stopped texts out log e hands.writes.cause hands.writes.flushes;
        }

      -- ---- all that waited was written, with the last line

      module _ (out : O) (log : L) (flushes : NoneFlushed o l old.out out old.log log) where
        abbrev last : State B O L D
        last = at old.lines.texts out log

        abbrev Held : SinkTexts
        Held = sink_texts (o.held old.out) (l.held old.log)

        abbrev Got : SinkTexts
        Got = sink_texts (o.held out) (l.held log)

        pub finish_went : ((made : LineAndNotes) (before : SinkTexts) (line : List Tick)
            → SendsTexts made (waiting_in old.lines.texts) before Held line
            → texts.TextsHaveSent made before Got line)
            → HaveCause {T = Unit {0}} {E = Failed} (o.faults old.out) (o.faults out)
            (l.faults old.log) (l.faults log) (Ok tt)
            → Finishes b line_of o l d old out log disk (Ok tt)
        finish_went finish sinks = record {
          last = last.lines;
          finished = λ origin items stood. record {
            sent = finish (made_by (boxed_of b.walking line_of origin.setup)) origin.texts
                (ticks_in items) stood.took.sends;
            settled = is_settled old.lines.texts origin items stood;
          };
          stopped = tt;
          went = went_on old.lines.texts out log sinks flushes;
        }

        pub finish_stops : (e : Failed)
            → ((made : LineAndNotes) (before : SinkTexts) (line : List Tick)
            → SendsTexts made (waiting_in old.lines.texts) before Held line
            → texts.HasSentFronts made before Got line)
            → HaveCause {T = Unit {0}} (o.faults old.out) (o.faults out)
            (l.faults old.log) (l.faults log) (Err e)
            → Finishes b line_of o l d old out log disk (Err WriteFault)
        finish_stops e finish sinks = record {
          last = last.lines;
          finished = tt;
          stopped = λ origin items stood. record {
            sent = finish (made_by (boxed_of b.walking line_of origin.setup)) origin.texts
                (ticks_in items) stood.took.sends;
            settled = is_settled old.lines.texts origin items stood;
          };
          went = write_stopped old.lines.texts out log e sinks flushes;
        }
