-- What a box that takes ticks in memory, and then hands out what waits, does as a consumer.
use Rattle.line_commands.proofs.InMemory.{taken_on}
use Rattle.line_commands.proofs.RunsGiven.{ticks_more, first_given, last_stopped}
use Rattle.std.proofs.lemmas.List.{length-take-le}
use Rattle.line_commands.specs.BoxLines.{BoxOrigin, State, BoxLinesHaveTaken, DrivesBox, KeepsImages}
use Rattle.line_commands.specs.BoxLines.{TakesSome, HandsOn, BoxLinesGoOn, outputs_of, texts_in, driving}
use Rattle.line_commands.specs.BoxLinesLaws.{images_none, drives-then}
use Rattle.line_commands.specs.declared.box_lines.BoxLines.{BoxLines}
use Rattle.line_texts.specs.Adding.{TextHasRoom}
use Rattle.link_box.specs.declared.box_trait.LinkBox.{Ghosts as LinkBox}
use Rattle.sequence_journal.specs.Journal.{journal_link, journal_floor, Fits, IsCrashSafe}
use Rattle.sequence_journal.specs.Late.{disk_journal}
use Rattle.std.proofs.Common.{◌≡◌, ◌∙◌, ℕ, ◌+◌, ◌≤◌, List, ◌++◌, take, Ok, Err}
use Rattle.std.proofs.Common.{sym, ap, subst, append_assoc}
use Rattle.std.proofs.Math.Nat.{le_refl}
use Rattle.tick_drive.proofs.{Causes.disk_none, Causes.sinks_none}
use Rattle.tick_drive.specs.{Consumers.GivesSome, Consumers.MayTake, declared.consumer.Stop.Stop}
use Rattle.yasir_io.proofs.FlushLaws.{none_flushed}
use Rattle.yasir_io.specs.{Disks.Slots, declared.disk.SlotDisk.Ghosts as SlotDisk}
use Rattle.yasir_io.specs.declared.sink.Sink.{Ghosts as Sink}
use Rattle.yasir_ticks.specs.{TickRun.run_ticks, TickRun.run_items, Ticks.Item, Ticks.ticks_in}
use Rattle.yasir_ticks.specs.declared.tick_run.TickRun.{TickRun}

-- The box took the first `n` ticks of a run, in memory alone.
module _ {B N O L D : Type 0} (b : LinkBox B N) (line_of : N → List ℕ) (o : Sink O) (l : Sink L)
    (d : SlotDisk D)
    (only_now : (disk : D) (c : Slots) → d.left_since disk (d.moment disk) c → d.may_leave disk c)
    (old : State B O L D) (lines : BoxLines B) (run : TickRun) (n : ℕ)
    (may : MayTake (driving b line_of o l d) old (run_items run))
    (takes : TakesSome b line_of old.lines lines (run_ticks run) n) where
  abbrev next : State B O L D
  next = record old { lines = lines }

  abbrev front : List Item
  front = take n (run_items run)

  more : (before : List Item)
      → ticks_in before ++ take n (run_ticks run) ≡ ticks_in (before ++ front)
  more before = sym (ticks_more before run n)

  drives : (origin : BoxOrigin) (before : List Item)
      → DrivesBox b line_of old.lines origin (outputs_of o l d old) before
      → DrivesBox b line_of lines origin (outputs_of o l d next) (before ++ front)
  drives origin before stood = record {
    took = subst (BoxLinesHaveTaken b line_of lines origin (texts_in (outputs_of o l d old))) (more before)
        (taken_on b line_of old.lines lines (take n (run_ticks run)) takes.front.goes origin
        (texts_in (outputs_of o l d old)) (ticks_in before) stood.took);
    link_is = ap journal_link takes.front.goes.disk ∙ stood.link_is;
    handed = record {
      early = stood.handed.early;
      later = stood.handed.later ++ take n (run_ticks run);
      is = sym (append_assoc stood.handed.early stood.handed.later (take n (run_ticks run)))
          ∙ ap (λ ticks. ticks ++ take n (run_ticks run)) stood.handed.is ∙ more before;
      sent = stood.handed.sent;
      settled = ap journal_floor takes.front.goes.disk ∙ stood.handed.settled;
    };
  }

  counted : b.taken lines.line_box ≡ b.taken old.lines.line_box + n
  counted = takes.front.goes.counted
      ∙ ap (λ k. b.taken old.lines.line_box + k) (length-take-le n (run_ticks run) takes.front.within)

  images : KeepsImages o l d old next
  images =
      let is = takes.front.goes.disk in
      record {
        link = ap journal_link is;
        rises = subst (λ j. journal_floor (disk_journal old.lines.late) ≤ journal_floor j) (sym is)
            (le_refl _);
        is_kept = subst (λ j. IsCrashSafe (disk_journal old.lines.late) (d.told old.disk)
            (d.may_leave old.disk) → IsCrashSafe j (d.told old.disk) (d.may_leave old.disk))
            (sym is) (λ kept. kept);
        any_moment = (images_none o l d only_now old).any_moment;
      }

  went : BoxLinesGoOn o l d old next (Ok tt)
  went = record {
    images = images;
    disk = disk_none (d.faults old.disk);
    sinks = sinks_none (o.faults old.out) (l.faults old.log);
    flushes = none_flushed o l old.out old.log;
  }

  -- There is room for more.
  pub taken_some : TextHasRoom lines.texts
      → GivesSome (driving b line_of o l d) old next (run_items run) (Ok n)
  taken_some room = first_given (driving b line_of o l d) old next run n takes.some
      takes.front.within drives counted (record {
        ready = takes.front.goes.ready;
        room = room;
        fits = subst (λ j. Fits j (d.told old.disk)) (sym takes.front.goes.disk) may.able.fits;
      }) went

  -- What waited was handed out.
  pub handed_some : (new : State B O L D) → HandsOn b line_of o l d next new (Ok tt)
      → GivesSome (driving b line_of o l d) old new (run_items run) (Ok n)
  handed_some new hands = first_given (driving b line_of o l d) old new run n takes.some
      takes.front.within
      (λ origin before stood. hands.drives origin (before ++ front) (drives origin before stood))
      (hands.taken ∙ counted) hands.able
      (drives-then b line_of o l d old next new (Ok tt) went hands.went)

  -- The disk or a write failed.
  pub stopped_some : (new : State B O L D) (stop : Stop)
      → HandsOn b line_of o l d next new (Err stop)
      → GivesSome (driving b line_of o l d) old new (run_items run) (Err stop)
  stopped_some new stop hands = last_stopped (driving b line_of o l d) old new run n takes.some
      takes.front.within stop
      (λ origin before stood. hands.stopped origin (before ++ front) (drives origin before stood))
      (drives-then b line_of o l d old next new (Err stop) went hands.went)
