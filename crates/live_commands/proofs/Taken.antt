-- A filter has taken some ticks, and what the box makes of them waits or was handed on.
use Rattle.line_commands.specs.BoxLines.{AddsAnswer, ToldFloor, late_in}
use Rattle.live_commands.specs.AheadLines.{Empties, MayDrive, MayHandOn, Settles, StandsAfter}
use Rattle.live_commands.specs.AheadLines.{IsAhead, TakesSome, box_in, floor_in}
use Rattle.live_commands.specs.AheadLines.{most_in, number_in, settled_in, waits_in}
use Rattle.live_commands.specs.declared.ahead_lines.AheadLines.{AheadLines}
use Rattle.line_texts.proofs.Added.{answers_both, waits_added}
use Rattle.line_texts.specs.Sending.{LineAndNotes, AnswersNoted}
use Rattle.link_box.specs.declared.box_trait.LinkBox.{Ghosts as LinkBox}
use Rattle.live_commands.specs.Filtering.{Outside, outside, LiveOrigin, Filters, HandsOver}
use Rattle.live_commands.specs.Filtering.{KeepsImages, PortCause, GoesOn, HandsOn, filtering, made_at}
use Rattle.live_commands.specs.Filtering.{box_at}
use Rattle.live_commands.specs.FilteringLaws.{images_none, port_none, filters-then}
use Rattle.line_commands.proofs.Texts.{text_one}
use Rattle.line_commands.specs.LiveText.{IsTextOf}
use Rattle.line_commands.specs.Order.{Handed, HandedFronts}
use Rattle.line_commands.specs.{Sent.Hands, Sent.WritesCause, declared.port.Port.Ghosts as Port}
use Rattle.sequence_journal.specs.Ahead.{ahead_disk, ahead_floor, ahead_link, StandsAhead}
use Rattle.sequence_journal.specs.Journal.{journal_floor, Fits, IsCrashSafe}
use Rattle.sequence_journal.specs.Late.{disk_journal, HasFloorBetween}
use Rattle.sequence_journal.specs.Slots.{floor_of}
use Rattle.sequence_journal.specs.declared.link.LinkId.{LinkId}
use Rattle.sequence_journal.specs.declared.journal.JournalFault.{JournalFault}
use Rattle.std.proofs.Common.{◌≡◌, ◌∙◌, ℕ, ◌+◌, ◌-◌, ◌≤◌, List, [], ◌++◌, length, take, IfSome}
use Rattle.std.proofs.Common.{Option, Some, None, IsSomeAnd, Result, Ok, Err, true, false, sym, ap}
use Rattle.std.proofs.Common.{subst, arith, append-nil}
use Rattle.std.proofs.Common.{append_assoc}
use Rattle.tick_drive.proofs.{Causes.disk_none, ItemLaws.ticks_in-append, ItemLaws.ticks_in-front}
use Rattle.tick_drive.specs.Consumers.{GivesSome}
use Rattle.tick_drive.specs.declared.consumer.Stop.{Stop, TheVariants.WriteFault}
use Rattle.tick_drive.specs.declared.consumer.Stop.TheVariants.{JournalFault as JournalStop}
use Rattle.yasir_io.specs.Disks.{Slots}
use Rattle.yasir_io.specs.declared.{Failed.Failed, disk.SlotDisk.Ghosts as SlotDisk}
use Rattle.yasir_ticks.{proofs.TickRuns.length-run_items, specs.TickRun.run_ticks}
use Rattle.yasir_ticks.specs.CanonicalText.{canonical_text}
use Rattle.yasir_ticks.specs.{TickRun.run_items, Ticks.Item, Ticks.ticks_in}
use Rattle.yasir_ticks.specs.declared.{tick.Tick.Tick, tick_run.TickRun.TickRun}

module _ {P : Type 0} (p : Port P) where
  port_ok : (old new : P) → WritesCause p {T = Unit {0}} {E = Failed} old new (Ok tt)
      → PortCause p old new false
  port_ok old new cause = record {
    left_same = cause.left_same;
    read_same = cause.read_same;
    outputs = record { same = λ _. cause.same; failed = λ e. cc };
  }

  port_err : (old new : P) (e : Failed) → WritesCause p {T = Unit {0}} {E = Failed} old new (Err e)
      → PortCause p old new true
  port_err old new e cause = record {
    left_same = cause.left_same;
    read_same = cause.read_same;
    outputs = record { same = λ e. cc; failed = λ _. cause.failed };
  }

-- No tick adds nothing to what is made of a line.
pub nothing_more : (made : LineAndNotes) (line : List Tick) → AnswersNoted made line [] [] []
nothing_more made line = record {
  ticks_are = ap made.other_line (append-nil line) ∙ sym (append-nil (made.other_line line));
  note_is = ap made.note_lines (append-nil line) ∙ sym (append-nil (made.note_lines line));
}

-- What has a floor between two numbers has one between numbers further apart.
between_wider : (floor : Option ℕ) (low low' high high' : ℕ) → low' ≤ low → high ≤ high'
    → IsSomeAnd floor (λ n. (low ≤ n) × (n ≤ high)) → IsSomeAnd floor (λ n. (low' ≤ n) × (n ≤ high'))
between_wider None low low' high high' below above has = has
between_wider (Some n) low low' high high' below above has =
    (omega (arith, below, has.0), omega (arith, above, has.1))

pub told_wider : (link : LinkId) (low low' : ℕ) → low' ≤ low → (high high' : ℕ) → high ≤ high'
    → (told : Option Slots) → IfSome told (HasFloorBetween link low high)
    → IfSome told (HasFloorBetween link low' high')
told_wider link low low' below high high' above None has = has
told_wider link low low' below high high' above (Some slots) has =
    between_wider (floor_of link slots) low low' high high' below above has

-- ---- ticks are taken

module _ {B N P D : Type 0} (b : LinkBox B N) (line_of : N → List ℕ) (p : Port P) (d : SlotDisk D)
    (only_now : (disk : D) (c : Slots) → d.left_since disk (d.moment disk) c → d.may_leave disk c)
    (old : Outside B P D) (lines : AheadLines B) (run : TickRun) (n : ℕ)
    (takes : TakesSome b line_of old.lines lines (run_ticks run) n)
    (ahead : IsAhead old.lines) (stands_ahead : StandsAhead old.lines.kept (d.told old.disk)) where
  abbrev front : List Item
  front = take n (run_items run)

  abbrev ran : List Tick
  ran = take n (run_ticks run)

  abbrev next : Outside B P D
  next = record old { lines = lines }

  more : (before : List Item) → ticks_in before ++ ran ≡ ticks_in (before ++ front)
  more before = ap (λ x. ticks_in before ++ x) (sym (ticks_in-front run n))
      ∙ sym (ticks_in-append before front)

  same : settled_in lines ≡ settled_in old.lines
  same = ap journal_floor takes.takes.front.goes.disk

  floor_same : floor_in lines ≡ floor_in old.lines
  floor_same = ap ahead_floor takes.kept

  pub still_ahead : IsAhead lines
  still_ahead = record {
    level = ap (λ kept. kept.number) takes.kept ∙ (ahead.level ∙ sym same);
    covers = omega (arith, same, floor_same, ahead.covers);
    within = omega (arith, same, floor_same, ap (λ kept. kept.ahead) takes.kept, ahead.within);
  }

  pub still_fits : Fits (disk_journal (late_in old.lines.lines)) None
      → Fits (disk_journal (late_in lines.lines)) None
  still_fits fits = subst (λ journal. Fits journal None) (sym takes.takes.front.goes.disk) fits

  pub still_stands : StandsAhead lines.kept (d.told old.disk)
  still_stands = subst (λ kept. StandsAhead kept (d.told old.disk)) (sym takes.kept) stands_ahead

  takes_over : (origin : LiveOrigin) (before : List Item)
      → Filters b line_of old.lines (p.history old.port) (d.told old.disk) origin before
      → HandsOver b line_of lines (p.history old.port) origin (ticks_in before ++ ran)
  takes_over origin before stands =
      let over = stands.over in
      let adds : AddsAnswer b line_of old.lines.lines lines.lines origin.setup (ticks_in before) ran =
      takes.takes.front.goes.answers origin.setup (ticks_in before) stands.stood in
      let added : AnswersNoted (made_at b line_of origin) (over.early ++ over.later) ran adds.answer
      adds.note =
      subst (λ line. AnswersNoted (made_at b line_of origin) line ran adds.answer adds.note) over.is
      adds.noted in
      record {
        early = over.early;
        later = over.later ++ ran;
        is = ap (λ x. x ++ ran) over.is ∙ append_assoc over.early over.later ran;
        handed = over.handed;
        settled = same ∙ over.settled;
        answer = over.answer ++ adds.answer;
        note = over.note ++ adds.note;
        noted = answers_both (made_at b line_of origin) over.early over.later ran over.answer
            adds.answer over.note adds.note over.noted added;
        waits = waits_added (waits_in old.lines) (waits_in lines) over.answer adds.answer over.note
            adds.note over.waits adds.adds;
      }

  filters : (origin : LiveOrigin) (before : List Item)
      → Filters b line_of old.lines (p.history old.port) (d.told old.disk) origin before
      → Filters b line_of lines (p.history old.port) (d.told old.disk) origin (before ++ front)
  filters origin before stands =
      let adds : AddsAnswer b line_of old.lines.lines lines.lines origin.setup (ticks_in before) ran =
      takes.takes.front.goes.answers origin.setup (ticks_in before) stands.stood in
      record {
        stood = subst (StandsAfter b line_of lines origin.setup) (more before) adds.stands;
        over = subst (HandsOver b line_of lines (p.history old.port) origin) (more before)
            (takes_over origin before stands);
        link_is = ap ahead_link takes.kept ∙ stands.link_is;
        floor_told = subst (λ n. ToldFloor origin.link n (d.told old.disk)) (sym floor_same)
            stands.floor_told;
      }

  went : GoesOn p d old next (Ok tt)
  went =
      let none = images_none p d only_now old in
      record {
        images = record {
          link = ap ahead_link takes.kept;
          most = ap (λ kept. kept.ahead) takes.kept;
          settles = omega (arith, same);
          rises = omega (arith, floor_same);
          is_kept = λ kept. subst (λ journal. IsCrashSafe journal (d.told old.disk)
              (d.may_leave old.disk)) (sym (ap ahead_disk takes.kept)) (none.is_kept kept);
          any_moment = none.any_moment;
        };
        disk = disk_none (d.faults old.disk);
        port = port_none p old.port;
      }

  counted : b.taken (box_in lines) ≡ b.taken (box_in old.lines) + length (ticks_in front)
  counted = takes.takes.front.goes.counted
      ∙ ap (λ x. b.taken (box_in old.lines) + length x) (sym (ticks_in-front run n))

  within : n ≤ length (run_items run)
  within = omega (arith, takes.takes.front.within, length-run_items run)

  -- There is room for what the next ticks complete.
  pub given_in_memory : MayDrive b line_of lines (d.told old.disk)
      → GivesSome (filtering b line_of p d) old next (run_items run) (Ok n)
  given_in_memory may = record {
    some = takes.takes.some;
    within = within;
    gives = record {
      moved = filters;
      stopped = tt;
      counted = counted;
      is_able = may;
      went = went;
    };
  }

  -- There isn't, and what waits was handed on.
  module _ (last : Outside B P D) where
    pub given_handed : HandsOn b line_of p d next last (Ok tt)
        → GivesSome (filtering b line_of p d) old last (run_items run) (Ok n)
    given_handed hands = record {
      some = takes.takes.some;
      within = within;
      gives = record {
        moved = λ origin before stands. hands.filters origin (before ++ front)
            (filters origin before stands);
        stopped = tt;
        counted = hands.taken ∙ counted;
        is_able = hands.able;
        went = filters-then b line_of p d old next last (Ok tt) went hands.went;
      };
    }

    pub stopped_handing : (stop : Stop) → HandsOn b line_of p d next last (Err stop)
        → GivesSome (filtering b line_of p d) old last (run_items run) (Err stop)
    stopped_handing stop hands =
        let some = takes.takes.some in
        let end : n - 1 + 1 ≡ n = omega (arith, some) in
        record {
          moved = tt;
          stopped = record {
            place = n - 1;
            within = omega (arith, within, some);
            at = λ origin before stands. rw end
                (hands.stopped origin (before ++ front) (filters origin before stands));
          };
          counted = tt;
          is_able = tt;
          went = filters-then b line_of p d old next last (Err stop) went hands.went;
        }

-- ---- what waits is handed on

-- The disk was brought to the journal, and the text that waits was closed, or the disk failed.
module _ {B N P D : Type 0} (b : LinkBox B N) (line_of : N → List ℕ) (p : Port P) (d : SlotDisk D)
    (old : Outside B P D) (mid : AheadLines B) (disk : D)
    (may : MayHandOn b line_of old.lines (d.told old.disk)) where
  abbrev at : AheadLines B → P → Outside B P D
  at lines port = outside lines port disk

  abbrev Stood : LiveOrigin → List Item → Type 0
  Stood origin = Filters b line_of old.lines (p.history old.port) (d.told old.disk) origin

  images : (result : Result (Unit {0}) JournalFault)
      → Settles b line_of d old.lines mid old.disk disk result
      → (port : P) → KeepsImages p d old (at mid port)
  images result settles port = record {
    link = settles.link;
    most = settles.most;
    settles = settles.rises;
    rises = settles.not_below;
    is_kept = settles.is_kept;
    any_moment = settles.any_moment;
  }

  pub unsettled : (fault : JournalFault)
      → Settles b line_of d old.lines mid old.disk disk (Err fault)
      → HandsOn b line_of p d old (at mid old.port) (Err JournalStop)
  unsettled fault settles = record {
    filters = tt;
    clear = tt;
    stopped = λ origin items stood.
        let over = stood.over in
        let early : settled_in old.lines ≡ (box_at b line_of origin).number over.early =
        over.settled in
        let low : (box_at b line_of origin).number over.early ≤ floor_in old.lines =
        omega (arith, early, may.ahead.covers) in
        record {
          early = over.early;
          later = over.later;
          is = over.is;
          handed = over.handed;
          link_is = settles.link ∙ stood.link_is;
          not_below = omega (arith, low, settles.not_below);
          floor_told = told_wider origin.link (floor_in old.lines)
              ((box_at b line_of origin).number over.early) low
              (number_in old.lines + most_in old.lines)
              ((box_at b line_of origin).number (ticks_in items) + most_in mid)
              (omega (arith, stood.stood.number_is, settles.most)) (d.told disk)
              (subst (λ link. IfSome (d.told disk) (HasFloorBetween link (floor_in old.lines)
              (number_in old.lines + most_in old.lines))) stood.link_is settles.failed);
        };
    able = tt;
    taken = settles.taken;
    went = record {
      images = images (Err fault) settles old.port;
      disk = record {
        never_falls = settles.cause.never_falls;
        failed = λ _. settles.cause.failed;
        same = λ e. cc;
      };
      port = port_none p old.port;
    };
  }

  -- The texts that waited were written to the port.
  module _ (settles : Settles b line_of d old.lines mid old.disk disk (Ok tt)) (port : P) where
    settled_is : (origin : LiveOrigin) (items : List Item) → Stood origin items
        → settled_in mid ≡ (box_at b line_of origin).number (ticks_in items)
    settled_is origin items stood = settles.ok.settled ∙ stood.stood.number_is

    told : (origin : LiveOrigin) (items : List Item) → Stood origin items
        → ToldFloor origin.link (floor_in mid) (d.told disk)
    told origin items stood = subst (λ link. ToldFloor link (floor_in mid) (d.told disk))
        (settles.link ∙ stood.link_is) settles.ok.stands.fits.floor

    -- What waited was handed on as far as the port was written to.
    hands_of : (notes text : List ℕ) (result : Result (Unit {0}) Failed)
        → notes ≡ (waits_in mid).notes → text ≡ (waits_in mid).ticks
        → ((answer : List Tick) → IsTextOf text answer → Hands p old.port port answer notes result)
        → (origin : LiveOrigin) (items : List Item) (stood : Stood origin items)
        → Hands p old.port port stood.over.answer stood.over.note result
    hands_of notes text result notes_are text_is hands origin items stood =
        let over = stood.over in
        let text_of : text ≡ canonical_text over.answer =
        text_is ∙ settles.ok.closes.whole over.answer over.note over.waits in
        subst (λ n. Hands p old.port port over.answer n result)
        (notes_are ∙ (settles.ok.closes.notes ∙ over.waits.notes_are))
        (hands over.answer (subst (λ t. IsTextOf t over.answer) (sym text_of)
        (text_one over.answer)))

    pub unwritten : (notes text : List ℕ) (e : Failed)
        → notes ≡ (waits_in mid).notes → text ≡ (waits_in mid).ticks
        → ((answer : List Tick) → IsTextOf text answer
        → Hands p {T = Unit {0}} old.port port answer notes (Err e))
        → WritesCause p {T = Unit {0}} old.port port (Err e)
        → HandsOn b line_of p d old (at mid port) (Err WriteFault)
    unwritten notes text e notes_are text_is hands cause = record {
      filters = tt;
      clear = tt;
      stopped = λ origin items stood.
          let over = stood.over in
          let written = hands_of notes text (Err e) notes_are text_is hands origin items stood in
          record {
            fronts = subst (HandedFronts (made_at b line_of origin) origin.start (p.history port)
                origin.read) (sym over.is)
                (written.err (made_at b line_of origin) origin.start origin.read over.early
                over.later over.noted over.handed);
            link_is = settles.link ∙ stood.link_is;
            not_below = omega (arith, settled_is origin items stood, settles.ok.ahead.covers);
            within = omega (arith, settled_is origin items stood, settles.ok.ahead.within);
            floor_told = told origin items stood;
          };
      able = tt;
      taken = settles.taken;
      went = record {
        images = images (Ok tt) settles port;
        disk = record {
          never_falls = settles.cause.never_falls;
          failed = λ e. cc;
          same = λ _. settles.cause.same;
        };
        port = port_err p old.port port e cause;
      };
    }

    pub written : (notes text : List ℕ) (new : AheadLines B) → Empties b line_of mid new
        → notes ≡ (waits_in mid).notes → text ≡ (waits_in mid).ticks
        → ((answer : List Tick) → IsTextOf text answer
        → Hands p {T = Unit {0}} {E = Failed} old.port port answer notes (Ok tt))
        → WritesCause p {T = Unit {0}} {E = Failed} old.port port (Ok tt)
        → HandsOn b line_of p d old (at new port) (Ok tt)
    written notes text new empties notes_are text_is hands cause =
        let same : settled_in new ≡ settled_in mid =
        ap (λ late. journal_floor late.on_disk) empties.empties.late in
        let floor_same : floor_in new ≡ floor_in mid = ap ahead_floor empties.kept in
        let ahead : IsAhead new = record {
          level = ap (λ kept. kept.number) empties.kept ∙ (settles.ok.ahead.level ∙ sym same);
          covers = omega (arith, same, floor_same, settles.ok.ahead.covers);
          within = omega (
            arith,
            same,
            floor_same,
            ap (λ kept. kept.ahead) empties.kept,
            settles.ok.ahead.within,
          );
        } in
        let stands : StandsAhead new.kept (d.told disk) =
        subst (λ kept. StandsAhead kept (d.told disk)) (sym empties.kept) settles.ok.stands in
        let may_drive = empties.empties.may None settles.ok.ready settles.ok.fits in
        record {
          filters = λ origin items stood.
              let over = stood.over in
              let made = made_at b line_of origin in
              let out = hands_of notes text (Ok tt) notes_are text_is hands origin items stood in
              record {
                stood = empties.empties.stands origin.setup (ticks_in items)
                    (settles.stood origin.setup (ticks_in items) stood.stood);
                over = record {
                  early = ticks_in items;
                  later = [];
                  is = sym (append-nil (ticks_in items));
                  handed = subst (Handed made origin.start (p.history port) origin.read)
                      (sym over.is)
                      (out.ok made origin.start origin.read over.early over.later over.noted
                      over.handed);
                  settled = same ∙ settled_is origin items stood;
                  answer = [];
                  note = [];
                  noted = nothing_more made (ticks_in items);
                  waits = empties.empties.waits;
                };
                link_is = ap ahead_link empties.kept ∙ (settles.link ∙ stood.link_is);
                floor_told = subst (λ n. ToldFloor origin.link n (d.told disk)) (sym floor_same)
                    (told origin items stood);
              };
          clear = record {
            waits = empties.empties.waits;
            settled = same ∙ (settles.ok.settled ∙ sym (empties.empties.number ∙ settles.number));
            ahead = ahead;
            stands = stands;
          };
          stopped = tt;
          able = record {
            ready = may_drive.ready;
            room = may_drive.room;
            fits = may_drive.fits;
            ahead = ahead;
            stands = stands;
          };
          taken = empties.empties.taken ∙ settles.taken;
          went = record {
            images = let kept = images (Ok tt) settles port in record {
              link = ap ahead_link empties.kept ∙ kept.link;
              most = ap (λ at. at.ahead) empties.kept ∙ kept.most;
              settles = omega (arith, same, kept.settles);
              rises = omega (arith, floor_same, kept.rises);
              is_kept = λ safe. subst (λ journal. IsCrashSafe journal (d.told disk)
                  (d.may_leave disk)) (sym (ap ahead_disk empties.kept)) (kept.is_kept safe);
              any_moment = kept.any_moment;
            };
            disk = record {
              never_falls = settles.cause.never_falls;
              failed = λ e. cc;
              same = λ _. settles.cause.same;
            };
            port = port_ok p old.port port cause;
          };
        }
