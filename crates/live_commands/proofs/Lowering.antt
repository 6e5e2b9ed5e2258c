-- The floor of the disk is brought down to the last number used behind a line that has ended.
use Rattle.line_commands.specs.BoxLines as memory
use Rattle.line_commands.specs.{BoxLines.ToldFloor, BoxLinesLaws.floor_from_less}
use Rattle.line_commands.specs.ReplaysBox.{has_stopped}
use Rattle.line_commands.specs.declared.port.Port.{Ghosts as Port}
use Rattle.line_texts.specs.Adding.{Waits}
use Rattle.link_box.specs.declared.box_trait.LinkBox.{Ghosts as LinkBox}
use Rattle.live_commands.proofs.Behind.{goes_whole}
use Rattle.live_commands.proofs.Clear.{all_handed, all_settled}
use Rattle.live_commands.proofs.Taken.{told_wider}
use Rattle.live_commands.proofs.TextEndsLaws.{no_true, text_by, within_stopped, last_stopped}
use Rattle.live_commands.specs.AheadLines.{Lowers, disk_in, floor_in, link_in, most_in}
use Rattle.live_commands.specs.AheadLines.{settled_in}
use Rattle.live_commands.specs.Filtering.{KeepsImages, IsClear, LiveOrigin, box_at}
use Rattle.live_commands.specs.LiveLine.{Live, live_of, outside_of, HeardAt, HaltsAt, HearsLine}
use Rattle.live_commands.specs.LiveLine.{Drives, LowersBehind, is_lowered_at, after_lowering}
use Rattle.live_commands.specs.LiveLine.{read_further}
use Rattle.live_commands.specs.TextEnds.{EndsText, EndsWithin, EndsAtLast}
use Rattle.live_commands.specs.declared.live_box.LiveBox.{LiveBox}
use Rattle.sequence_journal.specs.Journal.{HasFloorAtLeast, HasFloorFrom}
use Rattle.sequence_journal.specs.Late.{HasFloorBetween, disk_floor}
use Rattle.sequence_journal.specs.declared.journal.JournalFault.{JournalFault}
use Rattle.std.proofs.Common.{◌≡◌, ◌∙◌, ℕ, ◌+◌, ◌≤◌, ◌⊎◌, List, [], ◌++◌, IfSome, Result, Ok, Err, true, false}
use Rattle.std.proofs.Common.{inl, inr, refl, sym, ap, subst, arith, append-nil}
use Rattle.tick_drive.proofs.Causes.{disk_then}
use Rattle.tick_drive.specs.{Consumers.IsDiskCause, Consumers.is_journal_fault, Drive.drive_answer_of}
use Rattle.tick_drive.specs.{Input.is_read_fault, declared.end.End.End, declared.end.End.TheVariants.Whole}
use Rattle.tick_drive.specs.declared.consumer.Stop.{Stop}
use Rattle.std.specs.Io.KnownBytes.{IsAtEnd}
use Rattle.tick_drive.specs.declared.consumer.Stop.TheVariants.{JournalFault as JournalStop}
use Rattle.tick_drive.specs.declared.end.End.TheVariants.{Refused, TooLong, ReadFault, Stopped}
use Rattle.yasir_io.proofs.Moments.{leaves_then, leaves_weaker}
use Rattle.yasir_io.specs.{declared.disk.SlotDisk.Ghosts as SlotDisk}
use Rattle.yasir_ticks.specs.{Ticks.ticks_in, declared.tick.Tick.Tick}

pub goes_on_at : (end : End) → is_lowered_at end ≡ true → has_stopped end ≡ false
goes_on_at ReadFault e = cc
goes_on_at (Stopped stop) e = cc
goes_on_at end e = refl

no_read_at : (end : End) → is_lowered_at end ≡ true → is_read_fault end ≡ false
no_read_at ReadFault e = cc
no_read_at (Stopped stop) e = cc
no_read_at end e = refl

module _ (Heard Heard' : List Tick → Type 0) (Halts Halts' : Stop → List Tick → Type 0) (stop : Stop)
    (stops : (line more : List Tick) → Heard line → Halts' stop (line ++ more)) (rest : ℕ)
    (at_end : Type 0) (text : List ℕ) where
  at_last : at_end → EndsWithin Heard' Halts' (Stopped stop) text
      ⊎ EndsAtLast Heard' Halts' rest (Stopped stop) text
      → EndsText Heard' Halts' rest at_end (Stopped stop) text
  at_last end (inl within) = inl within
  at_last end (inr last) = inr (end, last)

  text_stopped : (end : End) → is_lowered_at end ≡ true → EndsText Heard Halts rest at_end end text
      → EndsText Heard' Halts' rest at_end (Stopped stop) text
  text_stopped Whole e (inl within) =
      inl (within_stopped Heard Heard' Halts Halts' stop stops Whole refl text within)
  text_stopped Whole e (inr last) = at_last last.0
      (last_stopped Heard Heard' Halts Halts' stop stops rest Whole refl text last.1)
  text_stopped (Refused bad) e (inr last) = at_last last.0
      (last_stopped Heard Heard' Halts Halts' stop stops rest (Refused bad) refl text last.1)
  text_stopped (TooLong what count) e (inr last) = at_last last.0
      (last_stopped Heard Heard' Halts Halts' stop stops rest (TooLong what count) refl text last.1)
  text_stopped ReadFault e ends = cc
  text_stopped (Stopped other) e ends = cc
  text_stopped end e (inl within) =
      inl (within_stopped Heard Heard' Halts Halts' stop stops end refl text within)

module _ {B N P D : Type 0} (b : LinkBox B N) (line_of : N → List ℕ) (p : Port P) (d : SlotDisk D)
    (old mid : Live B P D) (live_box : LiveBox B) (disk : D) (rest : ℕ)
    (level : floor_in old.live_box.lines ≤ settled_in old.live_box.lines) (end : End)
    (hears : HearsLine b line_of p d rest old mid end) where
  abbrev new : Live B P D
  new = live_of live_box mid.port disk

  module _ (answer : Result (Unit {0}) JournalFault)
      (lowers : Lowers b line_of d mid.live_box.lines live_box.lines mid.disk disk answer) where
    settled_same : settled_in live_box.lines ≡ settled_in mid.live_box.lines
    settled_same = ap (λ lines. disk_floor (memory.late_in lines)) lowers.lines

    images : KeepsImages p d (outside_of old) (outside_of new)
    images = let kept = hears.goes.images in record {
      link = lowers.link ∙ kept.link;
      most = lowers.most ∙ kept.most;
      settles = omega (arith, kept.settles, settled_same);
      rises = omega (arith, level, kept.settles, lowers.not_below);
      is_kept = λ safe. lowers.is_kept (kept.is_kept safe);
      any_moment = λ safe. leaves_then d.moment d.left_since old.disk mid.disk disk _
          (kept.any_moment safe)
          (leaves_weaker d.moment d.left_since mid.disk disk
          (HasFloorAtLeast (link_in mid.live_box.lines) (settled_in mid.live_box.lines))
          (HasFloorFrom (disk_in old.live_box.lines))
          (λ c has. floor_from_less (link_in old.live_box.lines) (floor_in old.live_box.lines)
          (settled_in mid.live_box.lines) (omega (arith, level, kept.settles)) c
          (subst (λ link. HasFloorAtLeast link (settled_in mid.live_box.lines) c) kept.link has))
          (lowers.any_moment (kept.is_kept safe)));
    }

  -- The floor was brought down.
  module _ (lowered : is_lowered_at end ≡ true)
      (lowers : Lowers b line_of d mid.live_box.lines live_box.lines mid.disk disk (Ok tt)) where
    clear_before : IsClear mid.live_box.lines (d.told mid.disk)
    clear_before = hears.clear (goes_on_at end lowered)

    clear_now : IsClear live_box.lines (d.told disk)
    clear_now = record {
      waits = subst (λ lines. Waits (memory.waits_in lines) [] []) (sym lowers.lines)
          clear_before.waits;
      settled = settled_same (Ok tt) lowers ∙ (clear_before.settled
          ∙ sym (ap (λ lines. memory.number_in lines) lowers.lines));
      ahead = record {
        level = lowers.number ∙ (clear_before.ahead.level ∙ sym (settled_same (Ok tt) lowers));
        covers = omega (arith, settled_same (Ok tt) lowers, lowers.lowered);
        within = omega (arith, settled_same (Ok tt) lowers, lowers.lowered);
      };
      stands = lowers.stands;
    }

    heard_now : (origin : LiveOrigin) (line : List Tick) → HeardAt b line_of p d mid origin line
        → HeardAt b line_of p d new origin line
    heard_now origin line heard =
        let filters = heard.filters in
        let over = filters.over in
        record {
          items = heard.items;
          are = heard.are;
          filters = record {
            stood = subst (λ lines. memory.StandsAfter b line_of lines origin.setup
                (ticks_in heard.items)) (sym lowers.lines) filters.stood;
            over = record {
              early = over.early;
              later = over.later;
              is = over.is;
              handed = over.handed;
              settled = settled_same (Ok tt) lowers ∙ over.settled;
              answer = over.answer;
              note = over.note;
              noted = over.noted;
              waits = subst (λ lines. Waits (memory.waits_in lines) over.answer over.note)
                  (sym lowers.lines) over.waits;
            };
            link_is = lowers.link ∙ filters.link_is;
            floor_told = subst (λ link. ToldFloor link (floor_in live_box.lines) (d.told disk))
                (lowers.link ∙ filters.link_is) lowers.stands.fits.floor;
          };
        }

    drives_down : Drives b line_of p d rest old new end
    drives_down = record {
      heard = record {
        text = hears.text;
        came = hears.came;
        goes = let goes = hears.goes in record {
          images = images (Ok tt) lowers;
          disk = subst (λ n. IsDiskCause (d.faults old.disk) n (is_journal_fault (drive_answer_of end)))
              (sym lowers.cause.same) goes.disk;
          reads = goes.reads;
          outputs = goes.outputs;
        };
        clear = λ e. clear_now;
        ends = λ origin zero none heard. text_by
            (HeardAt b line_of p d mid (read_further origin hears.text))
            (HeardAt b line_of p d new (read_further origin hears.text))
            (HaltsAt b line_of p d mid (read_further origin hears.text))
            (HaltsAt b line_of p d new (read_further origin hears.text)) rest
            (IsAtEnd (p.left mid.port)) end
            (λ e. heard_now (read_further origin hears.text))
            (λ e. absurd (no_true (sym e ∙ goes_on_at end lowered))) hears.text
            (hears.ends origin zero none heard);
      };
      lowered = λ e. lowers.lowered ∙ (clear_before.settled
          ∙ sym (ap (λ lines. memory.number_in lines) lowers.lines));
    }

  -- The disk failed on the way.
  module _ (lowered : is_lowered_at end ≡ true) (fault : JournalFault)
      (lowers : Lowers b line_of d mid.live_box.lines live_box.lines mid.disk disk (Err fault)) where
    clear_then : IsClear mid.live_box.lines (d.told mid.disk)
    clear_then = hears.clear (goes_on_at end lowered)

    stops_now : (origin : LiveOrigin) (line more : List Tick)
        → HeardAt b line_of p d mid origin line
        → HaltsAt b line_of p d new origin JournalStop (line ++ more)
    stops_now origin line more heard =
        let filters = heard.filters in
        let settled = all_settled b line_of mid.live_box.lines (d.told mid.disk)
        (p.history mid.port) origin (ticks_in heard.items) clear_then filters.stood in
        record {
          items = heard.items;
          more = more;
          are = ap (λ l. l ++ more) heard.are;
          stops = record {
            early = ticks_in heard.items;
            later = [];
            is = sym (append-nil (ticks_in heard.items));
            handed = all_handed b line_of mid.live_box.lines (d.told mid.disk) (p.history mid.port)
                origin (ticks_in heard.items) clear_then filters.over;
            link_is = lowers.link ∙ filters.link_is;
            not_below = omega (arith, settled, lowers.not_below);
            floor_told = told_wider origin.link (settled_in mid.live_box.lines)
                ((box_at b line_of origin).number (ticks_in heard.items)) (omega (arith, settled))
                (floor_in mid.live_box.lines)
                ((box_at b line_of origin).number (ticks_in heard.items)
                + most_in live_box.lines)
                (omega (arith, settled, clear_then.ahead.within, lowers.most)) (d.told disk)
                (subst (λ link. IfSome (d.told disk) (HasFloorBetween link
                (settled_in mid.live_box.lines) (floor_in mid.live_box.lines))) filters.link_is
                lowers.failed);
          };
        }

    drives_stopped : Drives b line_of p d rest old new (Stopped JournalStop)
    drives_stopped =
        let goes = goes_whole p d old mid end (goes_on_at end lowered) (no_read_at end lowered)
        hears.goes in
        record {
          heard = record {
            text = hears.text;
            came = hears.came;
            goes = record {
              images = images (Err fault) lowers;
              disk = disk_then (d.faults old.disk) (d.faults mid.disk) (d.faults disk) true goes.disk
                  (record {
                    never_falls = lowers.cause.never_falls;
                    failed = λ _. lowers.cause.failed;
                    same = λ e. cc;
                  });
              reads = goes.reads;
              outputs = goes.outputs;
            };
            clear = λ e. cc;
            ends = λ origin zero none heard. text_stopped
                (HeardAt b line_of p d mid (read_further origin hears.text))
                (HeardAt b line_of p d new (read_further origin hears.text))
                (HaltsAt b line_of p d mid (read_further origin hears.text))
                (HaltsAt b line_of p d new (read_further origin hears.text)) JournalStop
                (stops_now (read_further origin hears.text)) rest (IsAtEnd (p.left mid.port))
                hears.text end lowered (hears.ends origin zero none heard);
          };
          lowered = λ e. cc;
        }

  drives_after : (lowered : is_lowered_at end ≡ true) (answer : Result (Unit {0}) JournalFault)
      → Lowers b line_of d mid.live_box.lines live_box.lines mid.disk disk answer
      → Drives b line_of p d rest old new (after_lowering end answer)
  drives_after lowered (Ok x) lowers = drives_down lowered lowers
  drives_after lowered (Err fault) lowers = drives_stopped lowered fault lowers

  -- Nothing was done.
  drives_as_heard : is_lowered_at end ≡ false
      → Drives b line_of p d rest old (live_of mid.live_box mid.port mid.disk) end
  drives_as_heard not_lowered = record {
    heard = record {
      text = hears.text;
      came = hears.came;
      goes = let goes = hears.goes in record {
        images = goes.images;
        disk = goes.disk;
        reads = goes.reads;
        outputs = goes.outputs;
      };
      clear = hears.clear;
      ends = hears.ends;
    };
    lowered = λ e. absurd (no_true (sym e ∙ not_lowered));
  }

  pub drives_lowered : (result : End)
      → LowersBehind b line_of d mid.live_box live_box mid.disk disk end result
      → Drives b line_of p d rest old new result
  drives_lowered result (inl none) =
      rw (none.1, none.2, none.3) (drives_as_heard none.0)
  drives_lowered result (inr after) = rw after.is (drives_after after.goes_on after.answer after.lowers)
