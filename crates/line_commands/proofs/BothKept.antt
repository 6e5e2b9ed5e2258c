-- What both boxes have taken of an input, as more items come.
use Rattle.line_commands.specs.BothBoxes.{Setups, AreSteady, KeepsBoth, KeepsItems, keeping}
use Rattle.line_commands.specs.KeptBox.{KeepsSome}
use Rattle.line_commands.specs.declared.{both_boxes.BothBoxes.BothBoxes, kept_box.KeptBox.KeptBox}
use Rattle.link_box.specs.declared.box_trait.LinkBox.{Ghosts as LinkBox}
use Rattle.session_lists.proofs.Marks.{has_mark-mark, before_mark-mark, behind_mark-mark}
use Rattle.session_lists.proofs.Marks.{before_mark-more, behind_mark-more}
use Rattle.session_lists.proofs.Runs.{no_mark-front, has_mark-run, before_mark-run, behind_mark-run}
use Rattle.session_lists.specs.Recordings.{lists_have_mark, before_mark, behind_mark}
use Rattle.std.proofs.Common.{◌≡◌, ◌∙◌, ℕ, ◌<◌, true, false, List, [], ◌∷◌, ◌++◌, length}
use Rattle.std.proofs.Common.{take, Option, Ok, Err, refl, ap, sym, subst, arith}
use Rattle.tick_drive.proofs.{ItemLaws.ticks_in-front, Stopping.stops-for-memory}
use Rattle.tick_drive.specs.{Consumers.Gives, Consumers.GivesFirst, Drive.Drives, Drive.drive_answer_of}
use Rattle.tick_drive.specs.Drive.{StopsForMemory}
use Rattle.tick_drive.specs.declared.consumer.Stop.TheVariants.{NoMemory}
use Rattle.tick_drive.specs.declared.end.End.{End, TheVariants.Whole}
use Rattle.yasir_ticks.proofs.TickRuns.{length-run_items}
use Rattle.yasir_ticks.specs.{TickRun.run_ticks, TickRun.run_items, Ticks.Item}
use Rattle.yasir_ticks.specs.{Ticks.Item.mark, declared.tick_run.TickRun.TickRun}

module _ {S C A B : Type 0} (s : LinkBox S A) (sent_line : A → List ℕ) (c : LinkBox C B)
    (got_line : B → List ℕ) (old : BothBoxes S C) where
  pub gives-mark : AreSteady s sent_line c got_line old
      → Gives (keeping s sent_line c got_line) old (record old { marked = true }) (mark ∷ []) (Ok tt)
  gives-mark steady = record {
    moved = λ setups items before. record {
      keeps = rw (before_mark-mark items, behind_mark-mark items) (record {
        outgoing = before.keeps.outgoing;
        incoming = before.keeps.incoming;
      });
      marked = sym (has_mark-mark items);
    };
    stopped = tt;
    counted = omega arith;
    is_able = record { outgoing = steady.outgoing; incoming = steady.incoming };
    went = tt;
  }

  pub gives-none : (new : BothBoxes S C) (items : List Item) → 0 < length items
      → Gives (keeping s sent_line c got_line) old new items (Err NoMemory)
  gives-none new items some = record {
    moved = tt;
    stopped = record { place = 0; within = some; at = λ setups before keeps. refl };
    counted = tt;
    is_able = tt;
    went = tt;
  }

  module _ (steady : AreSteady s sent_line c got_line old) (run : TickRun) (n : ℕ) where
    abbrev front : List Item
    front = take n (run_items run)

    -- Before the mark, the box of the outgoing direction takes ticks.
    pub gives-outgoing : (new : KeptBox S) → old.marked ≡ false
        → KeepsSome s sent_line old.outgoing new (run_ticks run) n
        → GivesFirst (keeping s sent_line c got_line) old (record old { outgoing = new })
        (run_items run) n
    gives-outgoing new unmarked keeps = record {
      some = keeps.some;
      within = omega (arith, keeps.front.within, length-run_items run);
      gives = record {
        moved = λ setups items before.
            let none : lists_have_mark items ≡ false = sym before.marked ∙ unmarked in
            let first : before_mark (items ++ front) ≡ before_mark items ++ take n (run_ticks run) =
            before_mark-run items front none (no_mark-front run n)
            ∙ ap (λ l. before_mark items ++ l) (ticks_in-front run n) in
            record {
              keeps = rw (first, behind_mark-run items front none (no_mark-front run n)) (record {
                outgoing = keeps.front.goes.keeps setups.outgoing (before_mark items)
                    before.keeps.outgoing;
                incoming = before.keeps.incoming;
              });
              marked = before.marked ∙ sym (has_mark-run items front (no_mark-front run n));
            };
        stopped = tt;
        counted = omega (arith, keeps.front.goes.counted, ap length (ticks_in-front run n));
        is_able = record { outgoing = keeps.steady; incoming = steady.incoming };
        went = tt;
      };
    }

    -- After the mark, the box of the incoming direction takes ticks.
    pub gives-incoming : (new : KeptBox C) → old.marked ≡ true
        → KeepsSome c got_line old.incoming new (run_ticks run) n
        → GivesFirst (keeping s sent_line c got_line) old (record old { incoming = new })
        (run_items run) n
    gives-incoming new marked keeps = record {
      some = keeps.some;
      within = omega (arith, keeps.front.within, length-run_items run);
      gives = record {
        moved = λ setups items before.
            let some : lists_have_mark items ≡ true = sym before.marked ∙ marked in
            let back : behind_mark (items ++ front) ≡ behind_mark items ++ take n (run_ticks run) =
            behind_mark-more items front some
            ∙ ap (λ l. behind_mark items ++ l) (ticks_in-front run n) in
            record {
              keeps = rw (before_mark-more items front some, back) (record {
                outgoing = before.keeps.outgoing;
                incoming = keeps.front.goes.keeps setups.incoming (behind_mark items)
                    before.keeps.incoming;
              });
              marked = before.marked ∙ sym (has_mark-run items front (no_mark-front run n));
            };
        stopped = tt;
        counted = omega (arith, keeps.front.goes.counted, ap length (ticks_in-front run n));
        is_able = record { outgoing = steady.outgoing; incoming = keeps.steady };
        went = tt;
      };
    }

-- ---- a drive over both recordings

module _ {S C A B : Type 0} (s : LinkBox S A) (sent_line : A → List ℕ) (c : LinkBox C B)
    (got_line : B → List ℕ) (old new : BothBoxes S C) (setups : Setups)
    (begun : KeepsBoth s sent_line c got_line old setups [] []) (unmarked : old.marked ≡ false)
    (before now : Option (List ℕ)) (end : End)
    (driven : Drives (keeping s sent_line c got_line) 1 0 before now old new end) where
  none-yet : KeepsItems s sent_line c got_line old setups []
  none-yet = record { keeps = begun; marked = unmarked }

  -- If the input is whole, both boxes have taken all of it.
  pub keeps-whole : (whole : end ≡ Whole) → KeepsBoth s sent_line c got_line new setups
      (before_mark driven.items) (behind_mark driven.items)
  keeps-whole whole =
      let gives : Gives (keeping s sent_line c got_line) old new driven.items (Ok tt) =
      subst (λ e. Gives (keeping s sent_line c got_line) old new driven.items (drive_answer_of e)) whole
      driven.gives in
      (gives.moved setups [] none-yet).keeps

  -- If the boxes stopped, it was for want of memory.
  pub only-memory : StopsForMemory end
  only-memory = stops-for-memory (keeping s sent_line c got_line)
      (λ both stop setups items none. none) 1 0 before now old new setups none-yet end driven
