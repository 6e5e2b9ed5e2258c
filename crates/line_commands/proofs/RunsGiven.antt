-- What a consumer does with the items of a run, if it takes the first ticks of the run.
use Rattle.std.proofs.Common.{◌≡◌, ◌∙◌, ℕ, ◌+◌, ◌-◌, ◌<◌, ◌≤◌, List, ◌++◌, length, take, Ok, Err}
use Rattle.std.proofs.Common.{subst, sym, ap, arith}
use Rattle.tick_drive.proofs.ItemLaws.{ticks_in-append, ticks_in-front, length-front}
use Rattle.tick_drive.specs.Consumers.{Consuming, Gives, GivesFirst, Moves}
use Rattle.tick_drive.specs.declared.consumer.Stop.{Stop}
use Rattle.yasir_ticks.{proofs.TickRuns.length-run_items, specs.TickRun.run_ticks}
use Rattle.yasir_ticks.specs.{TickRun.run_items, Ticks.Item, Ticks.ticks_in}
use Rattle.yasir_ticks.specs.declared.tick_run.TickRun.{TickRun}

-- The first n items of a run are its first n ticks.
pub ticks_more : (items : List Item) (run : TickRun) (n : ℕ)
    → ticks_in (items ++ take n (run_items run)) ≡ ticks_in items ++ take n (run_ticks run)
ticks_more items run n = ticks_in-append items (take n (run_items run))
    ∙ ap (λ t. ticks_in items ++ t) (ticks_in-front run n)

module _ {C : Type 0} (meaning : Consuming C) (old new : C) (run : TickRun) (n : ℕ) (some : 0 < n)
    (within : n ≤ length (run_ticks run)) where
  few : n ≤ length (run_items run)
  few = omega (arith, within, length-run_items run)

  -- It took them.
  pub first_given : Moves meaning old new (take n (run_items run))
      → meaning.taken new ≡ meaning.taken old + n → meaning.able new
      → meaning.went old new (Ok tt) → GivesFirst meaning old new (run_items run) n
  first_given moved counted able went = record {
    some = some;
    within = few;
    gives = record {
      moved = moved;
      stopped = tt;
      counted = counted ∙ ap (λ k. meaning.taken old + k) (sym (length-front run n within));
      is_able = able;
      went = went;
    };
  }

  -- It stopped at the last of them.
  pub last_stopped : (stop : Stop)
      → ((origin : meaning.Origin) (items : List Item) → meaning.stands old origin items
      → meaning.stopped new stop origin (items ++ take n (run_items run)))
      → meaning.went old new (Err stop) → Gives meaning old new (run_items run) (Err stop)
  last_stopped stop at went =
      let last : n - 1 + 1 ≡ n = omega arith in record {
        moved = tt;
        stopped = record {
          place = n - 1;
          within = omega (arith, few, some);
          at = λ origin items stood. subst
              (λ k. meaning.stopped new stop origin (items ++ take k (run_items run))) (sym last)
              (at origin items stood);
        };
        counted = tt;
        is_able = tt;
        went = went;
      }
