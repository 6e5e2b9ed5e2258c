-- The ticks among items, and how many ticks a run has.
use Rattle.std.proofs.Common.{◌≡◌, ℕ, suc, zero, ◌+◌, ◌≤◌, List, [], ◌∷◌, ◌++◌, length, take, drop}
use Rattle.std.proofs.Common.{map, replicate, length-append, append-nil, refl, ap, sym, ◌∙◌}
use Rattle.std.proofs.lemmas.List.{length-take-le, drop-map, take-map}
use Rattle.yasir_ticks.proofs.TickRuns.{items_of_ticks, ticks_in-ticks}
use Rattle.yasir_ticks.specs.TickRun.{run_ticks, run_items}
use Rattle.yasir_ticks.specs.Ticks.{Item, ticks_in, Item.tick, Item.mark}
use Rattle.yasir_ticks.specs.declared.tick.Tick.{Tick, TheVariants.Silent, TheVariants.Byte}
use Rattle.yasir_ticks.specs.declared.tick_run.TickRun.{TickRun}

pub ticks_in-append : (a b : List Item) → ticks_in (a ++ b) ≡ ticks_in a ++ ticks_in b
ticks_in-append [] b = refl
ticks_in-append (tick t ∷ a) b = ap (λ l. t ∷ l) (ticks_in-append a b)
ticks_in-append (mark ∷ a) b = ticks_in-append a b

-- The number of ticks in some items and some more is the sum of both numbers.
pub ticks_with : (items more : List Item) → length (ticks_in (items ++ more))
    ≡ length (ticks_in items) + length (ticks_in more)
ticks_with items more = ap length (ticks_in-append items more)
    ∙ length-append (ticks_in items) (ticks_in more)

-- A mark at the end of some items adds no tick.
pub ticks_in-mark : (items : List Item) → ticks_in (items ++ mark ∷ []) ≡ ticks_in items
ticks_in-mark items = ticks_in-append items (mark ∷ []) ∙ append-nil (ticks_in items)

pub length-ticks_in-bytes : (bytes : List ℕ)
    → length (ticks_in (map (λ b. tick (Byte b)) bytes)) ≡ length bytes
length-ticks_in-bytes [] = refl
length-ticks_in-bytes (b ∷ bytes) = ap suc (length-ticks_in-bytes bytes)

pub length-ticks_in-silence : (n : ℕ) → length (ticks_in (replicate n (tick Silent))) ≡ n
length-ticks_in-silence zero = refl
length-ticks_in-silence (suc n) = ap suc (length-ticks_in-silence n)

-- The items of a run without its first n ticks are the items of the run without the first n.
pub run_items-behind : (run rest : TickRun) (n : ℕ) → run_ticks rest ≡ drop n (run_ticks run)
    → run_items rest ≡ drop n (run_items run)
run_items-behind run rest n is = items_of_ticks rest ∙ ap (map tick) is
    ∙ sym (drop-map tick n (run_ticks run)) ∙ ap (drop n) (sym (items_of_ticks run))

-- The ticks of the first n items of a run are its first n ticks.
pub ticks_in-front : (run : TickRun) (n : ℕ)
    → ticks_in (take n (run_items run)) ≡ take n (run_ticks run)
ticks_in-front run n =
    ap (λ l. ticks_in (take n l)) (items_of_ticks run) ∙ ap ticks_in (take-map tick n (run_ticks run))
    ∙ ticks_in-ticks (take n (run_ticks run))

-- The first n items of a run, if it has that many, have n ticks.
pub length-front : (run : TickRun) (n : ℕ) → n ≤ length (run_ticks run)
    → length (ticks_in (take n (run_items run))) ≡ n
length-front run n within =
    ap length (ticks_in-front run n) ∙ length-take-le n (run_ticks run) within

-- The items of a run are that of its first tick, followed by those of the others.
pub run_items-first : (run : TickRun) (t : Tick) (rest : List Tick) → run_ticks run ≡ t ∷ rest
    → run_items run ≡ tick t ∷ map tick rest
run_items-first run t rest is = items_of_ticks run ∙ ap (map tick) is
