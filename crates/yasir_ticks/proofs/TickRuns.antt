-- The ticks of a run as items of a tick text.
use Rattle.std.proofs.Common.{◌≡◌, ◌∙◌, ℕ, zero, suc, List, [], ◌∷◌, ◌++◌, length, map, replicate}
use Rattle.std.proofs.Common.{take, drop, refl, ap, sym}
use Rattle.std.proofs.lemmas.List.{take-append-drop, length-map, map-append}
use Rattle.yasir_ticks.specs.{TickRun.run_ticks, TickRun.run_items, Ticks.ticks_in, Ticks.Item.tick}
use Rattle.yasir_ticks.specs.declared.tick.Tick.{Tick, TheVariants.Silent, TheVariants.Byte}
use Rattle.yasir_ticks.specs.declared.tick_run.TickRun.{TickRun}
use Rattle.yasir_ticks.specs.declared.tick_run.TickRun.TheVariants.{Bytes, Silence}

items_of_bytes : (bytes : List ℕ) → map (λ b. tick (Byte b)) bytes ≡ map tick (map Byte bytes)
items_of_bytes [] = refl
items_of_bytes (b ∷ bytes) = ap (λ l. tick (Byte b) ∷ l) (items_of_bytes bytes)

items_of_silence : (n : ℕ) → replicate n (tick Silent) ≡ map tick (replicate n Silent)
items_of_silence zero = refl
items_of_silence (suc n) = ap (λ l. tick Silent ∷ l) (items_of_silence n)

pub items_of_ticks : (run : TickRun) → run_items run ≡ map tick (run_ticks run)
items_of_ticks (Bytes bytes) = items_of_bytes bytes.now
items_of_ticks (Silence n) = items_of_silence n

-- A run has as many items as ticks.
pub length-run_items : (run : TickRun) → length (run_items run) ≡ length (run_ticks run)
length-run_items run = ap length (items_of_ticks run) ∙ length-map (run_ticks run) tick

-- The ticks among items that are all ticks are these ticks.
pub ticks_in-ticks : (ticks : List Tick) → ticks_in (map tick ticks) ≡ ticks
ticks_in-ticks [] = refl
ticks_in-ticks (t ∷ ticks) = ap (λ l. t ∷ l) (ticks_in-ticks ticks)

pub ticks_in-run : (run : TickRun) → ticks_in (run_items run) ≡ run_ticks run
ticks_in-run run = ap ticks_in (items_of_ticks run) ∙ ticks_in-ticks (run_ticks run)

-- The items of a run are its first n ticks, and then the others.
pub run_items-cut : (run : TickRun) (n : ℕ)
    → run_items run ≡ map tick (take n (run_ticks run)) ++ map tick (drop n (run_ticks run))
run_items-cut run n = items_of_ticks run ∙ ap (map tick) (sym (take-append-drop n (run_ticks run)))
    ∙ map-append tick (take n (run_ticks run)) (drop n (run_ticks run))
