-- Runs of the other line, as a box lends their bytes.
use Rattle.{frame_ending.specs.Answered.answered, std.proofs.Common.◌≡◌}
use Rattle.std.proofs.Common.{◌∙◌, ℕ, ◌≤◌, List, [], ◌∷◌, length, map, take, refl, sym, ap, arith}
use Rattle.std.proofs.lemmas.List.{length-take, length-take-le, take-map, take-replicate, take-take}
use Rattle.yasir_ticks.specs.{TickRun.run_ticks, Ticks.silent}
use Rattle.yasir_ticks.specs.declared.tick.Tick.TheVariants.{Silent, Byte}
use Rattle.yasir_ticks.specs.declared.tick_run.TickRun.{TickRun}

-- if there are as many bytes as ticks, the ticks are these bytes
answered-bytes : (x : List ℕ) → answered (length x) x ≡ map Byte x
answered-bytes [] = refl
answered-bytes (b ∷ x) = refl

pub answered-all : (n : ℕ) (x lent : List ℕ) → n ≡ length x → lent ≡ x
    → map Byte x ≡ answered n lent
answered-all n x lent count items =
    sym (ap (λ k. answered k lent) count ∙ (ap (λ l. answered (length x) l) items
    ∙ answered-bytes x))

-- if no bytes are lent, the ticks are silent
pub answered-none : (n : ℕ) (lent : List ℕ) → lent ≡ [] → silent n ≡ answered n lent
answered-none n lent none = sym (ap (λ l. answered n l) none)

-- the first n of these bytes, as they are lent
pub lent-bytes : (n : ℕ) (x lent : List ℕ) → n ≤ length x → lent ≡ take n x
    → take n (map Byte x) ≡ answered n lent
lent-bytes n x lent within is = take-map Byte n x
    ∙ answered-all n (take n x) lent (sym (length-take-le n x within)) is

-- the first n of these silent ticks, if nothing is lent
pub lent-silence : (n ticks : ℕ) (lent : List ℕ) → n ≤ ticks → lent ≡ []
    → take n (silent ticks) ≡ answered n lent
lent-silence n ticks lent within none = take-replicate n ticks Silent within
    ∙ answered-none n lent none

-- the first n bytes of a front are the first n of all bytes
pub front-bytes : (n k : ℕ) (x : List ℕ) → n ≤ length (take k x)
    → take n (map Byte (take k x)) ≡ take n (map Byte x)
front-bytes n k x within =
    let fewer : n ≤ k = omega (arith, within, length-take k x) in
    take-map Byte n (take k x) ∙ ap (map Byte) (take-take n k x fewer) ∙ sym (take-map Byte n x)

-- ---- the front of a run

pub run-bytes : (n : ℕ) (run : TickRun) (x : List ℕ) → run_ticks run ≡ map Byte x
    → map Byte (take n x) ≡ take n (run_ticks run)
run-bytes n run x is = sym (take-map Byte n x) ∙ ap (take n) (sym is)

pub run-silence : (n : ℕ) (run : TickRun) (ticks : ℕ) → n ≤ ticks → run_ticks run ≡ silent ticks
    → silent n ≡ take n (run_ticks run)
run-silence n run ticks within is =
    sym (take-replicate n ticks Silent within) ∙ ap (take n) (sym is)
