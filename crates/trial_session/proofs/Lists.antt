-- Ticks up to a place, and silence after it.
use Rattle.std.proofs.Common.{◌≡◌, ◌∙◌, ℕ, ◌-◌, List, ◌++◌, length, take, ap, sym, arith, min}
use Rattle.std.proofs.{Common.⊎_elim, lemmas.Bool.cases_lt, lemmas.List.take_all}
use Rattle.yasir_ticks.specs.{Ticks.silent, declared.tick.Tick.Tick}

-- A place after the last of 640 ticks has the same effect as the end.
pub cut-off : (ticks : List Tick) (place from : ℕ) → length ticks ≡ 640 → from ≡ min place 640
    → take from ticks ++ silent (640 - from) ≡ take place ticks ++ silent (length ticks - place)
cut-off ticks place from long is =
    let rest : 640 - from ≡ length ticks - place = omega arith in
    let front : take from ticks ≡ take place ticks = ⊎_elim
    (λ below. let same : from ≡ place = omega arith in ap (λ n. take n ticks) same)
    (λ beyond. take_all from ticks (omega arith) ∙ sym (take_all place ticks (omega arith)))
    (cases_lt place 640) in
    ap (λ l. l ++ silent (640 - from)) front ∙ ap (λ n. take place ticks ++ silent n) rest
