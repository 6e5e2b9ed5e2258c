-- Silence, and who spoke last after it.
use Rattle.receiver_laws.proofs.Parting.{silent-add}
use Rattle.std.proofs.Common.{◌≡◌, ◌∙◌, ℕ, zero, suc, ◌+◌, List, ◌++◌, refl, sym, ap, arith, append_assoc}
use Rattle.yasir_ticks.specs.Ticks.{silent}
use Rattle.yasir_ticks.specs.declared.tick.Tick.{Tick, TheVariants.Silent}
use Rattle.two_wire.specs.Turns.{after}
use Rattle.two_wire.specs.declared.gate.Spoken.{Spoken}
use Rattle.two_wire.specs.declared.gate.Spoken.TheVariants.{Nobody, Asker, Answerer}

pub two-silences : (a b n : ℕ) (l : List Tick) → a + b ≡ n → silent a ++ (silent b ++ l) ≡ silent n ++ l
two-silences a b n l sum =
    sym (append_assoc (silent a) (silent b) l)
    ∙ (ap (λ x. x ++ l) (silent-add a b) ∙ ap (λ i. silent i ++ l) sum)

-- who spoke last after k more silent ticks
abbrev pub quieter : ℕ → Spoken → Spoken
quieter zero spoken = spoken
quieter (suc k) spoken = quieter k (after spoken Silent Silent)

pub quieter-asker : (k q : ℕ) → quieter k (Asker q) ≡ Asker (q + k)
quieter-asker zero q = ap Asker (omega arith)
quieter-asker (suc k) q =
    let same : suc q + k ≡ q + suc k = omega arith in quieter-asker k (suc q) ∙ ap Asker same

pub quieter-answerer : (k q : ℕ) → quieter k (Answerer q) ≡ Answerer (q + k)
quieter-answerer zero q = ap Answerer (omega arith)
quieter-answerer (suc k) q =
    let same : suc q + k ≡ q + suc k = omega arith in
    quieter-answerer k (suc q) ∙ ap Answerer same

pub quieter-nobody : (k q : ℕ) → quieter k (Nobody q) ≡ Nobody (q + k)
quieter-nobody zero q = ap Nobody (omega arith)
quieter-nobody (suc k) q =
    let same : suc q + k ≡ q + suc k = omega arith in
    quieter-nobody k (suc q) ∙ ap Nobody same

pub after-asker : (k : ℕ) → quieter k (Asker 0) ≡ Asker k
after-asker k = let same : 0 + k ≡ k = omega arith in quieter-asker k 0 ∙ ap Asker same

pub after-answerer : (k : ℕ) → quieter k (Answerer 0) ≡ Answerer k
after-answerer k = let same : 0 + k ≡ k = omega arith in quieter-answerer k 0 ∙ ap Answerer same
