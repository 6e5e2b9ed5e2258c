use Rattle.yasir_ticks.specs.DelayRing.{ring_ticks}
use Rattle.std.proofs.Common.{◌≡◌, ◌∙◌, sym, ap, inl, inr, arith, length, take, ℕ, List, ⊎_elim}
use Rattle.std.proofs.{Common.slice_index_or, lemmas.Bool.cases_lt, lemmas.List.length-replicate}
use Rattle.yasir_ticks.specs.{Ticks.silent, declared.tick.Tick.TheVariants.Silent}
use Rattle.yasir_ticks.proofs.delay_ring.DelayRing.front_alike.Goals as goal

pub returns-in-Silent-clause-alike : goal.returns-in-Silent-clause-alike
returns-in-Silent-clause-alike g c =
    let k : ℕ = c.front_silence.result in
    let is = c.front_silence.ensures.silent in
    let long : length (take k (ring_ticks c.args.self.now)) ≡ k =
    ap length is ∙ length-replicate k Silent in
    inl (is ∙ ap silent (sym long))

pub returns-in-Silent-clause-some : goal.returns-in-Silent-clause-some
returns-in-Silent-clause-some g c = λ some.
    let k : ℕ = c.front_silence.result in
    ⊎_elim
    (λ any. any)
    (λ empty.
    let same : k ≡ 0 = omega arith in
    let first = sym c.in-Silent.is ∙ c.peek.ensures in
    absurd (c.front_silence.ensures.all (omega arith)
    (ap (λ j. slice_index_or (ring_ticks c.args.self.now) j Silent) same ∙ sym first)))
    (cases_lt 0 k)

pub returns-in-Byte-clause-alike : goal.returns-in-Byte-clause-alike
returns-in-Byte-clause-alike g c =
    inr (c.front_bytes.result.now, sym c.front_bytes.ensures.bytes)

pub returns-in-Byte-clause-some : goal.returns-in-Byte-clause-some
returns-in-Byte-clause-some g c = λ some.
    let x : List ℕ = c.front_bytes.result.now in
    ⊎_elim
    (λ any. any)
    (λ empty.
    let same : length x ≡ 0 = omega arith in
    let silent = sym (c.front_bytes.ensures.all (omega arith))
    ∙ ap (λ j. slice_index_or (ring_ticks c.args.self.now) j Silent) same in
    let first = c.peek.ensures in
    let byte = c.in-Byte.is in
    cc)
    (cases_lt 0 (length x))
