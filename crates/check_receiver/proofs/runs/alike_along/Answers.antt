use Rattle.check_receiver.proofs.Lending.{ring-whole, alike-front, alike-past}
use Rattle.yasir_ticks.specs.DelayRing.{ring_ticks, AreAlike}
use Rattle.std.proofs.Common.{◌≡◌, ◌∙◌, ◌<◌, sym, subst, arith, length, List, ℕ, take, map}
use Rattle.std.proofs.lemmas.Bool.{eqb-false}
use Rattle.yasir_ticks.specs.declared.tick.Tick.{Tick, TheVariants.Byte}
use Rattle.check_receiver.proofs.runs.alike_along.Goals as goal

pub returns-then-count-clause-alike : goal.returns-then-count-clause-alike
returns-then-count-clause-alike g c =
    let Q : List Tick = ring_ticks c.args.ring.now in
    let whole = ring-whole c.args.ring.now in
    let few = c.if-count.true in
    alike-front Q (map (λ b. Byte b) c.args.bytes.now) c.front_alike-count.result (omega arith)
    c.front_alike-count.ensures.alike

pub front_bytes-requires : goal.front_bytes-requires
front_bytes-requires g c = (omega arith, c.args.ring.now.some)

pub returns-then-is_empty-clause-alike : goal.returns-then-is_empty-clause-alike
returns-then-is_empty-clause-alike g c =
    let Q : List Tick = ring_ticks c.args.ring.now in
    let whole = ring-whole c.args.ring.now in
    let within = c.front_alike-count.ensures.within in
    let capped = c.min.ensures in
    alike-front Q (map (λ b. Byte b) c.args.bytes.now) c.front_alike-count.result (omega arith)
    c.front_alike-count.ensures.alike

pub returns-clause-alike : goal.returns-clause-alike
returns-clause-alike g c =
    let Q : List Tick = ring_ticks c.args.ring.now in
    let whole = ring-whole c.args.ring.now in
    let within = c.front_alike-count.ensures.within in
    let capped = c.min.ensures in
    let many = c.if-count.false in
    let size = c.args.ring.now.some in
    let same : c.front_alike-count.result ≡ length Q = omega arith in
    let A : ℕ → Type 0 = λ n. AreAlike (take n Q) in
    let x : List ℕ = c.front_bytes.result.now in
    let other = eqb-false (length x) 0 (sym c.is_empty.ensures ∙ c.if-is_empty.false) in
    let some : 0 < length x = omega arith in
    alike-past Q x c.args.bytes.now c.min-most.result (omega arith)
    (subst A same c.front_alike-count.ensures.alike) some c.front_bytes.ensures.bytes
