use Rattle.check_receiver.proofs.Lending.{of-ok, ring-whole, front-along, whole-along, ring-alike}
use Rattle.check_receiver.{proofs.Lending.bytes-long, proofs.Lending.no-bytes, specs.Runs.CheckerIsFront}
use Rattle.{yasir_ticks.specs.DelayRing.ring_ticks, std.proofs.Common.◌≡◌, std.proofs.Common.◌∙◌}
use Rattle.std.proofs.Common.{◌-◌, ◌≤◌, ◌++◌, sym, ap, subst, arith, length, List, ℕ, take, map}
use Rattle.std.proofs.{Common.length-append, lemmas.Bool.eqb-true, lemmas.List.length-take-le}
use Rattle.yasir_ticks.specs.declared.tick.Tick.{Tick, TheVariants.Byte}
use Rattle.check_receiver.proofs.runs.lend_along.Goals as goal

pub alike_bytes-front-requires : goal.alike_bytes-front-requires
alike_bytes-front-requires g c =
    let Q : List Tick = ring_ticks c.args.ring.now in
    let E : List Tick = map (λ b. Byte b) c.args.bytes.now in
    let whole = ring-whole c.args.ring.now in
    let all = bytes-long c.args.bytes.now in
    let sum = length-append Q E in
    let capped = c.min.ensures in
    let few = c.requires.within in
    let within : c.min.result ≤ g.row.D = omega arith in (
      omega arith,
      (
        within,
        ring-alike Q E c.min.result c.args.count (omega arith) (omega arith)
            (omega arith) c.requires.alike,
      ),
    )

pub returns-then-is_empty : goal.returns-then-is_empty
returns-then-is_empty g c =
    let Q : List Tick = ring_ticks c.args.ring.now in
    let E : List Tick = map (λ b. Byte b) c.args.bytes.now in
    let front : List ℕ = c.alike_bytes-front.result.now in
    let within = c.alike_bytes-front.ensures.within in
    let capped = c.min.ensures in
    let size = eqb-true (length front) 0 (sym c.is_empty.ensures ∙ c.if-is_empty.true) in
    let some = c.args.ring.now.some in
    let P : List ℕ → Type 0 = λ y. CheckerIsFront (Q ++ E) c.args.count y in
    subst P (no-bytes front size ∙ sym c.requires.empty)
    (front-along Q E g.row.D c.args.count c.min.result front (ring-whole c.args.ring.now)
    c.min.ensures (omega arith) within c.alike_bytes-front.ensures.bytes
    c.alike_bytes-front.ensures.all)

pub returns-then-front : goal.returns-then-front
returns-then-front g c =
    let Q : List Tick = ring_ticks c.args.ring.now in
    let E : List Tick = map (λ b. Byte b) c.args.bytes.now in
    let front : List ℕ = c.alike_bytes-front.result.now in
    let within = c.alike_bytes-front.ensures.within in
    let capped = c.min.ensures in
    let most = c.requires.most in
    let empty = c.requires.empty in
    let none = ap length empty in
    let items : c.try_extend_from_slice.new.self.items ≡ front =
    of-ok c.try_extend_from_slice.result _
    (c.try_extend_from_slice.ensures.variant.1 (omega arith)) c.try_extend_from_slice.ensures.ok
    ∙ ap (λ y. y ++ front) empty in
    let P : List ℕ → Type 0 = λ y. CheckerIsFront (Q ++ E) c.args.count y in
    subst P (sym items)
    (front-along Q E g.row.D c.args.count c.min.result front (ring-whole c.args.ring.now)
    c.min.ensures c.if-front.true within c.alike_bytes-front.ensures.bytes
    c.alike_bytes-front.ensures.all)

pub returns : goal.returns
returns g c =
    let Q : List Tick = ring_ticks c.args.ring.now in
    let bytes : List ℕ = c.args.bytes.now in
    let front : List ℕ = c.alike_bytes-front.result.now in
    let within = c.alike_bytes-front.ensures.within in
    let capped = c.min.ensures in
    let many = c.if-front.false in
    let most = c.requires.most in
    let few = c.requires.within in
    let empty = c.requires.empty in
    let none = ap length empty in
    let size : length front ≡ g.row.D = omega arith in
    let more : g.row.D ≤ c.args.count = omega arith in
    let behind : List ℕ = take (c.args.count - g.row.D) bytes in
    let part : length behind ≡ c.args.count - g.row.D =
    length-take-le (c.args.count - g.row.D) bytes (omega arith) in
    let first : c.try_extend_from_slice.new.self.items ≡ front =
    of-ok c.try_extend_from_slice.result _
    (c.try_extend_from_slice.ensures.variant.1 (omega arith)) c.try_extend_from_slice.ensures.ok
    ∙ ap (λ y. y ++ front) empty in
    let held = ap length first in
    let items : c.try_extend_from_slice-2.new.self.items ≡ front ++ behind =
    of-ok c.try_extend_from_slice-2.result _
    (c.try_extend_from_slice-2.ensures.variant.1 (omega arith))
    c.try_extend_from_slice-2.ensures.ok
    ∙ ap (λ y. y ++ behind) first in
    let P : List ℕ → Type 0 = λ y. CheckerIsFront (Q ++ map (λ b. Byte b) bytes) c.args.count y in
    subst P (sym items)
    (whole-along Q g.row.D c.args.count front bytes (ring-whole c.args.ring.now) size more few
    c.alike_bytes-front.ensures.bytes)
