use Rattle.check_receiver.{proofs.Lending.of-ok, proofs.Lending.no-bytes, specs.Runs.CheckerIsFront}
use Rattle.std.proofs.lemmas.Bool.{eqb-true}
use Rattle.yasir_ticks.specs.DelayRing.{ring_ticks}
use Rattle.std.proofs.Common.{◌≡◌, ◌∙◌, ◌++◌, sym, ap, subst, arith, length, List, ℕ}
use Rattle.check_receiver.proofs.runs.lend.Goals as goal

pub returns-then-is_empty : goal.returns-then-is_empty
returns-then-is_empty g c =
    let front : List ℕ = c.alike_bytes-front.result.now in
    let none = no-bytes front (eqb-true (length front) 0 (sym c.is_empty.ensures
    ∙ c.if-is_empty.true)) in
    let P : List ℕ → Type 0 = λ y. CheckerIsFront (ring_ticks c.args.ring.now) c.args.count y in
    subst P (none ∙ sym c.requires.empty) (record {
      within = c.alike_bytes-front.ensures.within;
      bytes = c.alike_bytes-front.ensures.bytes;
      all = c.alike_bytes-front.ensures.all;
    })

pub returns : goal.returns
returns g c =
    let front : List ℕ = c.alike_bytes-front.result.now in
    let within = c.alike_bytes-front.ensures.within in
    let most = c.requires.within in
    let small = c.args.ring.now.fits in
    let empty = c.requires.empty in
    let none = ap length empty in
    let items : c.try_extend_from_slice.new.self.items ≡ front =
    of-ok c.try_extend_from_slice.result _
    (c.try_extend_from_slice.ensures.variant.1 (omega arith)) c.try_extend_from_slice.ensures.ok
    ∙ ap (λ y. y ++ front) empty in
    let P : List ℕ → Type 0 = λ y. CheckerIsFront (ring_ticks c.args.ring.now) c.args.count y in
    subst P (sym items) (record {
      within = within;
      bytes = c.alike_bytes-front.ensures.bytes;
      all = c.alike_bytes-front.ensures.all;
    })
