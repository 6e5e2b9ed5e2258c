use Rattle.std.proofs.Common.{◌≡◌, ◌∙◌, ap, arith, w64}
use Rattle.std.proofs.lemmas.Nat.Bits.{bit_at-zero, bit_at-trailing_zeros}
use Rattle.std.specs.Int.{bit_at}
use Rattle.yasir_ticks.proofs.lanes.first_bit.Goals as goal

pub returns-then-m-eq0-clause-none : goal.returns-then-m-eq0-clause-none
returns-then-m-eq0-clause-none c = λ k lane less set.
    let none : bit_at c.args.m k ≡ 0 = ap (λ n. bit_at n k) c.if-m-eq0.true ∙ bit_at-zero k in
    absurd (omega arith)

pub returns-clause-none : goal.returns-clause-none
returns-clause-none c = λ k lane less set.
    let some = c.if-m-eq0.false in
    let h = bit_at-trailing_zeros w64 c.args.m (omega arith) c.ranges.m.fits in
    let none = h.2 k less in
    absurd (omega arith)

pub returns-clause-found : goal.returns-clause-found
returns-clause-found c = λ few.
    let some = c.if-m-eq0.false in
    let h = bit_at-trailing_zeros w64 c.args.m (omega arith) c.ranges.m.fits in
    h.1
