use Rattle.hex.{proofs.HexLemmas.length-encode_with, specs.Hex.lower_digits}
use Rattle.std.proofs.Common.{◌∙◌, ◌++◌, ap, arith, length}
use Rattle.yasir_ticks.proofs.DigitsAdded.{of-ok, long, goes_on}
use Rattle.yasir_ticks.proofs.hex_digits.push_digits.Goals as goal

pub loop-front-preserved : goal.loop-front-preserved
loop-front-preserved g c =
    let room = c.loop-front.invariant.0 in
    let more = c.in-Some.ensures.cases.2 in
    let size = ap length c.digits_of.ensures
    ∙ length-encode_with lower_digits c.in-Some.front.now in
    let front = c.in-Some.ensures.cases.0 in
    goes_on c.loop-front.line.items c.loop-front.rest.now c.in-Some.front.now c.in-Some.more.now
    c.try_extend_from_slice.new.self.items _ _ g.row.CAP front c.in-Some.ensures.cases.1
    (of-ok c.try_extend_from_slice.result _
    (c.try_extend_from_slice.ensures.variant.1 (omega (arith, room, more, size)))
    c.try_extend_from_slice.ensures.ok
    ∙ ap (λ l. c.loop-front.line.items ++ l) c.digits_of.ensures)
    c.loop-front.invariant

pub returns-clause-digits : goal.returns-clause-digits
returns-clause-digits g c = c.push_last.ensures ∙ c.loop-front.invariant.1

pub returns-clause-long : goal.returns-clause-long
returns-clause-long g c =
    long _ c.push_last.new.line.items _ (c.push_last.ensures ∙ c.loop-front.invariant.1)
