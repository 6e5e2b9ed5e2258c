use Rattle.hex.{proofs.HexLemmas.length-encode_with, specs.Hex.lower_digits}
use Rattle.std.proofs.Common.{◌∙◌, ◌-◌, ◌++◌, ap, arith, length}
use Rattle.yasir_ticks.proofs.DigitsAdded.{long, goes_on}
use Rattle.command_ends.proofs.waiting.append_digits.Goals as goal

pub append-requires : goal.append-requires
append-requires g c =
    let size = ap length c.digits_of.ensures
    ∙ length-encode_with lower_digits c.in-Some.front.now in
    omega (arith, c.requires, c.loop-front.invariant.0, c.in-Some.ensures.cases.2, size)

pub loop-front-preserved : goal.loop-front-preserved
loop-front-preserved g c =
    goes_on c.loop-front.text.items c.loop-front.rest.now c.in-Some.front.now c.in-Some.more.now
    c.append.new.self.items _ _ (g.row.CAP - 64) c.in-Some.ensures.cases.0
    c.in-Some.ensures.cases.1
    (c.append.ensures ∙ ap (λ l. c.loop-front.text.items ++ l) c.digits_of.ensures)
    c.loop-front.invariant

pub returns-clause-digits : goal.returns-clause-digits
returns-clause-digits g c = c.append_last.ensures ∙ c.loop-front.invariant.1

pub returns-clause-long : goal.returns-clause-long
returns-clause-long g c =
    long _ c.append_last.new.text.items _ (c.append_last.ensures ∙ c.loop-front.invariant.1)
