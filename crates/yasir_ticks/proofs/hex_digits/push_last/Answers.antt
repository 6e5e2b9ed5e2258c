use Rattle.hex.{proofs.HexLemmas.length-encode_with, specs.Hex.lower_digits}
use Rattle.std.proofs.Common.{◌∙◌, ◌++◌, ap, arith, length, sym}
use Rattle.std.proofs.lemmas.Bool.{eqb-true}
use Rattle.yasir_ticks.proofs.DigitsAdded.{of-ok, front-digits, none-left}
use Rattle.yasir_ticks.proofs.hex_digits.push_last.Goals as goal

pub returns : goal.returns
returns g c =
    let digits = front-digits c.args.rest.now _ c.copy_from_slice.new.self c.digits_of.result
    c.copy_from_slice.ensures.after c.digits_of.ensures in
    let size = ap length digits ∙ length-encode_with lower_digits c.args.rest.now in
    let room = c.requires.room in
    of-ok c.try_extend_from_slice.result _
    (c.try_extend_from_slice.ensures.variant.1 (omega (arith, size, room)))
    c.try_extend_from_slice.ensures.ok
    ∙ ap (λ l. c.args.line.now.items ++ l) digits

pub returns-then-is_empty : goal.returns-then-is_empty
returns-then-is_empty g c =
    none-left c.args.line.now.items c.args.rest.now
    (eqb-true _ _ (sym c.is_empty.ensures ∙ c.if-is_empty.true))
