use Rattle.std.proofs.Common.{◌≡◌, ◌+◌, ◌*◌, ◌-◌, true, refl, arith}
use Rattle.yasir_ticks.specs.TickText.{is_decimal_digit}
use Rattle.yasir_ticks.proofs.Readers.{step_on, step_refused}
use Rattle.yasir_ticks.proofs.Steps.{accepts_digit, refuses_count, digit_not_lf}
use Rattle.yasir_ticks.proofs.reader.TickReader.in_number.Goals as goal

pub returns-then-next-le-MAX_SILENCE : goal.returns-then-next-le-MAX_SILENCE
returns-then-next-le-MAX_SILENCE c =
    let d : is_decimal_digit c.args.b ≡ true = grind arith in
    let e : c.from.result * 10 + c.from-in-48-to-57.result ≡ c.args.number * 10 + (c.args.b - 48) =
    rw (c.from.ensures, c.from-in-48-to-57.ensures) refl in
    step_on _ _ _ _ _ _ _ _ c.requires.place c.go.ensures.place c.go.ensures.bytes
    c.go.ensures.left c.go.ensures.line c.go.ensures.ok (digit_not_lf _ d)
    (rw e (accepts_digit _ _ _ _ d (omega arith)))

pub returns-else-next-le-MAX_SILENCE : goal.returns-else-next-le-MAX_SILENCE
returns-else-next-le-MAX_SILENCE c =
    let d : is_decimal_digit c.args.b ≡ true = grind arith in
    step_refused _ _ _ _ _ _ c.requires.place c.refuse.ensures.err c.refuse.ensures.place
    c.refuse.ensures.line
    (refuses_count c.args.number _ _ _ d (omega arith))
