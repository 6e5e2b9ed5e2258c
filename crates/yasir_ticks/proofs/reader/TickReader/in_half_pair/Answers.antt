use Rattle.std.proofs.Common.{is_some, refl, ap, sym}
use Rattle.yasir_ticks.proofs.{Readers.step_on, Steps.accepts_low, Steps.hex_not_lf}
use Rattle.yasir_ticks.proofs.reader.TickReader.in_half_pair.Goals as goal

pub returns-in-Some : goal.returns-in-Some
returns-in-Some c =
    let value = sym c.in-Some.ensures.value in
    step_on _ _ _ _ _ _ _ _ c.requires.place refl c.push.ensures.items refl refl refl
    (hex_not_lf _ (ap is_some value))
    (accepts_low _ _ _ c.args.high c.in-Some.low value)
