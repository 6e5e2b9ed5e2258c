use Rattle.line_stamps.{proofs.Clocks.line-length, specs.Places.next_tick}
use Rattle.std.proofs.Common.{◌∙◌, None, ap, arith}
use Rattle.line_stamps.proofs.placer.Placer.ticks.Goals as goal

pub returns : goal.returns
returns c = λ cs had.
    let whole = line-length c.args.self.now.timing None cs in
    let last = c.next_tick.ensures ∙ ap next_tick had.stands in
    omega arith
