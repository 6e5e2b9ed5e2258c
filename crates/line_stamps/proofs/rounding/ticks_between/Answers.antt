use Rattle.std.proofs.Common.{◌∙◌, sym, arith}
use Rattle.line_stamps.proofs.RoundingLaws.{rounded-least, apart-one, apart-nearest}
use Rattle.line_stamps.proofs.rounding.ticks_between.Goals as goal

pub returns-then-gap-character-clause-ticks : goal.returns-then-gap-character-clause-ticks
returns-then-gap-character-clause-ticks c =
    sym (apart-one c.args.character c.requires.some c.args.gap c.if-gap-character.true)

pub returns-clause-ticks : goal.returns-clause-ticks
returns-clause-ticks c =
    c.nearest.ensures
    ∙ sym (apart-nearest c.args.character c.requires.some c.args.gap c.if-gap-character.false
    c.if-gap-character-2.false)

pub returns-clause-some : goal.returns-clause-some
returns-clause-some c =
    let least = rounded-least c.args.character c.requires.some c.args.gap 1 (omega arith) in
    omega arith
