use Rattle.std.proofs.Common.{◌∙◌, ◌+◌, ◌*◌, [], ◌∷◌, ◌++◌, refl, ap}
use Rattle.yasir_ticks.proofs.WholeLines.{takes_few, one_pair}
use Rattle.yasir_ticks.proofs.reader.TickReader.take_pair_line.Goals as goal

pub returns-clause-whole : goal.returns-clause-whole
returns-clause-whole c = takes_few _ _ _ _ _ c.requires.place c.requires.place refl refl
    (c.push.ensures.items
    ∙ ap (λ l. l ++ (c.in_ok-high.high * 16 + c.in_ok-low.low) ∷ []) c.clear.ensures)
    (one_pair c.args.bytes.now _ _ c.requires.long c.requires.ends c.in_ok-high.ensures.value
    c.in_ok-low.ensures.value) refl
