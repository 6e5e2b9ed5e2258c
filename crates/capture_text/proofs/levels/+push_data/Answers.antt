use Rattle.std.proofs.Common.{◌∙◌, ◌<◌, ◌++◌, sym, ap, arith}
use Rattle.std.proofs.lemmas.List.{append-nil}
use Rattle.capture_text.proofs.LevelLaws.{data_levels_none, data_more}
use Rattle.capture_text.proofs.levels.+push_data.Goals as goal

pub returns-then-count-eq0-clause-levels : goal.returns-then-count-eq0-clause-levels
returns-then-count-eq0-clause-levels t c =
    sym (append-nil c.args.levels.now.items)
    ∙ ap (λ x. c.args.levels.now.items ++ x)
    (sym (data_levels_none c.args.count c.args.byte c.if-count-eq0.true))

pub returns-clause-levels : goal.returns-clause-levels
returns-clause-levels t c =
    let some : 0 < c.args.count = omega arith in
    data_more c.args.levels.now.items c.push.new.self.items c.push_data.new.levels.items c.args.count
    c.args.byte some c.push.ensures.items c.push_data.ensures.levels
