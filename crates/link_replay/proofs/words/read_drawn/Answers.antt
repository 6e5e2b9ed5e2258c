use Rattle.{link_replay.proofs.Asking.drawn-counts, std.proofs.Common.arith}
use Rattle.link_replay.proofs.words.read_drawn.Goals as goal

pub returns-then-count-lt1-clause-usage : goal.returns-then-count-lt1-clause-usage
returns-then-count-lt1-clause-usage c = λ command asked.
    let within = drawn-counts c.args.first.now c.args.second.now c.args.seed.now c.args.count.now
    c.in_ok-count.count command c.requires c.in_ok-count.ensures.ok c.in_ok-count.ensures.small
    asked in
    omega (arith, within.0, c.if-count-lt1.true)

pub returns-then-count-gt-MOST_FRAMES-clause-usage :
    goal.returns-then-count-gt-MOST_FRAMES-clause-usage
returns-then-count-gt-MOST_FRAMES-clause-usage c = λ command asked.
    let within = drawn-counts c.args.first.now c.args.second.now c.args.seed.now c.args.count.now
    c.in_ok-count.count command c.requires c.in_ok-count.ensures.ok c.in_ok-count.ensures.small
    asked in
    omega (arith, within.1, c.if-count-gt-MOST_FRAMES.true)
