use Rattle.std.proofs.Common.{◌∙◌, arith, sym}
use Rattle.link_replay.proofs.Asking.{spelled-one}
use Rattle.link_replay.proofs.words.read_ticks.Goals as goal

pub returns-then-n-gt-MOST_TICKS-clause-usage : goal.returns-then-n-gt-MOST_TICKS-clause-usage
returns-then-n-gt-MOST_TICKS-clause-usage c = λ m few spelled.
    let same = spelled-one m c.in_ok-n.n (omega (arith, few)) (omega (arith, c.in_ok-n.ensures.small))
    (sym spelled ∙ c.in_ok-n.ensures.ok) in
    omega (arith, same, few, c.if-n-gt-MOST_TICKS.true)
