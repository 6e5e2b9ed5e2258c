use Rattle.std.proofs.Common.{ℕ, refl, arith, Some, None}
use Rattle.frame_ending.specs.SoFar.{live_bytes_so_far}
use Rattle.sequence_journal.specs.Journal.{journal_floor}
use Rattle.check_receiver.proofs.Weighing.{last-frame, number-in, wrong-number, wrong-tag, right-tag}
use Rattle.check_receiver.proofs.checker.Checker.verdict.Goals as goal

pub returns-in_default-clause-judged : goal.returns-in_default-clause-judged
returns-in_default-clause-judged g c = λ setup line d cuts last mac_is long.
    let good = last-frame g.R.LineRules.rules line d c.good.result
    (c.good.ensures (live_bytes_so_far g.R.LineRules.rules line) (c.rules.ensures line cuts)) last
    c.if-not-good.false in
    wrong-number g.R.LineRules g.M.Mac setup d mac_is long (journal_floor c.args.journal.now)
    c.floor-floor.result c.floor-floor.ensures.value None (λ all. c.in_default.ensures all) good refl

pub returns-then-number-floor-clause-judged : goal.returns-then-number-floor-clause-judged
returns-then-number-floor-clause-judged g c = λ setup line d cuts last mac_is long.
    let n : ℕ = c.in-Some.number in
    let above = (number-in g.R.LineRules g.M.Mac setup d mac_is long
    (journal_floor c.args.journal.now) c.floor-floor.result c.floor-floor.ensures.value (Some n)
    (λ all. c.in-Some.ensures all) n refl).0 in
    let same = c.floor-floor.ensures.value in
    let below = c.if-number-floor.true in
    absurd (omega arith)

pub returns-then-number-gt-LIMIT-clause-judged : goal.returns-then-number-gt-LIMIT-clause-judged
returns-then-number-gt-LIMIT-clause-judged g c = λ setup line d cuts last mac_is long.
    let n : ℕ = c.in-Some.number in
    let within = (number-in g.R.LineRules g.M.Mac setup d mac_is long
    (journal_floor c.args.journal.now) c.floor-floor.result c.floor-floor.ensures.value (Some n)
    (λ all. c.in-Some.ensures all) n refl).1 in
    let past = c.if-number-gt-LIMIT.true in
    absurd (omega arith)

pub returns-then-not-has_tag_of-clause-judged : goal.returns-then-not-has_tag_of-clause-judged
returns-then-not-has_tag_of-clause-judged g c = λ setup line d cuts last mac_is long.
    let n : ℕ = c.in-Some.number in
    let good = last-frame g.R.LineRules.rules line d c.good.result
    (c.good.ensures (live_bytes_so_far g.R.LineRules.rules line) (c.rules.ensures line cuts)) last
    c.if-not-good.false in
    wrong-tag g.R.LineRules g.M.Mac setup d mac_is long (journal_floor c.args.journal.now)
    c.floor-floor.result c.floor-floor.ensures.value (Some n) (λ all. c.in-Some.ensures all) good n
    refl c.has_tag_of.result c.has_tag_of.ensures.compared c.if-not-has_tag_of.true

pub returns-clause-judged : goal.returns-clause-judged
returns-clause-judged g c = λ setup line d cuts last mac_is long.
    let n : ℕ = c.in-Some.number in
    let good = last-frame g.R.LineRules.rules line d c.good.result
    (c.good.ensures (live_bytes_so_far g.R.LineRules.rules line) (c.rules.ensures line cuts)) last
    c.if-not-good.false in
    right-tag g.R.LineRules g.M.Mac setup d mac_is long (journal_floor c.args.journal.now)
    c.floor-floor.result c.floor-floor.ensures.value (Some n) (λ all. c.in-Some.ensures all) good n
    refl c.has_tag_of.result c.has_tag_of.ensures.compared c.if-not-has_tag_of.false
