use Rattle.frame_ending.proofs.Runs.{stands-bytes, cuts-bytes, quiet-not_live, over-not_live}
use Rattle.std.proofs.{Common.arith, lemmas.Bool.or_left, lemmas.Bool.or_right}
use Rattle.frame_ending.proofs.burst_cut.BurstCut.go_on_some.Goals as goal

pub returns-then-self-ge-T3_5_TICKS-clause-all : goal.returns-then-self-ge-T3_5_TICKS-clause-all
returns-then-self-ge-T3_5_TICKS-clause-all g c = λ fewer line b stands is.
    quiet-not_live g.R.LineRules c.args.self.now line stands b is c.if-self-ge-T3_5_TICKS.true

pub returns-then-self-clause-all : goal.returns-then-self-clause-all
returns-then-self-clause-all g c = λ fewer line b stands is.
    over-not_live g.R.LineRules c.args.self.now line stands b is _ c.if-self-ge-T3_5_TICKS.false
    (g.R.LineRules.fullness c.args.self.now.rules _ stands.bytes)
    (or_left _ _ c.if-self.true)

pub returns-then-count-gt0-clause-stands : goal.returns-then-count-gt0-clause-stands
returns-then-count-gt0-clause-stands g c = λ line old.
    let taken = c.take_some-count.ensures in
    stands-bytes g.R.LineRules c.args.self.now c.take_some-count.new.self c.args.bytes.now
    c.take_some-count.result c.if-self-ge-T3_5_TICKS.false c.if-self.false taken.within
    taken.stands taken.room line old c.if-count-gt0.true _ _ (omega arith) (omega arith)

pub returns-then-count-gt0-clause-live : goal.returns-then-count-gt0-clause-live
returns-then-count-gt0-clause-live g c = λ line old.
    let taken = c.take_some-count.ensures in
    cuts-bytes g.R.LineRules c.args.self.now c.take_some-count.new.self c.args.bytes.now
    c.take_some-count.result c.if-self-ge-T3_5_TICKS.false c.if-self.false taken.within
    taken.stands taken.room line old

pub returns-then-count-gt0-clause-all : goal.returns-then-count-gt0-clause-all
returns-then-count-gt0-clause-all g c = λ fewer line b stands is.
    over-not_live g.R.LineRules _ line stands b is _ (omega arith)
    (g.R.LineRules.fullness c.take_some-count.new.self _ stands.bytes)
    (or_right _ _ (c.take_some-count.ensures.all fewer))

pub returns-else-count-gt0-clause-all : goal.returns-else-count-gt0-clause-all
returns-else-count-gt0-clause-all g c = λ fewer line b stands is.
    over-not_live g.R.LineRules _ line stands b is _ c.if-self-ge-T3_5_TICKS.false
    (g.R.LineRules.fullness c.take_some-count.new.self _ stands.bytes)
    (or_right _ _ (c.take_some-count.ensures.all fewer))
