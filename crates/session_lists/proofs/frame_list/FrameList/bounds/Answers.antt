use Rattle.session_lists.proofs.Lists.{rises-by, short-by, frame-by, ends-within}
use Rattle.session_lists.proofs.frame_list.FrameList.bounds.Goals as goal

pub returns-then-index-eq0-clause-end : goal.returns-then-index-eq0-clause-end
returns-then-index-eq0-clause-end g c = rw c.index.ensures
    (ends-within c.args.self.now c.args.index _ c.requires.within c.requires.whole)

pub returns-clause-rise : goal.returns-clause-rise
returns-clause-rise g c = rises-by c.args.self.now c.args.index _ _ _ _ c.if-index-eq0.false
    c.requires.within c.index.ensures c.index-2.ensures c.requires.whole

pub returns-clause-end : goal.returns-clause-end
returns-clause-end g c = rw c.index.ensures
    (ends-within c.args.self.now c.args.index _ c.requires.within c.requires.whole)

pub returns-clause-frame : goal.returns-clause-frame
returns-clause-frame g c = frame-by c.args.self.now c.args.index _ _ _ _ c.if-index-eq0.false
    c.requires.within c.index.ensures c.index-2.ensures

pub returns-clause-short : goal.returns-clause-short
returns-clause-short g c = short-by c.args.self.now c.args.index _ _ _ _ c.if-index-eq0.false
    c.requires.within c.index.ensures c.index-2.ensures c.requires.whole
