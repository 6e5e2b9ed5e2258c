use Rattle.std.proofs.Common.{rules, arith}
use Rattle.yasir_io.proofs.FileLemmas.{read_more, read_none}
use Rattle.yasir_io.proofs.lazy_file.read_up_to.Goals as goal

pub returns-then-n-eq0-clause-taken : goal.returns-then-n-eq0-clause-taken
returns-then-n-eq0-clause-taken g c =
    read_none _ _ _ _ _ _ _ c.loop-len.invariant.within c.in_ok-n.ensures.bound.0 c.if-n-eq0.true
    c.loop-len.invariant.taken c.in_ok-n.ensures.bytes.0

pub returns-then-n-eq0-clause-end : goal.returns-then-n-eq0-clause-end
returns-then-n-eq0-clause-end g c more = c.in_ok-n.ensures.bytes.1 c.if-n-eq0.true (omega arith)

pub loop-len-preserved : goal.loop-len-preserved
loop-len-preserved g c = record {
  same = search rules;
  within = search rules;
  taken = read_more _ _ _ _ _ _ _ c.loop-len.invariant.within c.in_ok-n.ensures.bound.0
      c.loop-len.invariant.taken c.in_ok-n.ensures.bytes.0;
}
