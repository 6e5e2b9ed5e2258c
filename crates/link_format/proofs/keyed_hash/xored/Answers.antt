use Rattle.std.proofs.Common.{arith}
use Rattle.link_format.proofs.Xoring.{xored_none, xored_more, xored_all}
use Rattle.link_format.proofs.keyed_hash.xored.Goals as goal

pub loop-byte-init : goal.loop-byte-init
loop-byte-init c = xored_none _ _

pub loop-byte-preserved : goal.loop-byte-preserved
loop-byte-preserved c = xored_more _ _ _ _ (omega arith) c.loop-byte.invariant

pub returns : goal.returns
returns c = xored_all _ _ _ _ (omega arith) c.loop-byte.invariant
