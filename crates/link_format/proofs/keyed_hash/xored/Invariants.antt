use Rattle.link_format.proofs.Xoring.{IsXoredUpTo}
use Rattle.link_format.proofs.keyed_hash.xored.Given as goal

abbrev pub invariant-loop-byte : goal.invariant-loop-byte
invariant-loop-byte l = IsXoredUpTo l.pad l.fn.block l.byte-index l.byte-items
