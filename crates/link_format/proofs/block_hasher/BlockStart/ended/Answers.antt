use Rattle.std.proofs.Common.{◌++◌, subst, arith}
use Rattle.link_format.proofs.Hashing.{ended_block_short, ended_block_long, laid_whole}
use Rattle.link_format.proofs.block_hasher.BlockStart.ended.Goals as goal

pub returns-then-tail-lt-LENGTH_AT : goal.returns-then-tail-lt-LENGTH_AT
returns-then-tail-lt-LENGTH_AT g c = λ m begun.
    subst (g.V.HashValue.is_after c.closed.result)
    (ended_block_short m c.args.tail.now c.bytes_of-bits.result _ c.args.self.hashed begun.whole
    begun.count c.copy_from_slice.ensures.after (omega arith) c.bytes_of-bits.ensures)
    (c.closed.ensures m begun.whole begun.value)

pub returns : goal.returns
returns g c = λ m begun.
    subst (g.V.HashValue.is_after c.closed-2.result)
    (ended_block_long m c.args.tail.now c.bytes_of-bits.result _ c.args.self.hashed begun.whole
    begun.count c.copy_from_slice.ensures.after (omega arith) (omega arith)
    c.bytes_of-bits.ensures)
    (c.closed-2.ensures (m ++ _) (laid_whole m c.args.tail.now _ begun.whole
    c.copy_from_slice.ensures.after (omega arith))
    (c.take_block.ensures m begun.whole begun.value))
