use Rattle.link_format.proofs.Hashing.{after_block, last_block}
use Rattle.std.proofs.Common.{refl, arith}
use Rattle.link_format.proofs.block_hasher.BlockStart.closed.Goals as goal

pub returns : goal.returns
returns g c = λ blocks whole after.
    after_block g.V.HashValue.is_after _ blocks _ _
    (last_block c.args.block c.args.bits.now _ 8 (omega arith) refl c.copy_from_slice.ensures.after)
    (c.take_block.ensures blocks whole after)
