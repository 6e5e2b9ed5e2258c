use Rattle.std.proofs.Common.{◌++◌, take, refl, arith}
use Rattle.link_format.proofs.Hashing.{taken_hashed}
use Rattle.link_format.proofs.block_hasher.BlockHasher.hash_room.Goals as goal

pub returns-clause-taken : goal.returns-clause-taken
returns-clause-taken g c = λ m held.
    taken_hashed g.V.HashValue.is_after c.args.self.now _ m held (omega arith) (omega arith) refl
    (rw c.split_at.ensures.back at
    (c.take_front-2.ensures (held.front ++ take 64 c.args.self.now.room)
    (c.take_front.ensures held.front held.begun)))
