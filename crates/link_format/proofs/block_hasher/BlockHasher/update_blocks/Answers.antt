use Rattle.std.proofs.Common.{◌≡◌, ℕ, List, ◌++◌, ◌+◌, ◌-◌, length, take, drop, arith, length-drop}
use Rattle.std.proofs.lemmas.List.{take_all}
use Rattle.link_format.proofs.Hashing.{piece_on, taken_block}
use Rattle.link_format.proofs.block_hasher.BlockHasher.update_blocks.Goals as goal

pub blocks-2-preserved : goal.blocks-2-preserved
blocks-2-preserved g c = (
  omega arith,
  omega arith,
  omega arith,
  λ m held.
      let part : List ℕ = c.args.part.now in
      let done : ℕ = c.blocks-2.done in
      let size : done + 64 - done ≡ 64 = omega arith in
      let whole : take (length part - done) (drop done part) ≡ drop done part =
      take_all (length part - done) (drop done part) (omega (arith, length-drop done part)) in
      rw (← piece_on m part done (done + 64) (omega arith) (omega arith))
      (taken_block g.V.HashValue.is_after c.blocks-2.self _ (m ++ take done part) _
      (c.blocks-2.invariant.3 m held) (omega arith)
      (λ blocks begun. rw size (rw whole at (c.take_front.ensures blocks begun)))
      (omega arith)),
)
