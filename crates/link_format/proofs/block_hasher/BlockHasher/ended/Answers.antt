use Rattle.{link_format.proofs.Hashing.piece_on, sha2.specs.Sha256.padded_message}
use Rattle.std.proofs.Common.{◌≡◌, ℕ, List, ◌++◌, ◌+◌, ◌-◌, take, drop, ap, sym, subst, ◌∙◌, arith}
use Rattle.std.proofs.{Common.length-drop, lemmas.List.take_all}
use Rattle.link_format.proofs.block_hasher.BlockHasher.ended.Goals as goal

pub blocks-2-preserved : goal.blocks-2-preserved
blocks-2-preserved g c = (
  omega arith,
  λ m begun.
      let room : List ℕ = c.args.self.now.room in
      let from : ℕ = c.blocks-2.from in
      let size : from + 64 - from ≡ 64 = omega arith in
      let whole : take (128 - from) (drop from room) ≡ drop from room =
      take_all (128 - from) (drop from room) (omega (arith, length-drop from room)) in
      rw (← piece_on m room from (from + 64) (omega arith) (omega arith))
      (rw size (rw whole at
      (c.take_front.ensures (m ++ take from room) (c.blocks-2.invariant.1 m begun)))),
)

pub returns : goal.returns
returns g c = λ m held.
    let room : List ℕ = c.args.self.now.room in
    let from : ℕ = c.blocks-2.from in
    let all : ℕ = c.min-waiting.result in
    let is : all ≡ c.args.self.now.waiting = omega arith in
    subst (λ (message : List ℕ). g.V.HashValue.is_after c.ended.result (padded_message message))
    (piece_on held.front room from all (omega arith) (omega arith)
    ∙ ap (λ k. held.front ++ take k room) is ∙ sym held.waits)
    (c.ended.ensures (held.front ++ take from room)
    (c.blocks-2.invariant.1 held.front held.begun))
