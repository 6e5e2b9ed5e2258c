use Rattle.std.proofs.Common.{◌≡◌, ℕ, List, ◌++◌, ◌<◌, ◌≤◌, ◌-◌, length, take}
use Rattle.link_format.specs.Hashing.{HasTaken}
use Rattle.link_format.proofs.block_hasher.BlockHasher.update_blocks.Given as goal

abbrev pub invariant-blocks-2 : goal.invariant-blocks-2
invariant-blocks-2 g l = (l.done ≤ length l.part) × (l.self.waiting ≡ 0)
    × (0 < length l.part - l.done)
    × ((m : List ℕ) → HasTaken g.V.HashValue.is_after l.fn.self m
    → HasTaken g.V.HashValue.is_after l.self (m ++ take l.done l.part))

abbrev pub decreases-blocks-2 : goal.decreases-blocks-2
decreases-blocks-2 g l = length l.part - l.done
