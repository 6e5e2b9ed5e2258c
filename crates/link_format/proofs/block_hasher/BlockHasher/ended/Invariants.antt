use Rattle.std.proofs.Common.{ℕ, List, ◌++◌, ◌≤◌, ◌-◌, take}
use Rattle.link_format.specs.Hashing.{HasBegun}
use Rattle.link_format.proofs.block_hasher.BlockHasher.ended.Given as goal

abbrev pub invariant-blocks-2 : goal.invariant-blocks-2
invariant-blocks-2 g l = (l.from ≤ l.waiting)
    × ((m : List ℕ) → HasBegun g.V.HashValue.is_after l.self.start m
    → HasBegun g.V.HashValue.is_after l.start (m ++ take l.from l.self.room))

abbrev pub decreases-blocks-2 : goal.decreases-blocks-2
decreases-blocks-2 g l = l.waiting - l.from
