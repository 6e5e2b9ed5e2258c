-- The message that a hasher has taken piece by piece, given the blocks that a hash value is after.
use Rattle.std.specs.Prelude.{◌≡◌, ℕ, ◌%◌, ◌^◌, ◌≤◌, List, ◌++◌, length, take}
use Rattle.link_format.specs.declared.block_hasher.BlockHasher.{BlockHasher}
use Rattle.link_format.specs.declared.block_hasher.BlockStart.{BlockStart}

module _ {V : Type 0} (IsAfter : V → List ℕ → Type 0) where
  -- Holds if these whole blocks are hashed.
  pub record HasBegun (start : BlockStart V) (blocks : List ℕ) : Type 0 where
    pub whole : length blocks % 64 ≡ 0
    pub value : IsAfter start.value blocks
    pub count : start.hashed ≡ length blocks % 2 ^ 64

  -- Holds if the hasher has taken this message: whole blocks, which are hashed, and after them the
  -- bytes that wait, at most two blocks.
  pub record HasTaken (hasher : BlockHasher V) (message : List ℕ) : Type 0 where
    pub front : List ℕ
    pub begun : HasBegun hasher.start front
    pub within : hasher.waiting ≤ 128
    pub waits : message ≡ front ++ take hasher.waiting hasher.room
