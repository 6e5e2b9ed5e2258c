-- Laws on what a crash at any moment of some calls may leave.
use Rattle.std.specs.Prelude.{ℕ, ◌≤◌, ◌⊎◌}
use Rattle.std.proofs.Common.{inl, inr, arith}
use Rattle.yasir_io.specs.Disks.{Slots, LeavesOnly}

module _ {D : Type 0} (moment : D → ℕ) (left_since : D → ℕ → Slots → Type 0) where
  -- If some calls leave only images that have P, and so do the calls after them, then all these
  -- calls do.
  pub leaves_then : (old mid new : D) (P : Slots → Type 0)
      → LeavesOnly moment left_since old mid P → LeavesOnly moment left_since mid new P
      → LeavesOnly moment left_since old new P
  leaves_then old mid new P first second =
      let later : moment old ≤ moment mid = first.later in
      record {
        later = omega (arith, first.later, second.later);
        each = λ c left. elim (second.before (moment old) c later left) as (λ _. P c) [
          | inl past ↦ first.each c past
          | inr now ↦ now
        ];
        before = λ t c le left. elim (second.before t c (omega (arith, le, later)) left)
            as (λ _. left_since old t c ⊎ P c) [
              | inl past ↦ first.before t c le past
              | inr now ↦ inr now
            ];
      }

  -- If calls leave only images that have P, and P implies Q, they leave only images that have Q.
  pub leaves_weaker : (old new : D) (P Q : Slots → Type 0) → ((c : Slots) → P c → Q c)
      → LeavesOnly moment left_since old new P → LeavesOnly moment left_since old new Q
  leaves_weaker old new P Q weaker leaves = record {
    later = leaves.later;
    each = λ c left. weaker c (leaves.each c left);
    before = λ t c le left. elim (leaves.before t c le left) as (λ _. left_since old t c ⊎ Q c) [
      | inl past ↦ inl past
      | inr now ↦ inr (weaker c now)
    ];
  }
