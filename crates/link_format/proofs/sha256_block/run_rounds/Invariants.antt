use Rattle.{link_format.specs.Sha256Words.AreKeyed, sha2.specs.Sha256.rounds}
use Rattle.std.proofs.Common.{◌≡◌, ◌*◌, ℕ, List}
use Rattle.link_format.proofs.sha256_block.run_rounds.Given as goal

abbrev pub invariant-groups : goal.invariant-groups
invariant-groups l = (words : List ℕ) → AreKeyed words l.keyed 64
    → l.v ≡ rounds l.state words (8 * l.group)
