use Rattle.{link_format.specs.Sha1Words.AreKeyed, sha1.specs.Sha1.rounds}
use Rattle.std.proofs.Common.{◌≡◌, ◌+◌, ◌*◌, ℕ, List}
use Rattle.link_format.proofs.sha1_block.first_rounds.Given as goal

abbrev pub invariant-choose : goal.invariant-choose
invariant-choose l = (words : List ℕ) → AreKeyed words l.keyed 80
    → l.v ≡ rounds l.state words (5 * l.group)

abbrev pub invariant-parity : goal.invariant-parity
invariant-parity l = (words : List ℕ) → AreKeyed words l.keyed 80
    → l.v ≡ rounds l.state words (20 + 5 * l.group)
