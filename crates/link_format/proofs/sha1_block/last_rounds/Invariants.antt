use Rattle.{link_format.specs.Sha1Words.AreKeyed, sha1.specs.Sha1.rounds}
use Rattle.std.proofs.Common.{◌≡◌, ◌+◌, ◌*◌, ℕ, List}
use Rattle.link_format.proofs.sha1_block.last_rounds.Given as goal

abbrev pub invariant-majority : goal.invariant-majority
invariant-majority l = (words h : List ℕ) → AreKeyed words l.keyed 80
    → l.state ≡ rounds h words 40 → l.v ≡ rounds h words (40 + 5 * l.group)

abbrev pub invariant-last : goal.invariant-last
invariant-last l = (words h : List ℕ) → AreKeyed words l.keyed 80
    → l.state ≡ rounds h words 40 → l.v ≡ rounds h words (60 + 5 * l.group)
