use Rattle.{line_rules.proofs.Taking.HasTaken, std.proofs.Common.◌≡◌}
use Rattle.line_rules.proofs.line_rules.LineRules.take_some.Given as goal

abbrev pub invariant-loop-byte : goal.invariant-loop-byte
invariant-loop-byte g l = (l.taken ≡ l.byte-index)
    × HasTaken g.Self.LineRules.rules g.Self.LineRules.stands l.fn.self l.part l.self l.taken
