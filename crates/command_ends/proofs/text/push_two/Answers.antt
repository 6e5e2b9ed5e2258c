use Rattle.command_ends.proofs.Decimals.{one-held, two-held}
use Rattle.command_ends.proofs.text.push_two.Goals as goal
use Rattle.std.proofs.Common.{◌≤◌, arith}

pub returns-then-n-lt10-clause-digits : goal.returns-then-n-lt10-clause-digits
returns-then-n-lt10-clause-digits g c =
    one-held c.args.n c.args.line.now.items c.push.new.self.items c.ones.result c.if-n-lt10.true
    c.ones.ensures c.push.ensures.items

pub returns-clause-digits : goal.returns-clause-digits
returns-clause-digits g c =
    let some : 10 ≤ c.args.n = omega arith in
    two-held c.args.n c.args.line.now.items c.push_pair.new.line.items some c.requires.few
    c.push_pair.ensures.digits
