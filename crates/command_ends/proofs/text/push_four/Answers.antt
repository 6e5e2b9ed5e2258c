use Rattle.command_ends.proofs.Decimals.{four-held}
use Rattle.command_ends.proofs.text.push_four.Goals as goal
use Rattle.std.proofs.Common.{◌≤◌, ◌<◌, ◌^◌, arith}

pub returns-clause-digits : goal.returns-clause-digits
returns-clause-digits g c =
    let some : 100 ≤ c.args.n = omega arith in
    let small : c.args.n < 2 ^ 64 = omega arith in
    four-held c.args.n c.args.line.now.items c.push_pair.new.line.items c.push_two-2.new.line.items
    some small c.push_two-2.ensures.digits c.push_pair.ensures.digits
