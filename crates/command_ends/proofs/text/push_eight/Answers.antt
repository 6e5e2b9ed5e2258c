use Rattle.command_ends.proofs.Decimals.{eight-held}
use Rattle.command_ends.proofs.text.push_eight.Goals as goal
use Rattle.std.proofs.Common.{◌<◌, ◌^◌, arith}

pub returns-clause-digits : goal.returns-clause-digits
returns-clause-digits g c =
    let small : c.args.n < 2 ^ 64 = omega arith in
    eight-held c.args.n c.args.line.now.items c.push_four.new.line.items c.push_pair.new.line.items
    c.push_pair-2.new.line.items c.requires.some small c.push_four.ensures.digits
    c.push_pair.ensures.digits c.push_pair-2.ensures.digits
