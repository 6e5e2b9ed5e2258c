use Rattle.command_ends.proofs.Decimals.{pair-held}
use Rattle.command_ends.proofs.text.push_pair.Goals as goal

pub returns-clause-digits : goal.returns-clause-digits
returns-clause-digits g c =
    pair-held c.args.n c.args.line.now.items c.push-2.new.self.items c.tens.result c.ones.result
    c.push.new.self.items c.tens.ensures c.ones.ensures c.push.ensures.items c.push-2.ensures.items
