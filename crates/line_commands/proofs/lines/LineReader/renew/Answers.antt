use Rattle.{line_commands.proofs.Reading.renewed, std.proofs.Common.refl, std.proofs.Common.arith}
use Rattle.line_commands.proofs.lines.LineReader.renew.Goals as goal

pub returns-clause-read : goal.returns-clause-read
returns-clause-read c = λ text has. renewed c.args.self.now _ text has (grind arith) c.new-self.ensures.stands refl (grind arith)
