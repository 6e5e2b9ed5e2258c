use Rattle.{line_commands.proofs.Reading.read_none, std.proofs.Common.refl}
use Rattle.line_commands.proofs.lines.LineReader.new.Goals as goal

pub returns : goal.returns
returns c = read_none _ c.new.ensures.stands refl refl
