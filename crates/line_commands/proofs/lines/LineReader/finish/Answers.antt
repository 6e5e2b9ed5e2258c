use Rattle.line_commands.proofs.Reading.{finished, finished_refused}
use Rattle.line_commands.proofs.lines.LineReader.finish.Goals as goal

pub returns-in-Ok-clause-answer : goal.returns-in-Ok-clause-answer
returns-in-Ok-clause-answer c = λ text has. finished c.args.self text _ has c.in-Ok.ensures.right

pub returns-in-Err-clause-answer : goal.returns-in-Err-clause-answer
returns-in-Err-clause-answer c = λ text has. finished_refused c.args.self text c.in-Err.bad _ has
    c.in-Err.ensures.refused c.in_text.ensures.line c.in_text.ensures.why
