use Rattle.line_commands.specs.SpacedTexts.{most_waiting}
use Rattle.line_commands.proofs.spacers.SpacerLineSpacer.queue_read.Goals as goal

pub returns-clause-owes : goal.returns-clause-owes
returns-clause-owes g c = λ is start line ticks long owes.
    c.queue_read.ensures.owes is most_waiting start line ticks long owes
