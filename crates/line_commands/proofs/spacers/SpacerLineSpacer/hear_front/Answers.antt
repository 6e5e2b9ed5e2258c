use Rattle.line_commands.specs.SpacedTexts.{most_waiting}
use Rattle.line_commands.proofs.spacers.SpacerLineSpacer.hear_front.Goals as goal

pub returns-clause-owes : goal.returns-clause-owes
returns-clause-owes g c = λ line owed owes. c.hear_some.ensures.owes most_waiting line owed owes
