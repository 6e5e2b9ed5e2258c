use Rattle.line_commands.specs.SpacedTexts.{most_waiting}
use Rattle.line_commands.proofs.spacers.SpacerLineSpacer.give_front.Goals as goal

pub returns-clause-owes : goal.returns-clause-owes
returns-clause-owes g c = λ line ticks long owes.
    c.give_some.ensures.owes most_waiting line ticks long owes

pub returns-clause-answer : goal.returns-clause-answer
returns-clause-answer g c = λ line ticks long owes.
    c.give_some.ensures.answer most_waiting line ticks long owes
