use Rattle.two_wire.proofs.{LinkApart.in-turn, Polling.polls-delivered}
use Rattle.two_wire.specs.Polls.{polls_of}
use Rattle.two_wire.proofs.laws.polls_are_delivered.Goals as goal

pub returns-clause-delivered : goal.returns-clause-delivered
returns-clause-delivered g c = λ p start polls more tags_ab some_ab tags_ba some_ba is.
    polls-delivered g.R.LineRules.rules g.R.LineRules.lawful g.R.LineRules.framed
    (polls_of p start polls more) tags_ab some_ab tags_ba some_ba
    (in-turn g.R.LineRules.rules g.R.LineRules.lawful p start polls more tags_ab some_ab tags_ba
    some_ba is)

pub returns-clause-in_turn : goal.returns-clause-in_turn
returns-clause-in_turn g c = λ p tags_ab some_ab tags_ba some_ba is.
    polls-delivered g.R.LineRules.rules g.R.LineRules.lawful g.R.LineRules.framed p tags_ab some_ab
    tags_ba some_ba is
