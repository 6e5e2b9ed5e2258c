use Rattle.poll_laws.proofs.PollingOn.{delivered-then}
use Rattle.poll_laws.proofs.laws.polls_are_delivered_again.Goals as goal
use Rattle.two_wire.proofs.LinkApart.{in-turn}
use Rattle.two_wire.specs.Polls.{polls_of}

pub returns-clause-delivered : goal.returns-clause-delivered
returns-clause-delivered g c = λ p start polls more most before_a before_b tags_ab some_ab tags_ba
    some_ba timely_ab timely_ba lack rested is.
    delivered-then g.R.LineRules.rules g.R.LineRules.lawful g.R.LineRules.headed
    g.R.LineRules.framed (polls_of p start polls more) tags_ab some_ab tags_ba some_ba timely_ab
    timely_ba most lack before_a before_b rested
    (in-turn g.R.LineRules.rules g.R.LineRules.lawful p start polls more tags_ab some_ab tags_ba
    some_ba is)

pub returns-clause-in_turn : goal.returns-clause-in_turn
returns-clause-in_turn g c = λ p most before_a before_b tags_ab some_ab tags_ba some_ba timely_ab
    timely_ba lack rested is.
    delivered-then g.R.LineRules.rules g.R.LineRules.lawful g.R.LineRules.headed
    g.R.LineRules.framed p tags_ab some_ab tags_ba some_ba timely_ab timely_ba most lack before_a
    before_b rested is
