use Rattle.std.proofs.Common.{refl, sym}
use Rattle.link_replay.proofs.commands.poll.line_of_polls.Goals as goal

pub polls_line-requires-clause-same : goal.polls_line-requires-clause-same
polls_line-requires-clause-same c = λ setup line. refl

pub polls_line-requires-2-clause-same : goal.polls_line-requires-2-clause-same
polls_line-requires-2-clause-same c = λ setup line. refl

pub polls_line-requires-3-clause-same : goal.polls_line-requires-3-clause-same
polls_line-requires-3-clause-same c = λ setup line. refl

pub polls_line-requires-4-clause-same : goal.polls_line-requires-4-clause-same
polls_line-requires-4-clause-same c = λ setup line. refl

pub returns-in-Rtu-Y18-with_link : goal.returns-in-Rtu-Y18-with_link
returns-in-Rtu-Y18-with_link c =
    rw (sym c.link_word-name.ensures.word, c.in-Rtu-Y18-with_link.is-0, c.in-Rtu-Y18-with_link.is-1)
    c.polls_line.ensures

pub returns-in-Rtu-Y24-with_link : goal.returns-in-Rtu-Y24-with_link
returns-in-Rtu-Y24-with_link c =
    rw (sym c.link_word-name.ensures.word, c.in-Rtu-Y24-with_link.is-0, c.in-Rtu-Y24-with_link.is-1)
    c.polls_line-2.ensures

pub returns-in-Dnp3-Y18-with_link : goal.returns-in-Dnp3-Y18-with_link
returns-in-Dnp3-Y18-with_link c =
    rw (sym c.link_word-name.ensures.word, c.in-Dnp3-Y18-with_link.is-0, c.in-Dnp3-Y18-with_link.is-1)
    c.polls_line-3.ensures

pub returns-in-Dnp3-Y24-with_link : goal.returns-in-Dnp3-Y24-with_link
returns-in-Dnp3-Y24-with_link c =
    rw (sym c.link_word-name.ensures.word, c.in-Dnp3-Y24-with_link.is-0, c.in-Dnp3-Y24-with_link.is-1)
    c.polls_line-4.ensures
