use Rattle.std.proofs.Common.{sym}
use Rattle.link_replay.proofs.commands.trial.line_of_session.Goals as goal

pub returns-in-Rtu-Y18-with_link : goal.returns-in-Rtu-Y18-with_link
returns-in-Rtu-Y18-with_link c =
    rw (sym c.link_word-name.ensures.word, c.in-Rtu-Y18-with_link.is-0, c.in-Rtu-Y18-with_link.is-1)
    c.session_line.ensures

pub returns-in-Rtu-Y24-with_link : goal.returns-in-Rtu-Y24-with_link
returns-in-Rtu-Y24-with_link c =
    rw (sym c.link_word-name.ensures.word, c.in-Rtu-Y24-with_link.is-0, c.in-Rtu-Y24-with_link.is-1)
    c.session_line-2.ensures

pub returns-in-Dnp3-Y18-with_link : goal.returns-in-Dnp3-Y18-with_link
returns-in-Dnp3-Y18-with_link c =
    rw (sym c.link_word-name.ensures.word, c.in-Dnp3-Y18-with_link.is-0, c.in-Dnp3-Y18-with_link.is-1)
    c.session_line-3.ensures

pub returns-in-Dnp3-Y24-with_link : goal.returns-in-Dnp3-Y24-with_link
returns-in-Dnp3-Y24-with_link c =
    rw (sym c.link_word-name.ensures.word, c.in-Dnp3-Y24-with_link.is-0, c.in-Dnp3-Y24-with_link.is-1)
    c.session_line-4.ensures
