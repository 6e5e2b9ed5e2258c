use Rattle.link_replay.proofs.commands.check.check.Goals as goal

pub returns-in-Rtu-Y18-with_link-clause-checks : goal.returns-in-Rtu-Y18-with_link-clause-checks
returns-in-Rtu-Y18-with_link-clause-checks g c = rw (← c.link_of-link.ensures.link)
    (rw (c.in-Rtu-Y18-with_link.is-0, c.in-Rtu-Y18-with_link.is-1) c.replay_box.ensures.replays)

pub returns-in-Rtu-Y18-with_link-clause-any_moment : goal.returns-in-Rtu-Y18-with_link-clause-any_moment
returns-in-Rtu-Y18-with_link-clause-any_moment g c =
    rw (← c.link_of-link.ensures.link) c.replay_box.ensures.any_moment

pub returns-in-Dnp3-Y18-with_link-clause-checks : goal.returns-in-Dnp3-Y18-with_link-clause-checks
returns-in-Dnp3-Y18-with_link-clause-checks g c = rw (← c.link_of-link.ensures.link)
    (rw (c.in-Dnp3-Y18-with_link.is-0, c.in-Dnp3-Y18-with_link.is-1) c.replay_box-3.ensures.replays)

pub returns-in-Dnp3-Y18-with_link-clause-any_moment : goal.returns-in-Dnp3-Y18-with_link-clause-any_moment
returns-in-Dnp3-Y18-with_link-clause-any_moment g c =
    rw (← c.link_of-link.ensures.link) c.replay_box-3.ensures.any_moment

pub returns-in-Rtu-Y24-with_link-clause-checks : goal.returns-in-Rtu-Y24-with_link-clause-checks
returns-in-Rtu-Y24-with_link-clause-checks g c = rw (← c.link_of-link.ensures.link)
    (rw (c.in-Rtu-Y24-with_link.is-0, c.in-Rtu-Y24-with_link.is-1) c.replay_box-2.ensures.replays)

pub returns-in-Rtu-Y24-with_link-clause-any_moment : goal.returns-in-Rtu-Y24-with_link-clause-any_moment
returns-in-Rtu-Y24-with_link-clause-any_moment g c =
    rw (← c.link_of-link.ensures.link) c.replay_box-2.ensures.any_moment

pub returns-in-Dnp3-Y24-with_link-clause-checks : goal.returns-in-Dnp3-Y24-with_link-clause-checks
returns-in-Dnp3-Y24-with_link-clause-checks g c = rw (← c.link_of-link.ensures.link)
    (rw (c.in-Dnp3-Y24-with_link.is-0, c.in-Dnp3-Y24-with_link.is-1) c.replay_box-4.ensures.replays)

pub returns-in-Dnp3-Y24-with_link-clause-any_moment : goal.returns-in-Dnp3-Y24-with_link-clause-any_moment
returns-in-Dnp3-Y24-with_link-clause-any_moment g c =
    rw (← c.link_of-link.ensures.link) c.replay_box-4.ensures.any_moment
