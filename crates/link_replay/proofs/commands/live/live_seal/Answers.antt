use Rattle.link_replay.proofs.commands.live.live_seal.Goals as goal

pub returns-in-Rtu-Y18-with_link-clause-seals : goal.returns-in-Rtu-Y18-with_link-clause-seals
returns-in-Rtu-Y18-with_link-clause-seals g c = rw (← c.link_of-link.ensures.link)
    (rw (c.in-Rtu-Y18-with_link.is-0, c.in-Rtu-Y18-with_link.is-1) c.live_over.ensures.lives)

pub returns-in-Rtu-Y18-with_link-clause-any_moment : goal.returns-in-Rtu-Y18-with_link-clause-any_moment
returns-in-Rtu-Y18-with_link-clause-any_moment g c =
    rw (← c.link_of-link.ensures.link) c.live_over.ensures.any_moment

pub returns-in-Dnp3-Y18-with_link-clause-seals : goal.returns-in-Dnp3-Y18-with_link-clause-seals
returns-in-Dnp3-Y18-with_link-clause-seals g c = rw (← c.link_of-link.ensures.link)
    (rw (c.in-Dnp3-Y18-with_link.is-0, c.in-Dnp3-Y18-with_link.is-1) c.live_over-3.ensures.lives)

pub returns-in-Dnp3-Y18-with_link-clause-any_moment : goal.returns-in-Dnp3-Y18-with_link-clause-any_moment
returns-in-Dnp3-Y18-with_link-clause-any_moment g c =
    rw (← c.link_of-link.ensures.link) c.live_over-3.ensures.any_moment

pub returns-in-Rtu-Y24-with_link-clause-seals : goal.returns-in-Rtu-Y24-with_link-clause-seals
returns-in-Rtu-Y24-with_link-clause-seals g c = rw (← c.link_of-link.ensures.link)
    (rw (c.in-Rtu-Y24-with_link.is-0, c.in-Rtu-Y24-with_link.is-1) c.live_over-2.ensures.lives)

pub returns-in-Rtu-Y24-with_link-clause-any_moment : goal.returns-in-Rtu-Y24-with_link-clause-any_moment
returns-in-Rtu-Y24-with_link-clause-any_moment g c =
    rw (← c.link_of-link.ensures.link) c.live_over-2.ensures.any_moment

pub returns-in-Dnp3-Y24-with_link-clause-seals : goal.returns-in-Dnp3-Y24-with_link-clause-seals
returns-in-Dnp3-Y24-with_link-clause-seals g c = rw (← c.link_of-link.ensures.link)
    (rw (c.in-Dnp3-Y24-with_link.is-0, c.in-Dnp3-Y24-with_link.is-1) c.live_over-4.ensures.lives)

pub returns-in-Dnp3-Y24-with_link-clause-any_moment : goal.returns-in-Dnp3-Y24-with_link-clause-any_moment
returns-in-Dnp3-Y24-with_link-clause-any_moment g c =
    rw (← c.link_of-link.ensures.link) c.live_over-4.ensures.any_moment
