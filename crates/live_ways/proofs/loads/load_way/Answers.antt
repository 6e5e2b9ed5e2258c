use Rattle.live_ways.proofs.loads.load_way.Goals as goal

pub returns-in-Ok-clause-any_moment : goal.returns-in-Ok-clause-any_moment
returns-in-Ok-clause-any_moment g c =
    λ one slots floor told is. c.in-Ok.ensures.crash slots floor told one is
