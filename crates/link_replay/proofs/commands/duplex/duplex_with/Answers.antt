use Rattle.link_replay.proofs.Duplexed.{reads-right}
use Rattle.link_replay.proofs.commands.duplex.duplex_with.Goals as goal

pub returns-in-Ok-clause-duplexes : goal.returns-in-Ok-clause-duplexes
returns-in-Ok-clause-duplexes g c =
    let met = c.in-Ok.ensures.key in
    reads-right g.K.Source c.args.ends.key.now c.read_key.new.source _ _ _ c.duplex_keyed.result met.0
    c.in-Ok.key.items c.duplex_keyed.ensures.key met.1 met.2 c.in-Ok.ensures.cause (λ place h. h)
    (rw c.as_slice.ensures.value at c.duplex_keyed.ensures.duplexes)
