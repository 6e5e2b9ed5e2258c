use Rattle.link_replay.proofs.Polls.{polls-by, polls-tell}
use Rattle.link_replay.proofs.commands.poll.poll.Goals as goal

pub returns-in-Ok-clause-polls : goal.returns-in-Ok-clause-polls
returns-in-Ok-clause-polls g c =
    let drawn = c.args.drawn in
    polls-by g.O.Sink g.L.Sink drawn.proto drawn.profile drawn.seed drawn.count _ _
    c.print_alone.result (record {
      text = c.in-Ok.line.items;
      line = c.in-Ok.ensures;
      tells = polls-tell c.polls_tell.ensures drawn.proto drawn.profile drawn.seed
          drawn.count c.in-Ok.line.items c.in-Ok.ensures;
      prints = rw c.as_slice.ensures.value at c.print_alone.ensures.prints;
    })
