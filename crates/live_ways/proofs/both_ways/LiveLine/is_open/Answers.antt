use Rattle.live_ways.proofs.Closing.{open_parts, closed_none}
use Rattle.live_ways.proofs.both_ways.LiveLine.is_open.Goals as goal

pub returns-in-Ok-clause-open : goal.returns-in-Ok-clause-open
returns-in-Ok-clause-open g c = λ e stream has. open_parts c.next.new.self stream c.in-Ok.field-0
    (c.in-Ok.ensures.parts stream has)

pub returns-in-Ok-clause-ended : goal.returns-in-Ok-clause-ended
returns-in-Ok-clause-ended g c = λ e. cc

pub returns-in-Err-clause-open : goal.returns-in-Err-clause-open
returns-in-Err-clause-open g c = λ e. cc

pub returns-in-Err-clause-ended : goal.returns-in-Err-clause-ended
returns-in-Err-clause-ended g c = λ e stream has.
    closed_none stream (c.in-Err.ensures.refused stream has).begins
