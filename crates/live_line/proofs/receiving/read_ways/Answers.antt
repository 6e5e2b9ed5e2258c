use Rattle.live_line.proofs.HandingBoth.{read_some, read_failed}
use Rattle.live_line.proofs.receiving.read_ways.Goals as goal

pub returns-in-Ok-clause-bytes : goal.returns-in-Ok-clause-bytes
returns-in-Ok-clause-bytes g c = λ made start read handed.
    read_some made start (g.P.Port.history c.args.port.now) (g.P.Port.history c.read.new.self) read
    handed _ c.in-Ok.ensures.bytes

pub returns-in-Err-clause-err : goal.returns-in-Err-clause-err
returns-in-Err-clause-err g c = λ made start read handed.
    read_failed made start (g.P.Port.history c.args.port.now) (g.P.Port.history c.read.new.self)
    read handed c.in-Err.ensures.err
