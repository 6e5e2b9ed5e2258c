use Rattle.line_commands.proofs.Handing.{read_some, read_failed}
use Rattle.line_commands.proofs.receiving.read_on.Goals as goal

pub returns-in-Ok-clause-bytes : goal.returns-in-Ok-clause-bytes
returns-in-Ok-clause-bytes g c = λ made start read handed.
    read_some made start (g.P.Port.history c.args.port.now) (g.P.Port.history c.read.new.self) read
    handed _ c.in-Ok.ensures.bytes

pub returns-in-Err-clause-err : goal.returns-in-Err-clause-err
returns-in-Err-clause-err g c = λ made start read handed.
    read_failed made start (g.P.Port.history c.args.port.now) (g.P.Port.history c.read.new.self)
    read handed c.in-Err.ensures.err
