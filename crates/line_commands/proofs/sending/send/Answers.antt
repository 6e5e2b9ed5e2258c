use Rattle.line_commands.proofs.SentBytes.{broken_write, broken_flush, both_sent}
use Rattle.line_commands.proofs.sending.send.Goals as goal

pub returns-in-Err : goal.returns-in-Err
returns-in-Err g c = broken_write g.P.Port c.args.port.now c.write.new.self c.args.to
    c.args.bytes.now _ c.in-Err.ensures.wrote c.in-Err.ensures.cause (c.in-Err.ensures.beside, c.in-Err.ensures.input)

pub returns-in-Ok-flush : goal.returns-in-Ok-flush
returns-in-Ok-flush g c = both_sent g.P.Port c.args.port.now c.write.new.self c.flush.new.self
    c.args.to c.args.bytes.now c.in-Ok.ensures.wrote c.in-Ok.ensures.cause (c.in-Ok.ensures.beside, c.in-Ok.ensures.input)
    c.in-Ok-flush.ensures.ok c.in-Ok-flush.ensures.cause (c.in-Ok-flush.ensures.beside, c.in-Ok-flush.ensures.input)

pub returns-in-Err-flush : goal.returns-in-Err-flush
returns-in-Err-flush g c = broken_flush g.P.Port c.args.port.now c.write.new.self c.flush.new.self
    c.args.to c.args.bytes.now c.in-Ok.ensures.wrote c.in-Ok.ensures.cause (c.in-Ok.ensures.beside, c.in-Ok.ensures.input) _
    c.in-Err-flush.ensures.err c.in-Err-flush.ensures.cause (c.in-Err-flush.ensures.beside, c.in-Err-flush.ensures.input)
