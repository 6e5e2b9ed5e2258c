use Rattle.line_commands.proofs.StreamLemmas.{wrote_out, wrote_log}
use Rattle.line_commands.proofs.streams.StreamsPort.write.Goals as goal

pub returns-in-Out-clause-wrote : goal.returns-in-Out-clause-wrote
returns-in-Out-clause-wrote g c = wrote_out c.args.to c.args.piece.now c.write_all.result
    c.in-Out.is c.write_all.ensures.ok c.write_all.ensures.err

pub returns-in-Log-clause-wrote : goal.returns-in-Log-clause-wrote
returns-in-Log-clause-wrote g c = wrote_log c.args.to c.args.piece.now c.write_all-in-Log.result
    c.in-Log.is c.write_all-in-Log.ensures.ok c.write_all-in-Log.ensures.err
