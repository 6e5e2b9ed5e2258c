use Rattle.std.proofs.Common.{refl, arith}
use Rattle.line_texts.proofs.LineWriters.{silence_joined}
use Rattle.line_texts.proofs.line_writer.LineWriter.join_silence.Goals as goal

pub returns-clause-joined : goal.returns-clause-joined
returns-clause-joined c = λ yes. silence_joined c.args.self.now _ c.args.ticks (omega arith)
    (omega arith) refl
