use Rattle.std.proofs.Common.{◌∙◌, ◌++◌, length, take, ap, arith}
use Rattle.std.proofs.lemmas.Slice.{take-put_mid}
use Rattle.line_texts.proofs.LineWriters.{bytes_joined, are_all}
use Rattle.line_texts.proofs.line_writer.LineWriter.join_bytes.Goals as goal

pub returns-clause-joined : goal.returns-clause-joined
returns-clause-joined c = λ yes.
    let before = c.args.self.now in
    let copied = c.copy_from_slice.ensures.after in
    bytes_joined before _ c.args.bytes.now
    (are_all c.args.bytes.now (λ i. let fit = c.type_inv.bytes i in omega arith))
    (omega arith) (omega arith)
    (take-put_mid before.count _ before.bytes c.copy_from_slice.new.self _
    (omega (arith, ap length copied)) (omega arith)
    ∙ ap (λ l. take before.count before.bytes ++ l) copied)
