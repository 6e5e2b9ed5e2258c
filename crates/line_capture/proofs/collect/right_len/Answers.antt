use Rattle.line_capture.proofs.Keeping.{last_wrong, last_right}
use Rattle.line_capture.specs.Captures.{tells_of}
use Rattle.std.proofs.{Common.◌∙◌, Common.sym, Common.arith, lemmas.List.take_all}
use Rattle.line_capture.proofs.collect.right_len.Goals as goal

pub returns-then-tells_of : goal.returns-then-tells_of
returns-then-tells_of c =
    last_wrong (tells_of c.args.rate c.args.error) c.args.bytes.now _ _ (omega arith)
    (sym c.tells_of.ensures ∙ c.if-tells_of.true)

pub returns-else-tells_of : goal.returns-else-tells_of
returns-else-tells_of c = take_all _ c.args.bytes.now (omega arith)
    ∙ last_right (tells_of c.args.rate c.args.error) c.args.bytes.now _ _ (omega arith)
    (sym c.tells_of.ensures ∙ c.if-tells_of.false)
