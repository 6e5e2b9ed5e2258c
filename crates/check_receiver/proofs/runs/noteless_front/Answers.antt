use Rattle.check_receiver.proofs.Beginnings.{start-keeps}
use Rattle.std.proofs.{Common.sym, Common.arith, Common.length, lemmas.List.take_all}
use Rattle.check_receiver.proofs.runs.noteless_front.Goals as goal

pub returns-then-begin_well-clause-front : goal.returns-then-begin_well-clause-front
returns-then-begin_well-clause-front g c =
    sym (take_all (length c.args.bytes.now) c.args.bytes.now (omega arith))

pub returns-then-begin_well-clause-keeps : goal.returns-then-begin_well-clause-keeps
returns-then-begin_well-clause-keeps g c = λ first others is.
    let well = c.begin_well.ensures c.if-begin_well.true in
    start-keeps g.R.LineRules.rules first others c.args.bytes.now well.0 is well.1 well.2
