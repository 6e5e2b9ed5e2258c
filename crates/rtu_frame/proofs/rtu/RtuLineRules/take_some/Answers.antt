use Rattle.rtu_frame.proofs.RtuLaws.{rtu_take_some}
use Rattle.std.proofs.{Common.◌<◌, Common.arith, lemmas.List.Elements.All-from_get_or}
use Rattle.rtu_frame.proofs.rtu.RtuLineRules.take_some.Goals as goal

pub returns-clause-stands : goal.returns-clause-stands
returns-clause-stands c =
    rtu_take_some c.args.self.now.len c.args.self.now.register c.after_bytes-self.result
    c.min-taken.result c.args.part.now (omega arith) (omega arith)
    (All-from_get_or (λ b. b < 256) c.args.part.now 0
    (λ i within. let fits = c.type_inv.part i in omega arith))
    c.after_bytes-self.ensures
