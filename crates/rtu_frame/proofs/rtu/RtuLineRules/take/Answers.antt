use Rattle.rtu_frame.proofs.RtuLaws.{rtu_take}
use Rattle.std.proofs.{Common.arith, lemmas.Bool.leb-false}
use Rattle.rtu_frame.proofs.rtu.RtuLineRules.take.Goals as goal

pub returns : goal.returns
returns c = rtu_take c.args.self.now.len c.args.self.now.register c.after_byte-self.result
    c.args.b
    (leb-false 256 c.args.self.now.len c.requires) (omega arith) c.after_byte-self.ensures
