use Rattle.device_model.proofs.HuntRuns.{passed-byte, begun-byte}
use Rattle.device_model.proofs.HuntSteps.{items-held, empty-held}
use Rattle.std.proofs.Common.{◌∙◌, ◌∷◌, [], ◌++◌, length, sym, ap, arith}
use Rattle.device_model.proofs.hunting.HuntingDevice.begin.Goals as goal

pub returns-then-byte-FIRST : goal.returns-then-byte-FIRST
returns-then-byte-FIRST g c =
    let none = ap length c.lose.ensures.bytes in
    begun-byte g.R.LineRules g.R.Hunted.FIRST g.R.Hunted.SECOND g.met.R.Hunted.hunted
    c.args.self.now c.keep.new.self c.args.at c.args.byte
    (c.keep.ensures.ticks ∙ c.lose.ensures.ticks) c.requires.lacking
    (λ one. c.requires.other
    (ap length (sym (items-held c.args.self.now c.requires.lends)) ∙ one)) (omega arith)
    (items-held c.keep.new.self (c.keep.ensures.lends ∙ c.lose.ensures.lends)
    ∙ (c.keep.ensures.bytes (omega arith)
    ∙ ap (λ y. y ++ c.args.byte ∷ []) c.lose.ensures.bytes))
    (c.keep.ensures.lacking ∙ c.lose.ensures.lacking) c.keep.ensures.start

pub returns-else-byte-FIRST : goal.returns-else-byte-FIRST
returns-else-byte-FIRST g c =
    passed-byte g.R.LineRules g.R.Hunted.FIRST g.R.Hunted.SECOND g.met.R.Hunted.hunted
    c.args.self.now c.lose.new.self c.args.at c.args.byte c.lose.ensures.ticks c.requires.lacking
    (λ one. c.requires.other
    (ap length (sym (items-held c.args.self.now c.requires.lends)) ∙ one))
    (λ first. omega arith)
    (empty-held c.lose.new.self c.lose.ensures.lends c.lose.ensures.bytes) c.lose.ensures.lacking
