use Rattle.device_model.proofs.{HuntRuns.second-run, HuntSteps.items-held}
use Rattle.std.proofs.Common.{◌≡◌, ◌∙◌, ◌∷◌, [], ◌++◌, length, sym, ap, arith}
use Rattle.device_model.proofs.hunting.HuntingDevice.look.Goals as goal

pub returns-then-byte-SECOND : goal.returns-then-byte-SECOND
returns-then-byte-SECOND g c =
    let one : length c.args.self.now.bytes.items ≡ 1 = omega arith in
    let header = g.met.R.Hunted.header in
    let held = items-held c.args.self.now c.requires.lends in
    second-run g.R.LineRules g.R.Hunted.FIRST g.R.Hunted.SECOND g.met.R.Hunted.hunted
    c.args.self.now _ c.args.at c.args.byte (omega arith) c.keep.ensures.ticks
    (ap length held ∙ one)
    (items-held c.keep.new.self (c.keep.ensures.lends ∙ c.requires.lends)
    ∙ (c.keep.ensures.bytes (omega arith) ∙ ap (λ y. y ++ c.args.byte ∷ []) (sym held)))
    (omega arith) c.keep.ensures.start
