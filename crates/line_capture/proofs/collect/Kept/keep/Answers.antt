use Rattle.line_capture.proofs.Keeping.{passes_byte, takes_a, takes_b}
use Rattle.std.proofs.{Common.◌∙◌, Common.sym, Common.refl, lemmas.Result.on_ok_weaker}
use Rattle.line_capture.proofs.collect.Kept.keep.Goals as goal

pub returns-then-not-takes : goal.returns-then-not-takes
returns-then-not-takes c = passes_byte c.args.ways c.args.self.now c.args.byte
    c.saturating_add-self.result (sym c.takes.ensures ∙ c.if-not-takes.true) c.saturating_add-self.ensures

pub returns-in-A : goal.returns-in-A
returns-in-A c = on_ok_weaker c.push.result (takes_a c.args.ways c.args.self.now c.args.byte _
    (sym c.takes.ensures ∙ c.if-not-takes.false) c.in-A.is refl refl refl refl) c.push.ensures

pub returns-in-B : goal.returns-in-B
returns-in-B c = on_ok_weaker c.push-in-B.result (takes_b c.args.ways c.args.self.now c.args.byte _
    (sym c.takes.ensures ∙ c.if-not-takes.false) c.in-B.is refl refl refl refl) c.push-in-B.ensures
