use Rattle.device_model.proofs.HuntSteps.{takes-rest, empty-held}
use Rattle.device_model.specs.Hunt.{header_hunted}
use Rattle.std.proofs.Common.{◌∙◌, sym, ap, drop, refl, arith}
use Rattle.std.proofs.lemmas.{Bool.cond-true, Bool.cond-false, List.take_rest}
use Rattle.device_model.proofs.hunting.HuntingDevice.end.Goals as goal

pub returns-then-not-good-clause-goes : goal.returns-then-not-good-clause-goes
returns-then-not-good-clause-goes g c = λ lacking long stands room.
    let items = c.args.self.now.bytes.items in
    let n = c.min-header.result in
    let header = g.met.R.Hunted.header in
    let value = c.as_slice.ensures.value in
    let all = takes-rest g.R.LineRules g.R.Hunted.FIRST g.R.Hunted.SECOND g.met.R.Hunted.hunted
    c.take_some.new.self items _ n c.take_some.result (omega arith) (omega arith)
    (take_rest c.as_slice.result.now n ∙ ap (drop n) value) room
    (c.take_some.ensures.stands (header_hunted g.R.LineRules.rules items) stands)
    c.take_some.ensures.all in
    record {
      none = empty-held c.lose.new.self c.lose.ensures.lends c.lose.ensures.bytes;
      lacking = c.lose.ensures.lacking;
      frames = sym (cond-false _ _ _
          (sym (c.good.ensures items all) ∙ c.if-not-good.true));
    }

pub returns-clause-goes : goal.returns-clause-goes
returns-clause-goes g c = λ lacking long stands room.
    let items = c.args.self.now.bytes.items in
    let n = c.min-header.result in
    let header = g.met.R.Hunted.header in
    let value = c.as_slice.ensures.value in
    let all = takes-rest g.R.LineRules g.R.Hunted.FIRST g.R.Hunted.SECOND g.met.R.Hunted.hunted
    c.take_some.new.self items _ n c.take_some.result (omega arith) (omega arith)
    (take_rest c.as_slice.result.now n ∙ ap (drop n) value) room
    (c.take_some.ensures.stands (header_hunted g.R.LineRules.rules items) stands)
    c.take_some.ensures.all in
    record {
      none = refl;
      lacking = lacking;
      frames = sym (cond-true _ _ _
          (sym (c.good.ensures items all) ∙ c.if-not-good.false));
    }
