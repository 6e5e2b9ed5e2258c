use Rattle.{device_model.proofs.HuntSteps.takes-whole, std.proofs.Common.[]}
use Rattle.std.proofs.{Common.refl, Common.sym, Common.subst, Common.arith, lemmas.List.take_all}
use Rattle.device_model.proofs.hunting.HuntingDevice.meet_header.Goals as goal

pub returns-clause-behind : goal.returns-clause-behind
returns-clause-behind g c = λ room more.
    let all = takes-whole g.R.LineRules g.R.Hunted.FIRST g.R.Hunted.SECOND g.met.R.Hunted.hunted
    c.take_some.new.self c.args.self.now.bytes.items c.as_slice.result.now
    c.take_some.result c.as_slice.ensures.value room
    (c.take_some.ensures.stands [] c.restart.ensures.stands) c.take_some.ensures.all in
    record {
      start = refl;
      bytes = refl;
      lends = refl;
      lacking = c.lacking-self.ensures c.args.self.now.bytes.items all;
      stands = all;
      none = refl;
    }

pub returns-clause-goes : goal.returns-clause-goes
returns-clause-goes g c = λ room whole none.
    let all = takes-whole g.R.LineRules g.R.Hunted.FIRST g.R.Hunted.SECOND g.met.R.Hunted.hunted
    c.take_some.new.self c.args.self.now.bytes.items c.as_slice.result.now
    c.take_some.result c.as_slice.ensures.value room
    (c.take_some.ensures.stands [] c.restart.ensures.stands) c.take_some.ensures.all in
    let lacking = c.lacking-self.ensures c.args.self.now.bytes.items all in
    absurd (omega arith)

pub returns-then-self-eq0-clause-behind : goal.returns-then-self-eq0-clause-behind
returns-then-self-eq0-clause-behind g c = λ room more.
    let all = takes-whole g.R.LineRules g.R.Hunted.FIRST g.R.Hunted.SECOND g.met.R.Hunted.hunted
    c.take_some.new.self c.args.self.now.bytes.items c.as_slice.result.now
    c.take_some.result c.as_slice.ensures.value room
    (c.take_some.ensures.stands [] c.restart.ensures.stands) c.take_some.ensures.all in
    let lacking = c.lacking-self.ensures c.args.self.now.bytes.items all in
    absurd (omega arith)

pub returns-then-self-eq0-clause-goes : goal.returns-then-self-eq0-clause-goes
returns-then-self-eq0-clause-goes g c = λ room whole none.
    let items = c.args.self.now.bytes.items in
    let all = takes-whole g.R.LineRules g.R.Hunted.FIRST g.R.Hunted.SECOND g.met.R.Hunted.hunted
    c.take_some.new.self items c.as_slice.result.now
    c.take_some.result c.as_slice.ensures.value room
    (c.take_some.ensures.stands [] c.restart.ensures.stands) c.take_some.ensures.all in
    c.end.ensures.goes (omega arith) (omega arith)
    (subst (g.R.LineRules.stands c.take_some.new.self)
    (sym (take_all g.R.LineRules.rules.header_len items (omega arith))) all) room
