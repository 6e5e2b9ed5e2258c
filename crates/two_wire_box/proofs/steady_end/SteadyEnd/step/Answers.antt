use Rattle.two_wire_box.proofs.Driving.{driven-more}
use Rattle.two_wire_box.proofs.steady_end.SteadyEnd.step.Goals as goal

pub returns-clause-driven : goal.returns-clause-driven
returns-clause-driven g c = λ side waits sent_setup got_setup steps driven.
    driven-more g.S.LinkBox g.C.LinkBox side waits sent_setup got_setup c.args.self.now _ steps
    c.args.device_wires c.args.link_wires c.unwrap-step.result
    (rw c.unwrap-step.ensures at c.step.ensures.heard)
    (rw c.unwrap-step.ensures at c.step.ensures.gate) (rw c.unwrap-step.ensures at c.step.ensures.side)
    (rw c.unwrap-step.ensures at c.step.ensures.waits) (rw c.unwrap-step.ensures at c.step.ensures.made)
    (rw c.unwrap-step.ensures at c.step.ensures.sent) driven
