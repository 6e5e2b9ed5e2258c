use Rattle.two_wire_box.proofs.Stepping.{makes-wires}
use Rattle.two_wire_box.proofs.laws.steps_make_the_wires.Goals as goal

pub returns : goal.returns
returns g c = λ side waits old new steps sent_setup got_setup taken gate_is device_is link_is
    sent_stands got_stands.
    makes-wires g.S.LinkBox g.C.LinkBox g.X.SlotDisk g.Y.SlotDisk side waits
    c.directions_are_apart.ensures.outgoing c.directions_are_apart.ensures.incoming old new steps
    sent_setup got_setup taken gate_is device_is link_is sent_stands got_stands
