use Rattle.two_wire_box.specs.Steady.{steady_state}
use Rattle.two_wire_box.proofs.laws.steady_ends_make_the_wires.Goals as goal

pub returns : goal.returns
returns g c = λ side waits sent_setup got_setup value steps driven.
    c.steps_make_the_wires.ensures side waits driven.begun (steady_state value) steps sent_setup
    got_setup driven.taken driven.at_rest_is driven.device_silent driven.link_silent
    driven.sent_stands driven.got_stands
