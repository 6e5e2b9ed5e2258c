use Rattle.poll_session.proofs.Telling.{tells-polls}
use Rattle.poll_session.proofs.laws.polls_tell.Goals as goal

pub returns : goal.returns
returns c = λ device requests answers near near_back.
    tells-polls device (c.two_wire_devices_read_what_was_sealed.ensures device) requests answers near
    near_back
