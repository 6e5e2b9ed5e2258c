use Rattle.poll_session.proofs.OneTick.{polled-and}
use Rattle.session_lists.specs.ReplayLists.{Listens}
use Rattle.poll_session.specs.Watches.{HasWatched}
use Rattle.std.proofs.Common.{◌++◌, ◌∷◌, [], subst}
use Rattle.two_wire.specs.TwoWire.{heard_device, heard_link}
use Rattle.two_wire.specs.Wires.{heard, hears}
use Rattle.poll_session.proofs.poll_end.PollEnd.step.Goals as goal

pub returns-clause-polled : goal.returns-clause-polled
returns-clause-polled g c = λ dir w others deaf polled.
    let t = c.step-tick.result in
    polled-and g.S.LinkBox g.C.LinkBox g.X.FrameBox g.Y.FrameBox g.V.Device dir c.args.self.now _ w
    others deaf t polled (c.step-tick.ensures.turned dir w others deaf polled.turned)
    (rw (c.hear-device.ensures, c.hear-from_link.ensures) at
    (c.in-Ok.ensures.watched dir (heard_device w) (heard_link w) w.to_device polled.watched))
    (rw c.hear-heard.ensures at (c.in-Ok-hear_into.ensures.ok (hears deaf w.device_wires) polled.listens))
