use Rattle.two_wire.proofs.Devices.{stated-given}
use Rattle.two_wire.proofs.laws.bursts_may_be_left_out.Goals as goal

pub returns : goal.returns
returns c = stated-given
