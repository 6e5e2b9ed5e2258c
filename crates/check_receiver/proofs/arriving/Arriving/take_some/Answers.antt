use Rattle.{check_receiver.proofs.Lending.of-ok, std.proofs.Common.arith}
use Rattle.check_receiver.proofs.arriving.Arriving.take_some.Goals as goal

pub returns : goal.returns
returns g c = λ room.
    of-ok c.try_extend_from_slice.result _
    (c.try_extend_from_slice.ensures.variant.1 (omega arith)) c.try_extend_from_slice.ensures.ok
