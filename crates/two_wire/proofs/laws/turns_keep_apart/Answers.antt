use Rattle.two_wire.proofs.Sharing.{turns-apart}
use Rattle.two_wire.proofs.laws.turns_keep_apart.Goals as goal

pub returns : goal.returns
returns c = λ side waits spoken own others same one two.
    turns-apart side waits spoken own others same one two
