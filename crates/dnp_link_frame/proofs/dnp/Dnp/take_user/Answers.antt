use Rattle.dnp_link_frame.proofs.DnpRuns.{has_room}
use Rattle.std.proofs.{Common.arith, Common.take, lemmas.List.length-take}
use Rattle.dnp_link_frame.proofs.dnp.Dnp.take_user.Goals as goal

pub returns-clause-room : goal.returns-clause-room
returns-clause-room c = λ x n stands before.
    has_room c.args.self.now x (take n c.args.following.now) stands (omega arith)
    (omega (arith, length-take n c.args.following.now))
